-- The fields of a MultiHash.
use Rattle.std.specs.Prelude.{ℕ, zero, suc, ◌+◌, ◌*◌, ◌/◌, not, ◌||◌, List, [], ◌∷◌, ◌++◌}
use Rattle.std.specs.Prelude.{length, nat_lt, nat_le, ◌==◌, slice_index_or}
use Rattle.std.specs.List.{list_any, range_with_len}
use Rattle.bcodes.specs.Bits.{key}
use Rattle.bcodes.specs.Value.{MultiValue}
use Rattle.bcodes.specs.Ranges.{load_limit}
use Rattle.file_parts.specs.declared.reason.Reason.TheVariants as reason
use Rattle.file_parts.specs.declared.role.Role.{Role}
use Rattle.file_parts.specs.declared.role.Role.TheVariants.{Within}
use Rattle.file_parts.specs.Format.{Check, ◌⇒◌, Format, done, ◌>>=◌}
use Rattle.file_parts.specs.Fields.{must_be, at_most, is_out, bytes_field, number, each, HeadValue, header}
use Rattle.index_files.specs.Canon.{position_width}
use Rattle.index_files.specs.FlatFormat.{flat_inside}
use Rattle.index_files.specs.HashFormat.{has_padding, bucket_count_checks}

-- ---- the packed run

-- k numbers of n bits each, from a bit of the run on
abbrev pub numbers_in : List ℕ → ℕ → ℕ → ℕ → List ℕ
numbers_in run from n zero = []
numbers_in run from n (suc k) = key run from n ∷ numbers_in run (from + n) n k

-- positions of a bucket with the key k under map i, after those that were met before
abbrev pub position_checks : List (List ℕ) → ℕ → ℕ → ℕ → List ℕ → List ℕ → List Check
position_checks codes i b k met [] = []
position_checks codes i b k met (p ∷ ps) =
    (nat_le (length codes) p || list_any (λ m. m == p) met ⇒ reason.Positions)
    ∷ (not (key (slice_index_or codes p []) (i * b) b == k) ⇒ reason.WrongBucket)
    ∷ position_checks codes i b k (met ++ p ∷ []) ps

-- the buckets that are left, from a bit of the run on, after those whose keys were seen and whose positions were met
unfoldable pub map_run_checks :
    List (List ℕ) → ℕ → ℕ → ℕ → List ℕ → ℕ → ℕ → List ℕ → List ℕ → List Check
map_run_checks codes i b width run zero from seen met =
    (not (length met == length codes) ⇒ reason.ListSizes)
    ∷ (has_padding run from ⇒ reason.Padding)
    ∷ []
map_run_checks codes i b width run (suc buckets) from seen met =
    let k = key run from b in
    let size = key run (from + b) width in
    let ps = numbers_in run (from + b + width) width size in
    (list_any (λ j. j == k) seen ⇒ reason.DuplicateKey)
    ∷ (size == 0 ⇒ reason.EmptyBucket)
    ∷ (nat_lt (length codes) (length met + size) ⇒ reason.ListSizes)
    ∷ position_checks codes i b k met ps
    ++ map_run_checks codes i b width run buckets (from + b + width + size * width) (k ∷ seen) (met ++ ps)

-- map i, of which a value keeps nothing, since the codes fix it
unfoldable pub map_fields : List (List ℕ) → ℕ → ℕ → Format (Unit {0})
map_fields codes b i = do
  width ← number 4 (must_be (position_width (length codes)) reason.Bits)
  count ← number 8 (bucket_count_checks (length codes))
  byte_count ← number 8 (must_be (((b + width) * count + length codes * width + 7) / 8) reason.VectorSize)
  run ← bytes_field byte_count (λ run. map_run_checks codes i b width run count 0 [] [])
  done tt

-- ---- all

abbrev pub multi_b_checks : HeadValue → ℕ → List Check
multi_b_checks head b = (is_out 1 64 b || nat_lt head.dim b ⇒ reason.Number) ∷ []

abbrev pub nhash_checks : HeadValue → ℕ → ℕ → List Check
nhash_checks head b nhash =
    (is_out 1 1024 nhash || nat_lt head.dim (nhash * b) ⇒ reason.Number)
    ∷ (nat_lt load_limit (head.count * (head.dim / 8 + 16 + 64 * nhash)) ⇒ reason.Load)
    ∷ []

unfoldable pub multi_body : Role → Format MultiValue
multi_body role = do
  head ← header role
  storage ← flat_inside (Within head.dim head.count)
  b ← number 4 (multi_b_checks head)
  nhash ← number 4 (nhash_checks head b)
  nflip ← number 4 (at_most b reason.Number)
  maps ← each (range_with_len 0 nhash) (map_fields storage.codes b)
  done (record { dim = head.dim; nhash = nhash; b = b; nflip = nflip; codes = storage.codes })
