-- The fields of a Hash.
use Rattle.std.specs.Prelude.{ℕ, ◌+◌, ◌-◌, ◌*◌, ◌/◌, ℤ, Bool, not, ◌&&◌, ◌||◌, List, []}
use Rattle.std.specs.Prelude.{◌∷◌, ◌++◌, length, map, sum, max, fold, nat_lt, ◌==◌}
use Rattle.std.specs.List.{list_any, zip, range_with_len}
use Rattle.bcodes.specs.Bits.{key}
use Rattle.bcodes.specs.Value.{Row, HashValue}
use Rattle.bcodes.specs.Ranges.{load_limit}
use Rattle.file_parts.specs.declared.reason.Reason.TheVariants as reason
use Rattle.file_parts.specs.declared.role.Role.{Role}
use Rattle.file_parts.specs.Format.{Check, ◌⇒◌, Format, done, ◌>>=◌}
use Rattle.file_parts.specs.Fields.{at_most, is_out, bytes_field, number, signed, each, repeated, HeadValue, header}
use Rattle.index_files.specs.Counts.{known_count}
use Rattle.index_files.specs.Groups.{concat}
use Rattle.index_files.specs.Canon.{bit_length}
use Rattle.index_files.specs.FlatFormat.{is_inside, is_no_place}

-- ---- the packed run

-- a bucket as a packed run gives it
pub record KeySize : Type 0 where
  pub key : ℕ
  pub size : ℕ

-- bucket i of a run of keys of b bits and sizes of so many bits
abbrev pub bucket_at : List ℕ → ℕ → ℕ → ℕ → KeySize
bucket_at run b width i = record { key = key run (i * (b + width)) b; size = key run (i * (b + width) + b) width }

abbrev pub buckets_in : List ℕ → ℕ → ℕ → ℕ → List KeySize
buckets_in run b width count = map (bucket_at run b width) (range_with_len 0 count)

-- the bits of the run from a place on are not all 0
abbrev pub has_padding : List ℕ → ℕ → Bool
has_padding run from = not (key run from (8 * length run - from) == 0)

-- buckets after those with the keys that were seen
abbrev pub bucket_checks : List ℕ → List KeySize → List Check
bucket_checks seen [] = []
bucket_checks seen (p ∷ ps) =
    (list_any (λ k. k == p.key) seen ⇒ reason.DuplicateKey)
    ∷ (p.size == 0 ⇒ reason.EmptyBucket)
    ∷ bucket_checks (p.key ∷ seen) ps

-- the checks behind the last bucket, by the sum of the sizes and the largest
abbrev pub end_checks : ℕ → ℕ → ℕ → ℕ → List ℕ → ℕ → List Check
end_checks width total all largest run from =
    (not (all == total) ⇒ reason.ListSizes)
    ∷ (not (width == bit_length largest) ⇒ reason.Bits)
    ∷ (has_padding run from ⇒ reason.Padding)
    ∷ []

-- the checks of a run of so many buckets that hold `total` rows
unfoldable pub hash_run_checks : ℕ → ℕ → ℕ → ℕ → List ℕ → List Check
hash_run_checks b width count total run =
    let buckets = buckets_in run b width count in
    let sizes = map (λ p. p.size) buckets in
    bucket_checks [] buckets ++ end_checks width total (sum sizes) (fold max 0 sizes) run (count * (b + width))

-- ---- the rows

unfoldable pub bucket_id : Role → ℕ → Format ℤ
bucket_id role count = signed 8 (λ id. (is_inside role && is_no_place count id ⇒ reason.IdRange) ∷ [])

-- a code that has the key of its bucket
unfoldable pub bucket_code : ℕ → ℕ → ℕ → Format (List ℕ)
bucket_code code_size b wanted =
    bytes_field code_size (λ code. (not (key code 0 b == wanted) ⇒ reason.WrongBucket) ∷ [])

abbrev pub hash_rows : List (List ℕ) → List ℤ → List Row
hash_rows codes ids = map (λ p. record { label = p.1; code = p.0 }) (zip codes ids)

-- the codes of a bucket, under these ids
unfoldable pub rows_under : ℕ → ℕ → KeySize → List ℤ → Format (List Row)
rows_under code_size b p ids =
    repeated p.size (bucket_code code_size b p.key) >>= λ codes. done (hash_rows codes ids)

-- the rows of a bucket: its ids, and then its codes
unfoldable pub bucket_rows : Role → ℕ → ℕ → ℕ → KeySize → Format (List Row)
bucket_rows role code_size count b p = do
  id_count ← known_count p.size
  ids ← repeated p.size (bucket_id role count)
  byte_count ← known_count (p.size * code_size)
  rows_under code_size b p ids

-- the rows of buckets, one after the other
unfoldable pub all_rows : Role → ℕ → ℕ → ℕ → List KeySize → Format (List Row)
all_rows role code_size count b ps = each ps (bucket_rows role code_size count b) >>= λ buckets. done (concat buckets)

-- ---- all

abbrev pub hash_b_checks : HeadValue → ℕ → List Check
hash_b_checks head b =
    (is_out 1 64 b || nat_lt head.dim b ⇒ reason.Number)
    ∷ (nat_lt load_limit (head.count * (head.dim / 8 + 80)) ⇒ reason.Load)
    ∷ []

abbrev pub bucket_count_checks : ℕ → ℕ → List Check
bucket_count_checks total n = (nat_lt total n || (n == 0 && not (total == 0)) ⇒ reason.Number) ∷ []

unfoldable pub b_field : HeadValue → Format ℕ
b_field head = number 4 (hash_b_checks head)

unfoldable pub nflip_field : ℕ → Format ℕ
nflip_field b = number 4 (at_most b reason.Number)

unfoldable pub bucket_count_field : ℕ → Format ℕ
bucket_count_field total = number 8 (bucket_count_checks total)

unfoldable pub width_field : Format ℕ
width_field = number 4 (at_most 31 reason.Bits)

-- the packed run, of so many bytes
unfoldable pub run_field : ℕ → ℕ → ℕ → ℕ → ℕ → Format (List ℕ)
run_field b width count total bytes = bytes_field bytes (hash_run_checks b width count total)

-- so many buckets, with sizes of `width` bits, and their rows
unfoldable pub buckets_of : Role → ℕ → ℕ → ℕ → ℕ → ℕ → Format (List Row)
buckets_of role code_size total b count width = do
  byte_count ← known_count (((b + width) * count + 7) / 8)
  run ← run_field b width count total byte_count
  all_rows role code_size total b (buckets_in run b width count)

-- what follows the settings
unfoldable pub hash_buckets : Role → ℕ → ℕ → ℕ → Format (List Row)
hash_buckets role code_size total b = do
  count ← bucket_count_field total
  width ← width_field
  buckets_of role code_size total b count width

-- what follows the header
unfoldable pub hash_rest : Role → HeadValue → Format HashValue
hash_rest role head = do
  b ← b_field head
  nflip ← nflip_field b
  rows ← hash_buckets role (head.dim / 8) head.count b
  done (record { dim = head.dim; b = b; nflip = nflip; rows = rows })

unfoldable pub hash_body : Role → Format HashValue
hash_body role = header role >>= hash_rest role
