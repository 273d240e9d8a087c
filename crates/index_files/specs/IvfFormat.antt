-- The fields of an IVF.
use Rattle.std.specs.Prelude.{ℕ, zero, suc, ◌+◌, ◌-◌, ◌*◌, ◌/◌, ◌%◌, ◌^◌, ℤ, nat_abs, Bool}
use Rattle.std.specs.Prelude.{false, not, ◌&&◌, ◌||◌, List, [], ◌∷◌, ◌++◌, length, map, sum, sum_by}
use Rattle.std.specs.Prelude.{codes, nat_lt, nat_le, ◌==◌, if◌then◌else◌, slice_index, count_by, Option, Some}
use Rattle.std.specs.Prelude.{None, is_some}
use Rattle.std.specs.List.{list_any, zip, range_with_len}
use Rattle.std.specs.Str.{bytes_eq}
use Rattle.bcodes.specs.Value.{ListRow, IvfValue}
use Rattle.file_parts.specs.declared.reason.Reason.TheVariants as reason
use Rattle.file_parts.specs.declared.role.Role.{Role}
use Rattle.file_parts.specs.declared.role.Role.TheVariants.{Quantizer}
use Rattle.file_parts.specs.Format.{Check, ◌⇒◌, check_back, Format, done, ◌>>=◌}
use Rattle.file_parts.specs.Fields.{no_check, must_be, in_range, bytes_field, number, any_number, signed, each}
use Rattle.file_parts.specs.Fields.{repeated, header}
use Rattle.index_files.specs.Groups.{concat}
use Rattle.ivf_index.specs.Direct.{entry}
use Rattle.index_files.specs.FlatFormat.{flat_inside, is_inside, is_no_place}

-- ---- the direct map

-- no direct map
abbrev pub no_entries : Format (Option (List ℕ))
no_entries = do
  entry_count ← number 8 (must_be 0 reason.VectorSize)
  done None

-- an entry for each of `count` labels, of which none is refused here
abbrev pub some_entries : ℕ → Format (Option (List ℕ))
some_entries count = do
  entry_count ← number 8 (must_be count reason.VectorSize)
  entries ← repeated count (any_number 8)
  done (Some entries)

abbrev pub direct_type_checks : ℕ → List Check
direct_type_checks n = (n == 2 ⇒ reason.LeftOut) ∷ (nat_lt 2 n ⇒ reason.Number) ∷ []

unfoldable pub direct_map : ℕ → Format (Option (List ℕ))
direct_map count = do
  direct_type ← number 1 direct_type_checks
  if direct_type == 1 then some_entries count else no_entries

-- ---- the sizes of the lists

-- a list that is not empty, and the number of its rows
pub record ListSize : Type 0 where
  pub list : ℕ
  pub size : ℕ

-- the rows of some lists together
abbrev pub rows_in : List ListSize → ℕ
rows_in lists = sum_by (λ p. p.size) lists

-- A size with n more to come, after those before: the sum so far, and where it is the last the checks of the whole, at
-- the place of the count.
abbrev pub full_size_checks : ℕ → ℕ → ℕ → List ℕ → ℕ → List Check
full_size_checks nlist total n before size =
    let sizes = before ++ size ∷ [] in
    (nat_lt total (sum sizes) ⇒ reason.ListSizes)
    ∷ check_back (8 + 8 * length before)
    (n == 0 && (not (sum sizes == total) || nat_le (count_by (nat_lt 0) sizes) (nlist / 2))) reason.ListSizes
    ∷ []

-- the sizes of n more lists after those before
unfoldable pub full_sizes : ℕ → ℕ → ℕ → List ℕ → Format (List ℕ)
full_sizes nlist total zero before = done before
full_sizes nlist total (suc n) before = do
  size ← number 8 (full_size_checks nlist total n before)
  full_sizes nlist total n (before ++ size ∷ [])

-- the lists that are not empty, by the sizes of all from list i on
abbrev pub numbered_sizes : ℕ → List ℕ → List ListSize
numbered_sizes i [] = []
numbered_sizes i (size ∷ sizes) =
    if size == 0 then numbered_sizes (i + 1) sizes else record {
      list = i;
      size =
          size;
    } ∷ numbered_sizes (i + 1) sizes

abbrev pub full_form : ℕ → ℕ → Format (List ListSize)
full_form nlist total = do
  count ← number 8 (must_be nlist reason.VectorSize)
  sizes ← full_sizes nlist total nlist []
  done (numbered_sizes 0 sizes)

-- a list number after those before: it is above each of them
abbrev pub list_checks : ℕ → List ListSize → ℕ → List Check
list_checks nlist before list =
    (nat_le nlist list || list_any (λ p. nat_le list p.list) before ⇒ reason.ListSizes) ∷ []

-- a size with n more to come, after those before, and where it is the last the check of the whole
abbrev pub sparse_size_checks : ℕ → ℕ → List ListSize → ℕ → List Check
sparse_size_checks total n before size =
    (size == 0 || nat_lt total (rows_in before + size) ⇒ reason.ListSizes)
    ∷ check_back (16 + 16 * length before) (n == 0 && not (rows_in before + size == total)) reason.ListSizes
    ∷ []

-- n more pairs of a list and its size after those before
unfoldable pub sparse_sizes : ℕ → ℕ → ℕ → List ListSize → Format (List ListSize)
sparse_sizes nlist total zero before = done before
sparse_sizes nlist total (suc n) before = do
  list ← number 8 (list_checks nlist before)
  size ← number 8 (sparse_size_checks total n before)
  sparse_sizes nlist total n (before ++ record { list = list; size = size } ∷ [])

-- where no size follows, the check of the whole is one of the count
abbrev pub sparse_count_checks : ℕ → ℕ → ℕ → List Check
sparse_count_checks nlist total count =
    (count % 2 == 1 || nat_lt (2 * (nlist / 2)) count ⇒ reason.VectorSize)
    ∷ (count == 0 && not (total == 0) ⇒ reason.ListSizes)
    ∷ []

abbrev pub sparse_form : ℕ → ℕ → Format (List ListSize)
sparse_form nlist total = do
  count ← number 8 (sparse_count_checks nlist total)
  sparse_sizes nlist total (count / 2) []

abbrev pub form_checks : List ℕ → List Check
form_checks form = (not (bytes_eq form (codes "full") || bytes_eq form (codes "sprs")) ⇒ reason.Fourcc) ∷ []

unfoldable pub list_sizes : ℕ → ℕ → Format (List ListSize)
list_sizes nlist total = do
  form ← bytes_field 4 form_checks
  if bytes_eq form (codes "full") then full_form nlist total else sparse_form nlist total

-- ---- the rows

-- there is a direct map, and its entry for this id is not the one wanted
abbrev pub is_misplaced : Option (List ℕ) → ℕ → ℤ → Bool
is_misplaced None wanted id = false
is_misplaced (Some entries) wanted id = not (slice_index entries (nat_abs id) == wanted)

-- The id of row `offset` of a list: a place inside an IDMap and under a direct map, and under a direct map the one
-- whose
-- entry is that of this row.
abbrev pub list_id_checks : Role → ℕ → Option (List ℕ) → ℕ → ℕ → ℤ → List Check
list_id_checks role count direct list offset id =
    ((is_inside role || is_some direct) && is_no_place count id ⇒ reason.IdRange)
    ∷ (is_misplaced direct (entry list offset) id ⇒ reason.DirectMap)
    ∷ []

unfoldable pub list_id : Role → ℕ → Option (List ℕ) → ℕ → ℕ → Format ℤ
list_id role count direct list offset = signed 8 (list_id_checks role count direct list offset)

abbrev pub rows_on : ℕ → List (List ℕ) → List ℤ → List ListRow
rows_on list list_codes ids = map (λ p. record { label = p.1; code = p.0; list = list }) (zip list_codes ids)

-- the rows of a list: its codes, and then its ids
unfoldable pub list_rows : Role → ℕ → ℕ → Option (List ℕ) → ListSize → Format (List ListRow)
list_rows role code_size count direct p = do
  list_codes ← repeated p.size (bytes_field code_size no_check)
  ids ← each (range_with_len 0 p.size) (list_id role count direct p.list)
  done (rows_on p.list list_codes ids)

-- ---- all

abbrev pub list_kind_checks : List ℕ → List Check
list_kind_checks kind =
    (bytes_eq kind (codes "il00") ⇒ reason.LeftOut)
    ∷ (not (bytes_eq kind (codes "ilar")) ⇒ reason.Fourcc)
    ∷ []

unfoldable pub ivf_body : Role → Format IvfValue
ivf_body role = do
  head ← header role
  nlist ← number 8 (in_range 1 4194304)
  nprobe ← number 8 (in_range 1 (2 ^ 63 - 1))
  quantizer ← flat_inside (Quantizer head.dim nlist head.count head.flag)
  direct ← direct_map head.count
  list_kind ← bytes_field 4 list_kind_checks
  same_nlist ← number 8 (must_be nlist reason.Number)
  same_code_size ← number 8 (must_be (head.dim / 8) reason.CodeSize)
  sizes ← list_sizes nlist head.count
  lists ← each sizes (list_rows role (head.dim / 8) head.count direct)
  done (record {
    dim = head.dim;
    nlist = nlist;
    nprobe = nprobe;
    max_codes = 0;
    direct = is_some direct;
    centroids = quantizer.codes;
    rows = concat lists;
  })
