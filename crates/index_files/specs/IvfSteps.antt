-- The fields of an IVF in steps, and what is known of those that were read.
use Rattle.std.specs.Prelude.{◌≡◌, ◌≤◌, ◌<◌, ℕ, ◌+◌, ◌/◌, ℤ, Bool, List, [], ◌∷◌, length, Option, Some, None}
use Rattle.std.specs.Prelude.{FitsSigned, is_some, map}
use Rattle.std.specs.Int.{w64}
use Rattle.std.specs.List.{All}
use Rattle.bcodes.specs.Value.{HasBytes, ListRow, IvfValue}
use Rattle.file_parts.specs.declared.reason.Reason.TheVariants as reason
use Rattle.file_parts.specs.declared.role.Role.{Role}
use Rattle.file_parts.specs.Format.{Format, done, ◌>>=◌, first_refusal}
use Rattle.file_parts.specs.Fields.{bytes_field, each, must_be, number, HeadValue}
use Rattle.index_files.specs.Groups.{concat}
use Rattle.index_files.specs.IvfFormat.{ListSize, full_sizes, numbered_sizes, list_checks, sparse_size_checks}
use Rattle.index_files.specs.IvfFormat.{list_id_checks, list_rows, direct_map, list_kind_checks, list_sizes}

-- ---- the sizes of the lists

-- the sizes of n more lists after those before, of which those of empty lists are left out
abbrev pub filled_sizes : ℕ → ℕ → ℕ → List ℕ → Format (List ListSize)
filled_sizes nlist total n before = do
  sizes ← full_sizes nlist total n before
  done (numbered_sizes 0 sizes)

-- a list and its size with n more such pairs to come, after those before
abbrev pub list_pair : ℕ → ℕ → ℕ → List ListSize → Format ListSize
list_pair nlist total n before = do
  list ← number 8 (list_checks nlist before)
  size ← number 8 (sparse_size_checks total n before)
  done (record { list = list; size = size })

-- lists with rows by their number, from `least` on and below the limit
abbrev pub AreFilled : ℕ → ℕ → List ListSize → Type 0
AreFilled least limit [] = Unit {0}
AreFilled least limit (p ∷ ps) = (least ≤ p.list) × (p.list < limit) × (0 < p.size) × AreFilled (p.list + 1) limit ps

-- ---- the rows

-- By what the ids of rows are tried.
pub record IdRules : Type 0 where
  pub role : Role
  pub count : ℕ
  pub direct : Option (List ℕ)

-- ids from an offset of a list on, each of which passed its checks
abbrev pub ArePassed : IdRules → ℕ → ℕ → List ℤ → Type 0
ArePassed rules list offset [] = Unit {0}
ArePassed rules list offset (id ∷ ids) =
    FitsSigned w64 id
    × (first_refusal (list_id_checks rules.role rules.count rules.direct list offset id) ≡ None)
    × ArePassed rules list (offset + 1) ids

-- these are the rows of a list, whose codes have so many bytes
pub record AreListRows (rules : IdRules) (code_size : ℕ) (p : ListSize) (rows : List ListRow) : Type 0 where
  pub count : length rows ≡ p.size
  pub on : All (λ row. row.list ≡ p.list) rows
  pub code : All (λ row. HasBytes code_size row.code) rows
  pub passed : ArePassed rules p.list 0 (map (λ row. row.label) rows)

-- a direct map has an entry for each label
abbrev pub HasEntries : ℕ → Option (List ℕ) → Type 0
HasEntries count None = Unit {0}
HasEntries count (Some entries) = length entries ≡ count

-- the rows of lists, one list after the other
abbrev pub row_lists : IdRules → ℕ → List ListSize → Format (List ListRow)
row_lists rules code_size sizes = do
  lists ← each sizes (list_rows rules.role code_size rules.count rules.direct)
  done (concat lists)

-- ---- all

-- what stands before the sizes: the letters of the lists, their number and the size of their codes
unfoldable pub list_start : ℕ → ℕ → Format ℕ
list_start nlist code_size = do
  list_kind ← bytes_field 4 list_kind_checks
  same_nlist ← number 8 (must_be nlist reason.Number)
  number 8 (must_be code_size reason.CodeSize)

-- what follows the quantizer
unfoldable pub ivf_lists : Role → HeadValue → ℕ → ℕ → List (List ℕ) → Format IvfValue
ivf_lists role head nlist nprobe centroids = do
  direct ← direct_map head.count
  code_size ← list_start nlist (head.dim / 8)
  sizes ← list_sizes nlist head.count
  lists ← each sizes (list_rows role (head.dim / 8) head.count direct)
  done (record {
    dim = head.dim;
    nlist = nlist;
    nprobe = nprobe;
    max_codes = 0;
    direct = is_some direct;
    centroids = centroids;
    rows = concat lists;
  })
