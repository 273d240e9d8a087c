-- The direct map of an IVF: where the row of each label stands.
use Rattle.std.specs.Prelude.{◌≡◌, ℕ, pos, ◌+◌, ◌*◌, ◌^◌, ◌<◌, ◌≤◌, ◌++◌, Bool, true, false, List, [], length, map}
use Rattle.std.specs.Prelude.{slice_index, slice_index_or}
use Rattle.std.specs.declared.option.Option.{Option}
use Rattle.std.specs.declared.option.Option.TheVariants.{None, Some}
use Rattle.bcodes.specs.Value.{Row, ListRow, IsNumbering}
use Rattle.code_pool.specs.Lists.{no_row}

-- what the map says of a place on a list
abbrev pub entry : ℕ → ℕ → ℕ
entry list offset = list * 2 ^ 32 + offset

-- the row of a label stands on a list at an offset, and its entry says so
pub record IsPlaced (lists : ℕ → List Row) (nlist label e : ℕ) : Type 0 where
  pub list : ℕ
  pub offset : ℕ
  pub is : e ≡ entry list offset
  pub list_below : list < nlist
  pub within : offset < length (lists list)
  pub label_is : (slice_index_or (lists list) offset no_row).label ≡ pos label

-- each label has its entry, and the labels are the numbers below their count
pub record IsDirect (entries : List ℕ) (nlist : ℕ) (lists : ℕ → List Row) (rows : List ListRow) : Type 0 where
  pub count : length entries ≡ length rows
  pub placed : (p : ℕ) → p < length entries → IsPlaced lists nlist p (slice_index entries p)
  pub numbering : IsNumbering (map (λ row. row.label) rows)

-- where there is a map
abbrev pub IsDirectOf : Option (List ℕ) → ℕ → (ℕ → List Row) → List ListRow → Type 0
IsDirectOf None nlist lists rows = Unit {0}
IsDirectOf (Some entries) nlist lists rows = IsDirect entries nlist lists rows

abbrev pub has_map : Option (List ℕ) → Bool
has_map None = false
has_map (Some entries) = true

-- the entries of a map, and for how many more it has room
pub record PlaceList : Type 0 where
  pub entries : List ℕ
  pub spare : ℕ

abbrev pub entries_of : Option PlaceList → Option (List ℕ)
entries_of None = None
entries_of (Some m) = Some m.entries

-- the entries with more behind them
abbrev pub extended : Option (List ℕ) → List ℕ → Option (List ℕ)
extended None places = None
extended (Some entries) places = Some (entries ++ places)

abbrev pub HasRoomOf : ℕ → Option PlaceList → Type 0
HasRoomOf n None = Unit {0}
HasRoomOf n (Some m) = n ≤ m.spare

-- the entries, or none where there is no map
abbrev pub entries_or : Option (List ℕ) → List ℕ
entries_or None = []
entries_or (Some entries) = entries
