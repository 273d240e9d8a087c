-- Rows in groups: list by list, bucket by bucket, and positions map by map.
use Rattle.std.specs.Prelude.{◌≤◌, ℕ, pos, Bool, List, [], ◌∷◌, map, length, nat_lt, if◌then◌else◌}
use Rattle.std.specs.List.{filter, flat_map, position_or_len, range_with_len}
use Rattle.std.specs.Ordering.{int_eq}
use Rattle.bcodes.specs.Value.{Row, ListRow, IvfValue, HashValue, MultiValue}
use Rattle.flip_walk.specs.Patterns.{under}
use Rattle.ivf_index.specs.Direct.{entry}
use Rattle.ivf_index.specs.Table.{list_of}
use Rattle.hash_index.specs.Keys.{hash_keys, bucket}
use Rattle.multi_hash.specs.Maps.{map_keys, positions}

-- lists, one after the other, as one list
abbrev pub concat : {X : Type 0} → List (List X) → List X
concat xss = flat_map (λ xs. xs) xss

-- n is the least number with P
pub record IsLeast (P : ℕ → Type 0) (n : ℕ) : Type 0 where
  pub holds : P n
  pub least : (m : ℕ) → P m → n ≤ m

-- ---- rows of an IVF, list by list

unfoldable pub on_list : IvfValue → ℕ → List ListRow
on_list v list = under list_of v.rows list

-- the lists that are not empty, in order
unfoldable pub filled : IvfValue → List ℕ
filled v = filter (λ list. nat_lt 0 (length (on_list v list))) (range_with_len 0 v.nlist)

abbrev pub by_list : IvfValue → List ListRow
by_list v = flat_map (on_list v) (filled v)

-- ---- the direct map of an IVF

abbrev pub has_label : ℕ → ListRow → Bool
has_label label row = int_eq (pos label) row.label

-- the list of the row with this label
abbrev pub list_with : ℕ → List ListRow → ℕ
list_with label [] = 0
list_with label (row ∷ rows) = if has_label label row then row.list else list_with label rows

-- the number of rows of a list before the one with this label
abbrev pub rows_before : ℕ → List ListRow → ℕ
rows_before label rows = position_or_len (has_label label) rows

-- the entry of the row with this label
unfoldable pub entry_of : IvfValue → ℕ → ℕ
entry_of v label = let list = list_with label v.rows in entry list (rows_before label (on_list v list))

-- the labels that have an entry: all of them, or none
abbrev pub mapped : IvfValue → List ℕ
mapped v = if v.direct then range_with_len 0 (length v.rows) else []

-- ---- rows of a Hash, bucket by bucket

abbrev pub by_key : HashValue → List Row
by_key v = flat_map (bucket v) (hash_keys v)

-- ---- positions of a MultiHash, map by map

-- a bucket of a map: a key and the positions under it
pub record Entry : Type 0 where
  pub key : ℕ
  pub positions : List ℕ

abbrev pub all_positions : List Entry → List ℕ
all_positions entries = flat_map (λ e. e.positions) entries

-- map i with keys in order of first appearance and positions ascending
abbrev pub entries_of : MultiValue → ℕ → List Entry
entries_of v i = map (λ k. record { key = k; positions = positions v i k }) (map_keys v i)
