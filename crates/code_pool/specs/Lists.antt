-- Lists of rows, and parts of them.
use Rattle.std.specs.Prelude.{◌≡◌, ℕ, ◌+◌, ◌-◌, ◌*◌, ◌/◌, ◌≤◌, ◌≢◌, Bool, true, false, ℤ, pos, FitsSigned, List, []}
use Rattle.std.specs.Prelude.{◌∷◌, ◌++◌, length, take, drop, slice_index_or, slice_set}
use Rattle.std.specs.Int.{w64}
use Rattle.bcodes.specs.Value.{Row, HasBytes}

-- the rows of a list, and for how many more it has room
pub record PoolList : Type 0 where
  pub rows : List Row
  pub spare : ℕ

-- rows with the bytes of a code
pub record SizedRows : Type 0 where
  pub code_size : ℕ
  pub rows : List Row

-- what a pool holds: the bytes of a code, the lists by their numbers, and how many blocks are free
pub record PoolLists : Type 0 where
  pub code_size : ℕ
  pub lists : List PoolList
  pub free : ℕ

-- a walk over the rows of a list: the bytes of a code, the rows, and how many of them lie behind
pub record RowWalk : Type 0 where
  pub code_size : ℕ
  pub rows : List Row
  pub at : ℕ

-- a list that is just opened
abbrev pub no_list : PoolList
no_list = record { rows = []; spare = 0 }

-- what stands past the end of a list
abbrev pub no_row : Row
no_row = record { label = pos 0; code = [] }

-- the list of a number
abbrev pub list_at : PoolLists → ℕ → PoolList
list_at p i = slice_index_or p.lists i no_list

-- the row at a place of a list
abbrev pub row_at : PoolList → ℕ → Row
row_at l i = slice_index_or l.rows i no_row

-- the row at a place among all rows
abbrev pub row_in : SizedRows → ℕ → Row
row_in r i = slice_index_or r.rows i no_row

-- a row of a label and a code
abbrev pub row_of : ℤ → List ℕ → Row
row_of label code = record { label = label; code = code }

-- the label of a row
abbrev pub label_of : Row → ℤ
label_of row = row.label

-- the pool with another list in place of one
abbrev pub with_list : PoolLists → ℕ → PoolList → PoolLists
with_list p i list = record p { lists = slice_set p.lists i list }

-- the rows whose flags are true
abbrev pub kept : List Row → List Bool → List Row
kept [] flags = []
kept (row ∷ rows) [] = []
kept (row ∷ rows) (true ∷ flags) = row ∷ kept rows flags
kept (row ∷ rows) (false ∷ flags) = kept rows flags

-- a list with those rows alone, in the blocks that they need
abbrev pub with_kept : PoolList → List Bool → PoolList
with_kept l flags = record {
  rows = kept l.rows flags;
  spare = 4 * ((length (kept l.rows flags) + 3) / 4) - length
      (kept l.rows flags);
}

-- a list with the row at one place at another too
abbrev pub with_copy : PoolList → ℕ → ℕ → PoolList
with_copy l from to = record { rows = slice_set l.rows to (slice_index_or l.rows from no_row); spare = l.spare }

-- the first rows of a list, with room in place of the others
abbrev pub cut_to : PoolList → ℕ → PoolList
cut_to l len = record { rows = take len l.rows; spare = l.spare + (length l.rows - len) }

-- the pool with room for n more rows of a list, or for n fewer
abbrev pub with_spare : PoolLists → ℕ → ℕ → PoolLists
with_spare p i n = with_list p i (record (list_at p i) { spare = (list_at p i).spare + n })

abbrev pub without_spare : PoolLists → ℕ → ℕ → PoolLists
without_spare p i n = with_list p i (record (list_at p i) { spare = (list_at p i).spare - n })

-- the pool after n free blocks went to a list, and after n of a list's blocks were freed
abbrev pub taken : PoolLists → ℕ → ℕ → PoolLists
taken p i n = record (with_spare p i (4 * n)) { free = p.free - n }

abbrev pub given : PoolLists → ℕ → ℕ → PoolLists
given p i n = record (without_spare p i (4 * n)) { free = p.free + n }

-- how many blocks of 4 rows a list has, and how many more it needs for n more rows
abbrev pub blocks_of : PoolList → ℕ
blocks_of l = (length l.rows + l.spare) / 4

abbrev pub further : PoolList → ℕ → ℕ
further l n = (length l.rows + n + 3) / 4 - blocks_of l

-- a list with one more row, in its spare room
abbrev pub with_row : PoolList → Row → PoolList
with_row l row = record { rows = l.rows ++ row ∷ []; spare = l.spare - 1 }

-- a list with more rows, in its spare room
abbrev pub with_rows : PoolList → List Row → PoolList
with_rows l rows = record { rows = l.rows ++ rows; spare = l.spare - length rows }

-- rows with others in place of those from `at` on
unfoldable pub with_run : List Row → ℕ → List Row → List Row
with_run rows at [] = rows
with_run rows at (row ∷ new) = with_run (slice_set rows at row) (at + 1) new

-- room for n more rows of a list, with the rows of every list as they were
pub record IsReserved (old new : PoolLists) (list n : ℕ) : Type 0 where
  pub code_size : new.code_size ≡ old.code_size
  pub lists : length new.lists ≡ length old.lists
  pub rows : (l : ℕ) → (list_at new l).rows ≡ (list_at old l).rows
  pub spare : n ≤ (list_at new list).spare
  pub others : (l : ℕ) → l ≢ list → (list_at old l).spare ≤ (list_at new l).spare

-- by so many blocks, of which the free ones come first
pub record IsTaken (old new : PoolLists) (list n : ℕ) : Type 0 where
  pub own : blocks_of (list_at new list) ≡ blocks_of (list_at old list) + further (list_at old list) n
  pub others : (l : ℕ) → l ≢ list → blocks_of (list_at new l) ≡ blocks_of (list_at old l)
  pub free : new.free ≡ old.free - further (list_at old list) n

-- labels, and the bytes of their codes one after the other, as rows
unfoldable pub rows_in : ℕ → List ℤ → List ℕ → List Row
rows_in size [] bytes = []
rows_in size (l ∷ ls) bytes = record { label = l; code = take size bytes } ∷ rows_in size ls (drop size bytes)

-- the code at a place of the rows of labels and bytes
abbrev pub code_in : ℕ → List ℤ → List ℕ → ℕ → List ℕ
code_in size labels bytes i = (slice_index_or (rows_in size labels bytes) i no_row).code

-- a row of a pool
pub record IsPoolRow (size : ℕ) (row : Row) : Type 0 where
  pub label : FitsSigned w64 row.label
  pub code : HasBytes size row.code

-- the most rows that are lent at a time
abbrev pub run_rows : ℕ
run_rows = 65536

-- some neighbouring rows of a list, from `from` on
pub record IsRun (list : List Row) (from code_size : ℕ) (labels : List ℤ) (bytes : List ℕ) : Type 0 where
  pub some : 1 ≤ length labels
  pub most : length labels ≤ run_rows
  pub within : from + length labels ≤ length list
  pub size : length bytes ≡ length labels * code_size
  pub rows : rows_in code_size labels bytes ≡ take (length labels) (drop from list)

-- some neighbouring labels of a list, from `from` on
pub record IsPart (list : List ℤ) (from : ℕ) (part : List ℤ) : Type 0 where
  pub some : 1 ≤ length part
  pub within : from + length part ≤ length list
  pub labels : part ≡ take (length part) (drop from list)
