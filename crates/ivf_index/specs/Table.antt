-- Rows on lists, with their order.
use Rattle.std.specs.Prelude.{◌≡◌, ℕ, List, [], ◌∷◌, map}
use Rattle.bcodes.specs.Value.{Row, ListRow, row_of}
use Rattle.flip_walk.specs.Patterns.{under}

-- the number of the list of a row
abbrev pub list_of : ListRow → ℕ
list_of row = row.list

-- the rows of a list, in order
abbrev pub on_list : List ListRow → ℕ → List Row
on_list rows l = map row_of (under list_of rows l)

-- a row on a list
abbrev pub put_row : ℕ → Row → ListRow
put_row l row = record { label = row.label; code = row.code; list = l }

-- each row on the list at its place
abbrev pub put_rows : List ℕ → List Row → List ListRow
put_rows [] rows = []
put_rows (n ∷ ns) [] = []
put_rows (n ∷ ns) (row ∷ rows) = put_row n row ∷ put_rows ns rows

-- the rows stand on their lists, and `order` has the list of each
pub record IsTable (order : List ℕ) (lists : ℕ → List Row) (rows : List ListRow) : Type 0 where
  pub numbers : order ≡ map list_of rows
  pub parts : (l : ℕ) → lists l ≡ on_list rows l
