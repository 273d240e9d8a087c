-- Rows on lists, and the order of their addition.
use Rattle.std.specs.Prelude.{ℕ, nat_abs, nat_eq, cond, List, [], ◌∷◌, map}
use Rattle.bcodes.specs.Value.{Row}
use Rattle.code_pool.specs.Lists.{PoolLists, list_at, no_row}

-- the list numbers of the rows, in their order
abbrev pub order_in : PoolLists → List ℕ
order_in order = map (λ (row : Row). nat_abs row.label) (list_at order 0).rows

-- the rows of each list
abbrev pub lists_in : PoolLists → ℕ → List Row
lists_in lists l = (list_at lists l).rows

abbrev pub first_row : List Row → Row
first_row [] = no_row
first_row (row ∷ rows) = row

abbrev pub rows_after : List Row → List Row
rows_after [] = []
rows_after (row ∷ rows) = rows

-- the rows of the lists, in the order in which the list numbers stand
abbrev pub weave : List ℕ → (ℕ → List Row) → List Row
weave [] lists = []
weave (l ∷ ls) lists = first_row (lists l) ∷ weave ls (λ m. cond (nat_eq m l) (rows_after (lists m)) (lists m))
