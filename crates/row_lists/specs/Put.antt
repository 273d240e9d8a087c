-- Rows that are put on lists.
use Rattle.std.specs.Prelude.{◌≡◌, ℕ, pos, ◌+◌, ◌<◌, ◌≤◌, ◌++◌, List, [], ◌∷◌, length, take, cond, nat_eq}
use Rattle.bcodes.specs.Value.{Row}
use Rattle.code_pool.specs.Lists.{PoolLists, list_at, with_list, with_row}
use Rattle.flip_walk.specs.Patterns.{times}
use Rattle.row_lists.specs.Rows.{order_in, lists_in}

-- those of the rows whose list is l
abbrev pub put_on : ℕ → List ℕ → List Row → List Row
put_on l [] rows = []
put_on l (n ∷ ns) [] = []
put_on l (n ∷ ns) (row ∷ rows) = cond (nat_eq l n) (row ∷ put_on l ns rows) (put_on l ns rows)

-- what the order says of a row on a list
abbrev pub mark_of : ℕ → Row
mark_of list = record { label = pos list; code = [] }

-- what a push makes of a pool
pub record IsPushed (p q : PoolLists) (l : ℕ) (row : Row) : Type 0 where
  pub inside : l < length p.lists
  pub room : 0 < (list_at p l).spare
  pub is : q ≡ with_list p l (with_row (list_at p l) row)

-- the first n rows stand on the lists of their numbers, and there is room for the others
pub record IsPut (old_order old_lists : PoolLists) (numbers : List ℕ) (added : List Row) (n : ℕ)
    (new_order new_lists : PoolLists) : Type 0 where
  pub order : order_in new_order ≡ order_in old_order ++ take n numbers
  pub order_one : length new_order.lists ≡ 1
  pub order_size : new_order.code_size ≡ 0
  pub order_room : length numbers ≤ (list_at new_order 0).spare + n
  pub rows : (l : ℕ) → lists_in new_lists l ≡ lists_in old_lists l ++ put_on l (take n numbers) (take n added)
  pub room : (l : ℕ) → times l numbers ≤ (list_at new_lists l).spare + times l (take n numbers)
  pub lists : length new_lists.lists ≡ length old_lists.lists
  pub size : new_lists.code_size ≡ old_lists.code_size
