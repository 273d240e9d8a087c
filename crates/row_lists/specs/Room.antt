-- Room for rows that are to be added.
use Rattle.std.specs.Prelude.{◌≡◌, ℕ, ◌≤◌, List, length}
use Rattle.code_pool.specs.Lists.{PoolLists, list_at}
use Rattle.flip_walk.specs.Patterns.{times}

-- each list has room for as many rows as the numbers say
abbrev pub HasRoomFor : List ℕ → PoolLists → Type 0
HasRoomFor numbers p = (l : ℕ) → times l numbers ≤ (list_at p l).spare

-- the lists that are none of the numbers have as much room as before
abbrev pub KeepRoom : List ℕ → PoolLists → PoolLists → Type 0
KeepRoom numbers before after = (l : ℕ) → times l numbers ≡ 0 → (list_at before l).spare ≤ (list_at after l).spare

-- no row has moved
pub record SameRows (before after : PoolLists) : Type 0 where
  pub size : after.code_size ≡ before.code_size
  pub lists : length after.lists ≡ length before.lists
  pub rows : (l : ℕ) → (list_at after l).rows ≡ (list_at before l).rows
