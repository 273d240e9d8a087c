-- Room for codes that are to be added.
use Rattle.std.specs.Prelude.{◌≡◌, ◌≢◌, ℕ, zero, suc, ◌+◌, ◌*◌, ◌<◌, ◌≤◌, pos, max}
use Rattle.std.specs.Prelude.{List, [], ◌∷◌, ◌++◌, length, take, drop}
use Rattle.std.specs.Prelude.{cond, nat_lt, slice_index_or, Some}
use Rattle.bcodes.specs.Value.{Row}
use Rattle.code_pool.specs.Lists.{PoolLists}
use Rattle.flip_walk.specs.Patterns.{times}
use Rattle.key_buckets.specs.Keys.{key_in, list_of}
use Rattle.key_buckets.specs.Room.{lists_most}
use Rattle.row_lists.specs.Room.{HasRoomFor}
use Rattle.multi_hash.specs.Inside.{lists_in, map_at}

-- n marks of the positions from p on
abbrev pub marks : ℕ → ℕ → List Row
marks p zero = []
marks p (suc n) = record { label = pos p; code = [] } ∷ marks (p + 1) n

-- the lists of n codes under map i, where those of all maps stand one after the other
abbrev pub lists_under : List ℕ → ℕ → ℕ → List ℕ
lists_under lists n i = take n (drop (i * n) lists)

-- all codes under the first n maps, and the old ones under the others
abbrev pub up_to : ℕ → List (List ℕ) → List (List ℕ) → ℕ → List (List ℕ)
up_to n all old i = cond (nat_lt i n) all old

-- codes have lists under map i, and room there
pub record IsRoomy (i b : ℕ) (maps : List (List (ℕ × ℕ))) (codes : List (List ℕ)) (numbers : List ℕ)
    (p : PoolLists) : Type 0 where
  pub count : length numbers ≡ length codes
  pub found : (j : ℕ) → j < length codes
      → list_of (map_at maps i) (key_in i b (slice_index_or codes j [])) ≡ Some (slice_index_or numbers j 0)
  pub room : HasRoomFor numbers p

-- new keys can be taken out again: no row has moved
pub record AreUndoable (old new : List (List (ℕ × ℕ))) (before after : PoolLists) : Type 0 where
  pub count : length new ≡ length old
  pub prefix : (i : ℕ) → take (length (map_at old i)) (map_at new i) ≡ map_at old i
  pub size : after.code_size ≡ before.code_size
  pub rows : (l : ℕ) → lists_in after l ≡ lists_in before l
  pub lists_least : length before.lists ≤ length after.lists
  pub lists_few : length after.lists ≤ max (length before.lists) lists_most

-- the lists of no two maps are the same
abbrev pub AreApart : List ℕ → ℕ → ℕ → Type 0
AreApart lists nhash n = (i j l : ℕ) → i < nhash → j < nhash → j ≢ i → 0 < times l (lists_under lists n i)
    → times l (lists_under lists n j) ≡ 0
