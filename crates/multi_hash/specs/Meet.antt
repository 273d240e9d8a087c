-- The positions that a query meets.
use Rattle.std.specs.Prelude.{◌≡◌, ℕ, zero, suc, ◌+◌, ◌<◌, List, map, nat_abs, Some}
use Rattle.std.specs.List.{flat_map}
use Rattle.bcodes.specs.Value.{Row}
use Rattle.code_pool.specs.Lists.{PoolLists}
use Rattle.key_buckets.specs.Keys.{key_in, list_of, IsNumbering}
use Rattle.key_buckets.specs.Near.{looks_at, near_lists}
use Rattle.multi_hash.specs.Inside.{lists_in, map_at}

abbrev pub position_of : Row → ℕ
position_of row = nat_abs row.label

-- the positions on a list
abbrev pub positions_on : PoolLists → ℕ → List ℕ
positions_on p l = map position_of (lists_in p l)

-- the lists of the buckets of map i that a query looks into
abbrev pub near_under : List (List (ℕ × ℕ)) → ℕ → ℕ → List ℕ → ℕ → List ℕ
near_under maps b nflip q i = near_lists (map_at maps i) b nflip (key_in i b q)

-- the positions under map i that it meets
abbrev pub met_under : List (List (ℕ × ℕ)) → PoolLists → ℕ → ℕ → List ℕ → ℕ → List ℕ
met_under maps p b nflip q i = flat_map (positions_on p) (near_under maps b nflip q i)

-- how many keys or buckets of the first n maps a query looks at
abbrev pub asked_below : List (List (ℕ × ℕ)) → ℕ → ℕ → ℕ → ℕ
asked_below maps b nflip zero = 0
asked_below maps b nflip (suc i) = asked_below maps b nflip i + looks_at (map_at maps i) b nflip

-- the lists of all maps are there
abbrev pub AreNumbered : List (List (ℕ × ℕ)) → ℕ → Type 0
AreNumbered maps n = (i : ℕ) → IsNumbering n (map_at maps i)
