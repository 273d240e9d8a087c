-- The rows of lists, as hits.
use Rattle.std.specs.Prelude.{ℕ, List, map, nat_lt, take}
use Rattle.std.specs.List.{filter, flat_map}
use Rattle.bcodes.specs.declared.hit.Hit.{Hit}
use Rattle.bcodes.specs.Hits.{in_order}
use Rattle.bcodes.specs.Value.{Row}
use Rattle.bcodes.specs.Answers.{hit_of}
use Rattle.code_pool.specs.Lists.{PoolLists, list_at}

-- the rows of a list
abbrev pub rows_on : PoolLists → ℕ → List Row
rows_on p list = (list_at p list).rows

-- the rows of lists, one list after the other
abbrev pub rows_at : PoolLists → List ℕ → List Row
rows_at p lists = flat_map (rows_on p) lists

-- rows as hits on a query
abbrev pub hits_on : List ℕ → List Row → List Hit
hits_on q rows = map (hit_of q) rows

-- the first k hits
abbrev pub first : ℕ → List Hit → List Hit
first k hits = take k (in_order hits)

-- the hits whose distance is strictly below a radius
abbrev pub below : ℕ → List Hit → List Hit
below radius hits = filter (λ h. nat_lt h.distance radius) hits

-- the most rows that are scanned at a time
abbrev pub scan_rows : ℕ
scan_rows = 1024
