-- Rows under their positions.
use Rattle.std.specs.Prelude.{ℕ, ◌++◌, List, map, take, drop}
use Rattle.bcodes.specs.Value.{Row, numbered}
use Rattle.code_pool.specs.Lists.{PoolList}

-- the first n rows under the labels 0, 1, 2 and so on, and the others as they are
abbrev pub numbered_to : ℕ → List Row → List Row
numbered_to n rows = numbered 0 (map (λ (row : Row). row.code) (take n rows)) ++ drop n rows

-- a list whose rows have the labels 0, 1, 2 and so on
abbrev pub with_positions : PoolList → PoolList
with_positions l = record { rows = numbered 0 (map (λ (row : Row). row.code) l.rows); spare = l.spare }
