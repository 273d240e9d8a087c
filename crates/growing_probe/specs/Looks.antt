-- How many keys or buckets a search looks at.
use Rattle.std.specs.Prelude.{ℕ, ◌+◌, length, min}
use Rattle.std.specs.List.{range_with_len, sum_by}
use Rattle.bcodes.specs.Value.{MultiValue}
use Rattle.flip_walk.specs.Patterns.{with_ones}
use Rattle.multi_hash.specs.Maps.{map_keys}

-- the patterns of exactly so many flips or the buckets of map i, whichever are fewer
abbrev pub looks_under : MultiValue → ℕ → ℕ → ℕ
looks_under v flips i = min (length (with_ones v.b flips)) (length (map_keys v i))

-- under all maps
abbrev pub looks_of : MultiValue → ℕ → ℕ
looks_of v flips = sum_by (looks_under v flips) (range_with_len 0 v.nhash)

-- for 0, 1 and so on up to so many flips
abbrev pub looks_up_to : MultiValue → ℕ → ℕ
looks_up_to v flips = sum_by (looks_of v) (range_with_len 0 (flips + 1))
