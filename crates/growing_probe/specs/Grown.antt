-- How many flips a search must allow before its answer is that of a full scan.
use Rattle.std.specs.Prelude.{ℕ, List, find, unwrap_or}
use Rattle.std.specs.List.{range_with_len}
use Rattle.bcodes.specs.Value.{MultiValue, IndexValue, Bare, Multi}
use Rattle.bcodes.specs.Marks.{search_mark}

-- the index with `flips` in place of its own setting
abbrev pub flipped : MultiValue → ℕ → IndexValue
flipped v flips = Bare (Multi (record v { nflip = flips }))

-- the least number of flips at which the search is marked as exact: with `b` of them every row is probed
unfoldable pub grown : MultiValue → List ℕ → ℕ → ℕ
grown v q k = unwrap_or (find (λ flips. search_mark (flipped v flips) q k) (range_with_len 0 v.b)) v.b
