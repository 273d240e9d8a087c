-- What an index under outer ids keeps.
use Rattle.std.specs.Prelude.{◌≡◌, ℤ, false, List, length, FitsSigned}
use Rattle.std.specs.Int.{w64}
use Rattle.std.specs.List.{All}
use Rattle.bcodes.specs.Settings.{needs_ids}
use Rattle.bcodes.specs.Value.{IndexValue, IsPlace, count_of, rows_of}

-- the index inside has no outer ids of its own, one id for each of its rows, and labels that are places among the ids
pub record IsMapped (v : IndexValue) (ids : List ℤ) : Type 0 where
  pub bare : needs_ids v ≡ false
  pub count : length ids ≡ count_of v
  pub fit : All (FitsSigned w64) ids
  pub labels : All (λ row. IsPlace (count_of v) row.label) (rows_of v)
