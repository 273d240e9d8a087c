-- Rows in buckets, with their order.
use Rattle.std.specs.Prelude.{◌≡◌, ℕ, List, length, map, Some, unwrap_or}
use Rattle.std.specs.List.{All}
use Rattle.std.specs.Map.{keys_of}
use Rattle.bcodes.specs.Value.{Row}
use Rattle.flip_walk.specs.Patterns.{under}
use Rattle.key_buckets.specs.Keys.{firsts, list_of, IsNumbering}
use Rattle.hash_index.specs.Keys.{key_of}

-- the list of the key of a row, with 2 ^ 32 where the key has none
abbrev pub number_of : List (ℕ × ℕ) → ℕ → Row → ℕ
number_of es b row = unwrap_or (list_of es (key_of b row)) 4294967296

-- the rows stand on the lists of their keys, `order` has the list of each, and the keys are in order of first
-- appearance
pub record IsTable (b : ℕ) (es : List (ℕ × ℕ)) (order : List ℕ) (lists : ℕ → List Row) (rows : List Row) : Type 0 where
  pub numbering : IsNumbering (length es) es
  pub known : All (λ row. (l : ℕ) × (list_of es (key_of b row) ≡ Some l)) rows
  pub numbers : order ≡ map (number_of es b) rows
  pub parts : (l : ℕ) → lists l ≡ under (number_of es b) rows l
  pub keys : keys_of es ≡ firsts (map (key_of b) rows)
