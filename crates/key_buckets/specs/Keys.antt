-- Keys in order of first appearance, and their lists.
use Rattle.std.specs.Prelude.{◌≡◌, ℕ, ◌*◌, ◌<◌, List, [], ◌∷◌, not, nat_eq, Option, Some}
use Rattle.std.specs.List.{filter}
use Rattle.std.specs.Map.{lookup}
use Rattle.bcodes.specs.Bits.{key}

-- each number once, where it comes first
abbrev pub firsts : List ℕ → List ℕ
firsts [] = []
firsts (k ∷ ks) = k ∷ filter (λ j. not (nat_eq j k)) (firsts ks)

-- the key of chunk i of a code
abbrev pub key_in : ℕ → ℕ → List ℕ → ℕ
key_in i b code = key code (i * b) b

-- the list of a key
abbrev pub list_of : List (ℕ × ℕ) → ℕ → Option ℕ
list_of es k = lookup (nat_eq k) es

-- lists have numbers below `used`, and no two keys share one
pub record IsNumbering (used : ℕ) (es : List (ℕ × ℕ)) : Type 0 where
  pub below : (k l : ℕ) → list_of es k ≡ Some l → l < used
  pub apart : (j k l : ℕ) → list_of es j ≡ Some l → list_of es k ≡ Some l → j ≡ k
