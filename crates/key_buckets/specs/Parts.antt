-- Items in buckets by their keys.
use Rattle.std.specs.Prelude.{◌≡◌, ℕ, List, map, Some}
use Rattle.std.specs.List.{All}
use Rattle.flip_walk.specs.Patterns.{under}
use Rattle.key_buckets.specs.Keys.{list_of}

-- each item's key has a list, and the list of a key shows its items
pub record IsParted {X Y : Type 0} (shown : X → Y) (number : X → ℕ) (es : List (ℕ × ℕ)) (lists : ℕ → List Y)
    (xs : List X) : Type 0 where
  pub known : All (λ x. (l : ℕ) × (list_of es (number x) ≡ Some l)) xs
  pub parts : (k l : ℕ) → list_of es k ≡ Some l → lists l ≡ map shown (under number xs k)
