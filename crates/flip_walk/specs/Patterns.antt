-- Patterns of flips.
use Rattle.std.specs.Prelude.{◌≡◌, ℕ, ◌+◌, ◌^◌, ◌<◌, ◌≤◌, List, [], ◌∷◌, Bool, cond, count_ones, nat_eq}
use Rattle.std.specs.List.{filter, flat_map, range_with_len}

-- x has n one bits
abbrev pub has_ones : ℕ → ℕ → Bool
has_ones n x = nat_eq (count_ones x) n

-- the numbers below 2 ^ b with n one bits, by value
unfoldable pub with_ones : ℕ → ℕ → List ℕ
with_ones b n = filter (has_ones n) (range_with_len 0 (2 ^ b))

-- those with `from`, from + 1 and so on up to from + many - 1 one bits, by that number and then by value
unfoldable pub by_ones : ℕ → ℕ → ℕ → List ℕ
by_ones b from many = flat_map (with_ones b) (range_with_len from many)

-- the numbers below 2 ^ b with at most nflip one bits, by the number of one bits and then by value
abbrev pub flips : ℕ → ℕ → List ℕ
flips b nflip = by_ones b 0 (nflip + 1)

-- how often x stands in a list
abbrev pub times : ℕ → List ℕ → ℕ
times x [] = 0
times x (y ∷ ys) = cond (nat_eq y x) 1 0 + times x ys

-- the walk has each number below 2 ^ b with at most nflip one bits once, and no other
pub record HasEachOnce (b nflip : ℕ) (walk : List ℕ) : Type 0 where
  pub each : (x : ℕ) → x < 2 ^ b → count_ones x ≤ nflip → times x walk ≡ 1
  pub others : (x : ℕ) → nflip < count_ones x → times x walk ≡ 0
  pub below : (x : ℕ) → 2 ^ b ≤ x → times x walk ≡ 0

-- the items whose number is k
abbrev pub under : {X : Type 0} → (X → ℕ) → List X → ℕ → List X
under number xs k = filter (λ x. nat_eq k (number x)) xs
