-- A code at the bound that no map meets.
use Rattle.std.specs.Prelude.{◌≡◌, ℕ, zero, suc, ◌+◌, ◌*◌, ◌/◌, ◌%◌, ◌^◌, ◌<◌, List, [], ◌∷◌, map, Bool, false, cond}
use Rattle.std.specs.Prelude.{◌&&◌, nat_lt, nat_le}
use Rattle.std.specs.List.{range_with_len}
use Rattle.bcodes.specs.Bits.{bit, dist}
use Rattle.bcodes.specs.Value.{MultiValue, Multi, Bare, IsCode, IsLegalMulti}
use Rattle.bcodes.specs.Answers.{probed_rows}

-- the number whose bit t is 1 where `test` holds of from + t, for t below n
unfoldable pub number_with : (ℕ → Bool) → ℕ → ℕ → ℕ
number_with test from zero = 0
number_with test from (suc t) = cond (test (from + t)) 1 0 * 2 ^ t + number_with test from t

-- the code of n bytes whose bit j is 1 where `test` holds of j
unfoldable pub code_with : (ℕ → Bool) → ℕ → List ℕ
code_with test n = map (λ i. number_with test (i * 8) 8) (range_with_len 0 n)

-- bit j is one of the lowest nflip + 1 bits of one of the nhash chunks of b bits
abbrev pub is_lowest : ℕ → ℕ → ℕ → ℕ → Bool
is_lowest nhash b nflip j = nat_lt (j / b) nhash && nat_le (j % b) nflip

abbrev pub never : ℕ → Bool
never j = false

-- the code of d bits with exactly those bits, and the code of zeros
abbrev pub lowest_of_each : ℕ → ℕ → ℕ → ℕ → List ℕ
lowest_of_each d nhash b nflip = code_with (is_lowest nhash b nflip) (d / 8)

abbrev pub zeros : ℕ → List ℕ
zeros d = code_with never (d / 8)

-- an index with the one code x
abbrev pub holding : ℕ → ℕ → ℕ → ℕ → List ℕ → MultiValue
holding d maps bits flips x = record { dim = d; nhash = maps; b = bits; nflip = flips; codes = x ∷ [] }

-- the code x has the lowest nflip + 1 bits of each chunk and no other, lies at the bound from the code q of zeros,
-- and is not probed for it
pub record IsMissed (d nhash b nflip : ℕ) (x q : List ℕ) : Type 0 where
  pub code : IsCode d x
  pub ones : (j : ℕ) → j < d → bit x j ≡ cond (is_lowest nhash b nflip j) 1 0
  pub query : IsCode d q
  pub none : (j : ℕ) → j < d → bit q j ≡ 0
  pub legal : IsLegalMulti (holding d nhash b nflip x)
  pub distance : dist x q ≡ nhash * (nflip + 1)
  pub missed : probed_rows (Bare (Multi (holding d nhash b nflip x))) q ≡ []
