-- What a count of faults says of a failure, and what a count of bytes says of a read.
use Rattle.std.specs.Prelude.{◌≡◌, ℕ, ◌+◌, ◌-◌, ◌^◌, ◌≤◌, min, Result, MatchResult}
use Rattle.bcodes.specs.Ranges.{raised}

-- one more, up to the last value of `u64`
abbrev pub next_count : ℕ → ℕ
next_count count = min (count + 1) (2 ^ 64 - 1)

-- the count is above what it was, or stands at the last value of `u64`
abbrev pub Rose : ℕ → ℕ → Type 0
Rose before now = next_count before ≤ now

-- the count has not fallen, and rose where the failure came
pub record HasCause (before now : ℕ) (failure : Type 0) : Type 0 where
  pub later : before ≤ now
  pub cause : failure → Rose before now

-- the count rose where the failure came, and is as it was where it did not
pub record CountsFailure (before now : ℕ) (failure : Type 0) : Type 0 where
  pub later : before ≤ now
  pub cause : failure → Rose before now
  pub kept : ¬ failure → now ≡ before

-- n more, up to the last value of `u64`; a count that stands above it stays
abbrev pub RisesBy : ℕ → ℕ → ℕ → Type 0
RisesBy before now n = now ≡ raised before n

-- the count rose by n at `Ok(n)`, and stayed at `Err`
abbrev pub TakesCount : {E : Type 0} → ℕ → ℕ → Result ℕ E → Type 0
TakesCount before now r = MatchResult r (λ n. RisesBy before now n) (λ _. now ≡ before)
