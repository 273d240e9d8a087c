-- The pigeonhole: a distance is at least the sum of the distances over disjoint chunks.
use Rattle.std.proofs.Common.{◌≡◌, ℕ, zero, suc, ◌+◌, ◌-◌, ◌*◌, ◌/◌, ◌<◌, ◌≤◌, Bool, true, false, ◌||◌, inl, inr}
use Rattle.std.proofs.Common.{nat_le, List, length}
use Rattle.std.proofs.Common.{refl, ap, arith, true≢false}
use Rattle.std.proofs.lemmas.Bool.{leb-false}
use Rattle.bcodes.specs.Bits.{dist, dist_between, differing}
use Rattle.bcodes.specs.Value.{MultiValue, IsLegalMulti}
use Rattle.bcodes.specs.Answers.{some_chunk_near}
use Rattle.bcodes.proofs.BitLemmas.{differing-add, differing-le_part}
use Rattle.bcodes.proofs.OrderLemmas.{either}

neither : (s t : Bool) → (s || t) ≡ false → (s ≡ false) × (t ≡ false)
neither true t e = absurd (true≢false e)
neither false t e = (refl, e)

pub chunk_is : (x q : List ℕ) (i b : ℕ) → dist_between x q (i * b) (i * b + b) ≡ differing x q (i * b) b
chunk_is x q i b = let e : (i * b + b) - i * b ≡ b = omega arith in ap (differing x q (i * b)) e

-- where no chunk is near, each adds nflip + 1
pub far_chunks : (x q : List ℕ) (b nflip n : ℕ) → some_chunk_near x q b nflip n ≡ false
    → n * (nflip + 1) ≤ differing x q 0 (n * b)
far_chunks x q b nflip zero e = omega arith
far_chunks x q b nflip (suc n) e =
    let parts = neither (some_chunk_near x q b nflip n) (nat_le (dist_between x q (n * b) (n * b + b)) nflip) e in
    let far : nflip < dist_between x q (n * b) (n * b + b) = leb-false
    (dist_between x q (n * b) (n * b + b)) nflip parts.1 in
    let at : 0 + n * b ≡ n * b = omega arith in
    let whole : suc n * b ≡ n * b + b = omega arith in
    omega (
      arith,
      far,
      chunk_is x q n b,
      far_chunks x q b nflip n parts.0,
      differing-add x q 0 (n * b) b,
      ap (λ m. differing x q m b) at,
      ap (differing x q 0) whole,
    )

-- a code nearer than the bound has a chunk that is near
pub near_chunk : (v : MultiValue) (x q : List ℕ) → IsLegalMulti v → length x ≡ v.dim / 8
    → dist x q < v.nhash * (v.nflip + 1) → some_chunk_near x q v.b v.nflip v.nhash ≡ true
near_chunk v x q legal size less =
    elim (either (some_chunk_near x q v.b v.nflip v.nhash)) [
      | inl e ↦ e
      | inr e ↦ absurd (
          let within : v.nhash * v.b ≤ 8 * length x = omega (arith, size, legal.within, legal.dim.whole_bytes) in
          omega (
            arith,
            far_chunks x q v.b v.nflip v.nhash e,
            differing-le_part x q 0 (v.nhash * v.b) (8 * length x) within,
            less,
          ))
    ]
