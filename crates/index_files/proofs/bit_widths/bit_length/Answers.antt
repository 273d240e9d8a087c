use Rattle.std.proofs.Common.{◌≡◌, refl, inl, inr, ℕ, suc, ◌-◌, ◌^◌, ◌<◌, ◌≤◌, ◌+◌, ◌*◌, sym, subst, arith}
use Rattle.std.proofs.lemmas.Bool.{cases_lt}
use Rattle.std.proofs.lemmas.Nat.{leading_length}
use Rattle.std.proofs.Math.Nat.{two-pow-succ}
use Rattle.std.proofs.Math.Pow.{pow_mono}
use Rattle.std.specs.Int.Count.{count_leading_zeros}
use Rattle.index_files.specs.Canon.{bit_length}
use Rattle.index_files.proofs.Width.{Width, width-only}
use Rattle.index_files.proofs.bit_widths.bit_length.Goals as goal

length-is : (x r : ℕ) → x < 2 ^ 64 → r ≡ count_leading_zeros 64 x → 64 - r ≡ bit_length x
length-is x r lt e =
    let found = leading_length 64 x lt in
    let m : ℕ = found.0 in
    let same : 64 - r ≡ m = omega (arith, e, found.1) in
    let holds : x < 2 ^ m = found.2 in
    let most : 2 ^ m ≤ 2 * x + 1 = found.3 in
    let is : Width x m = record {
      holds = holds;
      least = λ k h. (elim (cases_lt k m) [
        | inl less ↦ absurd (
            let up : suc k ≤ m = omega (arith, less) in
            let above : 2 ^ suc k ≤ 2 ^ m = pow_mono up in
            omega (arith, above, most, two-pow-succ k, h))
        | inr more ↦ more
      ]);
    } in
    width-only x (64 - r) lt (subst (Width x) (sym same) is)

pub returns-clause-value : goal.returns-clause-value
returns-clause-value c = length-is c.args.x (count_leading_zeros 64 c.args.x) c.ranges.x.fits refl
