use Rattle.std.proofs.Common.{◌≡◌, ℕ, ◌+◌, ◌<◌, ◌≤◌, ◌⊎◌, inl, inr, List, length, get_or, min, arith}
use Rattle.std.proofs.lemmas.Bool.{cases_lt}
use Rattle.std.proofs.lemmas.List.{get_or_default}
use Rattle.hit_lists.proofs.runs.least.Goals as goal

-- one more of the numbers
reached_more : (xs : List ℕ) (i m n : ℕ) → n ≡ min m (get_or xs i 0)
    → (m ≡ 4294967295) ⊎ ((k : ℕ) × (k < i) × (get_or xs k 0 ≡ m))
    → (n ≡ 4294967295) ⊎ ((k : ℕ) × (k < i + 1) × (get_or xs k 0 ≡ n))
reached_more xs i m n e r =
    elim (cases_lt (get_or xs i 0) m) [
      | inl less ↦ inr (i, omega arith, omega arith)
      | inr more ↦ elim r [
        | inl top ↦ inl (omega arith)
        | inr at ↦ inr (at.0, omega (arith, at.1), omega (arith, at.2))
      ]
    ]

below_some : (xs : List ℕ) (i m n : ℕ) → i < length xs → n ≡ min m (get_or xs i 0)
    → ((k d : ℕ) → k < i → m ≤ get_or xs k d) → (k d : ℕ) → k < i + 1 → n ≤ get_or xs k d
below_some xs i m n inside e h k d low =
    elim (cases_lt k i) [
      | inl less ↦ omega (arith, h k d less)
      | inr more ↦ let here : k ≡ i = omega arith in rw here (omega (arith, get_or_default xs i d 0 inside))
    ]

pub loop-distance-preserved : goal.loop-distance-preserved
loop-distance-preserved c = record {
  below = below_some c.args.distances.now c.loop-distance.distance-index c.loop-distance.least c.min-least.result
      (omega arith) c.min-least.ensures c.loop-distance.invariant.below;
  reached = reached_more c.args.distances.now c.loop-distance.distance-index c.loop-distance.least c.min-least.result
      c.min-least.ensures c.loop-distance.invariant.reached;
}
