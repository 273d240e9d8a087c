use Rattle.std.proofs.Common.{◌≡◌, ◌≢◌, ◌+◌, ◌<◌, ◌≤◌, ◌++◌, ℕ, List, length, ap, sym, ◌∙◌, arith, subst}
use Rattle.std.proofs.Common.{inl, inr, nat_eq}
use Rattle.std.specs.Map.{keys_of}
use Rattle.std.proofs.lemmas.Bool.{cases_lt}
use Rattle.multi_hash.proofs.MapsLemmas.{tells}
use Rattle.std.specs.List.{IsDistinct, flat_map, range_with_len}
use Rattle.bcodes.specs.Ranges.{raised}
use Rattle.bcodes.proofs.LegalLemmas.{raised-raised}
use Rattle.key_buckets.specs.Keys.{key_in}
use Rattle.key_buckets.specs.Near.{looks_at, near_lists}
use Rattle.multi_hash.specs.Inside.{map_at}
use Rattle.multi_hash.specs.Meet.{asked_below, near_under}
use Rattle.multi_hash.proofs.MetLemmas.{flat_map-range_next, asked_step, asked_within}
use Rattle.multi_hash.proofs.meet.near_in_maps.Goals as goal

pub returns-in_err-push_near_buckets-clause-asked_most : goal.returns-in_err-push_near_buckets-clause-asked_most
returns-in_err-push_near_buckets-clause-asked_most g c =
    let i : ℕ = c.loop-i.i in
    let here : i + 1 ≤ length c.args.maps.now = omega arith in
    omega (
      arith,
      c.in_err-push_near_buckets.ensures.asked_most,
      ap (λ (es : List (ℕ × ℕ)). looks_at es c.args.b c.args.nflip) c.table.ensures,
      c.loop-i.invariant.asked,
      asked_within c.args.maps.now c.args.b c.args.nflip (i + 1) (length c.args.maps.now) here,
      asked_step c.args.maps.now c.args.b c.args.nflip i,
    )

pub loop-i-preserved : goal.loop-i-preserved
loop-i-preserved g c =
    let i : ℕ = c.loop-i.i in
    let maps = c.args.maps.now in
    let f : ℕ → List ℕ = near_under maps c.args.b c.args.nflip c.args.q.now in
    record {
      near = c.in_ok-push_near_buckets.ensures.near
          ∙ ap (λ (es : List (ℕ × ℕ)). c.loop-i.near.items ++ near_lists es c.args.b c.args.nflip c.chunk-key.result)
          c.table.ensures
          ∙ ap (λ (k : ℕ). c.loop-i.near.items ++ near_lists (map_at maps i) c.args.b c.args.nflip k)
          c.chunk-key.ensures
          ∙ ap (λ (ls : List ℕ). ls ++ f i) c.loop-i.invariant.near
          ∙ sym (flat_map-range_next f i);
      distinct = λ j low. elim (tells j i) [
        | inl e ↦ subst (λ (n : ℕ). IsDistinct nat_eq (keys_of (map_at maps n))) (sym e)
            (subst (λ (es : List (ℕ × ℕ)). IsDistinct nat_eq (keys_of es)) c.table.ensures
            c.in_ok-push_near_buckets.ensures.distinct)
        | inr ne ↦ c.loop-i.invariant.distinct j (below i j low ne)
      ];
      lent = c.in_ok-push_near_buckets.ensures.lent ∙ c.loop-i.invariant.lent;
      asked = c.in_ok-push_near_buckets.ensures.asked
          ∙ ap (λ (es : List (ℕ × ℕ)). raised c.loop-i.meter.asked (looks_at es c.args.b c.args.nflip)) c.table.ensures
          ∙ ap (λ (n : ℕ). raised n (looks_at (map_at maps i) c.args.b c.args.nflip)) c.loop-i.invariant.asked
          ∙ raised-raised c.args.meter.now.asked (asked_below maps c.args.b c.args.nflip i)
          (looks_at (map_at maps i) c.args.b c.args.nflip)
          ∙ ap (raised c.args.meter.now.asked) (sym (asked_step maps c.args.b c.args.nflip i));
      asked_least = omega (arith, c.loop-i.invariant.asked_least, c.in_ok-push_near_buckets.ensures.asked_least);
    }
  where
    below : (i j : ℕ) → j < i + 1 → j ≢ i → j < i
    below i j h ne = elim (cases_lt j i) [ inl l ↦ l | inr l ↦ absurd (ne (omega arith)) ]
