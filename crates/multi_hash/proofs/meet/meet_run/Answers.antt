use Rattle.std.proofs.Common.{◌≡◌, ◌+◌, ◌<◌, ◌++◌, ◌∷◌, [], ℕ, ℤ, pos, nat_abs, List, length, map, take, get_or, ap, sym, ◌∙◌}
use Rattle.std.proofs.Common.{arith, subst, rules, to_z, of_z, w64, FitsSigned}
use Rattle.std.proofs.lemmas.Int.{to_z-of_z}
use Rattle.std.proofs.lemmas.List.{map_more}
use Rattle.bcodes.specs.Value.{IsPlace}
use Rattle.multi_hash.specs.Seen.{first_met, IsSeen}
use Rattle.multi_hash.proofs.MetLemmas.{first_met-append, place_low}
use Rattle.multi_hash.proofs.meet.meet_run.Goals as goal

pub loop-i-preserved : goal.loop-i-preserved
loop-i-preserved c =
    let i : ℕ = c.loop-i.i in
    let labels : List ℤ = c.args.labels.now in
    let here : i < length labels = omega arith in
    let label : ℤ = get_or labels i (pos 0) in
    let place : IsPlace (length c.args.seen.now) label = c.requires.places i (pos 0) here in
    let fits : FitsSigned w64 label = search rules in
    let same : to_z w64 (of_z w64 label) ≡ label = to_z-of_z w64 label fits in
    record {
      met = c.in_ok-meet_one.ensures.met
          ∙ ap (λ (l : ℤ). first_met c.loop-i.met.items (nat_abs l ∷ [])) same
          ∙ ap (λ (l : List ℕ). first_met l (nat_abs label ∷ [])) c.loop-i.invariant.met
          ∙ sym (first_met-append c.args.met.now.items (map nat_abs (take i labels)) (nat_abs label ∷ []))
          ∙ ap (first_met c.args.met.now.items) (sym (map_more nat_abs labels i (pos 0) here));
      seen = subst (λ (n : ℕ). IsSeen n c.meet_one.new.met.items c.meet_one.new.seen) c.loop-i.invariant.count
          c.in_ok-meet_one.ensures.seen;
      count = c.in_ok-meet_one.ensures.count ∙ c.loop-i.invariant.count;
    }
