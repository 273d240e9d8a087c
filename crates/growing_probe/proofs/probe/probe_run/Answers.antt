use Rattle.std.proofs.Common.{◌≡◌, ℕ, ℤ, pos, ◌<◌, ◌||◌, Bool, nat_abs, nat_eq, List, length, take}
use Rattle.std.proofs.Common.{get_or, set, sym, ap}
use Rattle.std.proofs.Common.{◌∙◌, arith, true, to_z, of_z, w64}
use Rattle.std.specs.List.{list_any}
use Rattle.std.proofs.lemmas.List.Folds.{list_any_more}
use Rattle.bcodes.specs.Value.{Bare, IsPlace, Multi}
use Rattle.bcodes.proofs.LegalLemmas.{count-le}
use Rattle.multi_hash.proofs.MetLemmas.{place_low}
use Rattle.growing_probe.specs.Met.{is_seen}
use Rattle.growing_probe.proofs.AnyLemmas.{or_assoc}
use Rattle.growing_probe.proofs.BucketLemmas.{same_label, seen_more}
use Rattle.growing_probe.proofs.FoundLemmas.{first_number, own_number}
use Rattle.growing_probe.proofs.probe.probe_run.Goals as goal

pub probe_one-requires-clause-found : goal.probe_one-requires-clause-found
probe_one-requires-clause-found g c =
    own_number c.args.index.now c.args.kernel.now c.args.found.now.best.k c.loop-label.found
    c.loop-label.invariant.found

pub loop-label-preserved : goal.loop-label-preserved
loop-label-preserved g c =
    let i : ℕ = c.loop-label.label-index in
    let labels : List ℤ = c.args.labels.now in
    let label : ℤ = get_or labels i (pos 0) in
    let here : i < length labels = omega arith in
    let before = c.loop-label.invariant in
    let place : IsPlace (length c.args.index.now.codes) label = c.requires.places i (pos 0) here in
    let same : to_z w64 (of_z w64 label) ≡ label = same_label (length c.args.index.now.codes) label
    (count-le (Bare (Multi c.args.index.now)) c.requires.found.legal) place in
    let low : nat_abs label < length c.loop-label.found.seen = omega (
      arith,
      place_low (length c.args.index.now.codes) label place,
      before.found.positions,
    ) in
    record {
      found = first_number c.args.index.now c.args.kernel.now c.loop-label.found.best.k c.args.found.now.best.k
          c.probe_one.new.found before.found.k c.probe_one.ensures.found;
      seen = λ p. let test : ℤ → Bool = λ l. nat_eq p (nat_abs l) in
          ap (λ (s : List Bool). is_seen s p) c.probe_one.ensures.seen
          ∙ ap (λ (l : ℤ). is_seen (set c.loop-label.found.seen (nat_abs l) true) p) same
          ∙ seen_more c.loop-label.found.seen (nat_abs label) p low
          ∙ ap (λ (b : Bool). b || nat_eq p (nat_abs label)) (before.seen p)
          ∙ or_assoc (is_seen c.args.found.now.seen p) (list_any test (take i labels)) (nat_eq p (nat_abs label))
          ∙ ap (λ (b : Bool). is_seen c.args.found.now.seen p || b) (sym (list_any_more test labels i (pos 0) here));
      lent = λ n e. c.probe_one.ensures.lent n (before.lent n e);
      asked = c.probe_one.ensures.asked ∙ before.asked;
    }
