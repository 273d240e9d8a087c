use Rattle.std.proofs.Common.{ℕ, ℤ, ◌||◌, Bool, nat_abs, nat_eq, List, length, take, get_or, sym, ap, ◌∙◌}
use Rattle.std.proofs.Common.{arith, pos}
use Rattle.std.specs.List.{list_any}
use Rattle.std.proofs.lemmas.List.{length-map}
use Rattle.multi_hash.specs.Maps.{map_keys, positions_at}
use Rattle.growing_probe.specs.Met.{is_seen}
use Rattle.growing_probe.proofs.AnyLemmas.{or_assoc}
use Rattle.growing_probe.proofs.BucketLemmas.{any_all, any_part, any_positions, part_places, positions_low}
use Rattle.growing_probe.proofs.FoundLemmas.{first_number}
use Rattle.growing_probe.proofs.probe.probe_bucket.Goals as goal

pub probe_run-requires-clause-places : goal.probe_run-requires-clause-places
probe_run-requires-clause-places g c =
    let v = c.args.index.now in
    part_places (length v.codes) c.loop-at.at (positions_at v c.args.map c.args.bucket) c.positions-run.result.now
    c.positions-run.ensures (positions_low v c.args.map (get_or (map_keys v c.args.map) c.args.bucket 0))

pub loop-at-preserved : goal.loop-at-preserved
loop-at-preserved g c =
    let v = c.args.index.now in
    let ps : List ℕ = positions_at v c.args.map c.args.bucket in
    let at : ℕ = c.loop-at.at in
    let run : List ℤ = c.positions-run.result.now in
    let before = c.loop-at.invariant in
    record {
      within = omega (arith, c.positions-run.ensures.within, length-map ps pos, c.bucket_len-count.ensures);
      found = first_number v c.args.kernel.now c.loop-at.found.best.k c.args.found.now.best.k c.probe_run.new.found
          before.found.k c.probe_run.ensures.found;
      seen = λ p. let labels : Bool = list_any (λ label. nat_eq p (nat_abs label)) run in
          c.probe_run.ensures.seen p
          ∙ ap (λ (b : Bool). b || labels) (before.seen p)
          ∙ or_assoc (is_seen c.args.found.now.seen p) (list_any (nat_eq p) (take at ps)) labels
          ∙ ap (λ (b : Bool). is_seen c.args.found.now.seen p || b)
          (sym (any_part p at ps run c.positions-run.ensures));
      lent = λ n e. c.probe_run.ensures.lent n (before.lent n e);
      asked = c.probe_run.ensures.asked ∙ before.asked;
    }

pub returns-clause-seen : goal.returns-clause-seen
returns-clause-seen g c =
    let v = c.args.index.now in
    let ps : List ℕ = positions_at v c.args.map c.args.bucket in
    λ p low. c.loop-at.invariant.seen p
    ∙ ap (λ (b : Bool). is_seen c.args.found.now.seen p || b)
    (any_all p c.loop-at.at ps (omega (arith, c.loop-at-test.false, c.bucket_len-count.ensures))
    ∙ any_positions v c.args.map (get_or (map_keys v c.args.map) c.args.bucket 0) p low)
