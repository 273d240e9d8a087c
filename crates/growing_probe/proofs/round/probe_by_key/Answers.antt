use Rattle.std.proofs.Common.{ℕ, ◌||◌, Bool, nat_eq, List, ap, ◌∙◌, arith}
use Rattle.std.specs.List.{filter, list_any}
use Rattle.std.proofs.lemmas.List.{take_all}
use Rattle.multi_hash.specs.Maps.{map_key, map_keys}
use Rattle.growing_probe.specs.Met.{is_at, is_seen}
use Rattle.growing_probe.proofs.BucketLemmas.{any_by_key}
use Rattle.growing_probe.proofs.round.probe_by_key.Goals as goal

pub returns-clause-seen : goal.returns-clause-seen
returns-clause-seen g c =
    let v = c.args.index.now in
    let i : ℕ = c.args.map in
    let keys : List ℕ = map_keys v i in
    λ p low. c.loop-i.invariant.seen p low
    ∙ ap (λ (b : Bool). is_seen c.args.found.now.seen p || b)
    (ap (λ (ks : List ℕ). list_any (nat_eq (map_key v i p)) (filter (is_at c.args.key c.args.flips) ks))
    (take_all c.loop-i.i keys (omega (arith, c.loop-i-test.false, c.buckets-i-end.ensures)))
    ∙ any_by_key v i p c.args.key c.args.flips low)
