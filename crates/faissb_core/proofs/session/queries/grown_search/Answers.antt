use Rattle.std.proofs.Common.{◌≡◌, ℕ, refl, ap, ◌∙◌}
use Rattle.bcodes.specs.Ranges.{raised}
use Rattle.bcodes.specs.Answers.{looked, relabelled, scan_best}
use Rattle.growing_probe.specs.Grown.{flipped, grown}
use Rattle.faissb_core.proofs.SessionLemmas.GrownLemmas.{scan_places, scan_outer, looked_small}
use Rattle.faissb_core.proofs.session.queries.grown_search.Goals as goal

pub put_outer-requires : goal.put_outer-requires
put_outer-requires c =
    rw c.in_ok-hits.ensures.ok
    (scan_places c.args.index.now c.args.multi.now c.args.q.now c.args.k c.requires.multi)

pub returns : goal.returns
returns c =
    let flips : ℕ = grown c.args.multi.now c.args.q.now c.args.k in
    let hits : c.put_outer.new.hits.items ≡ scan_best c.args.index.now c.args.q.now c.args.k =
    c.put_outer.ensures ∙ ap (relabelled c.args.index.now) c.in_ok-hits.ensures.ok
    ∙ scan_outer c.args.index.now c.args.multi.now c.args.q.now c.args.k c.requires.multi in
    let lent : c.lent.result ≡ looked (flipped c.args.multi.now flips) c.args.q.now =
    c.lent.ensures ∙ c.in_ok-hits.ensures.lent
    ∙ ap (λ (n : ℕ). raised n (looked (flipped c.args.multi.now flips) c.args.q.now)) (ap (λ m. m.lent) c.new-meter.ensures)
    ∙ looked_small c.args.index.now c.args.multi.now flips c.args.q.now c.dim-dim.ensures.legal c.requires.multi in
    rw (hits, lent) refl
