use Rattle.std.proofs.Common.{◌≡◌, ap, rules, arith}
use Rattle.bcodes.specs.Answers.{looked}
use Rattle.bcodes.specs.Marks.{range_mark}
use Rattle.bcodes.proofs.LegalLemmas.{fixed-le-looked}
use Rattle.faissb_core.proofs.SessionLemmas.MeterLemmas.{lent_is}
use Rattle.faissb_core.proofs.sample.queries.ask.Goals as goal

pub range_exact-exact-requires : goal.range_exact-exact-requires
range_exact-exact-requires g c =
    let v = g.I.BinaryIndex.value c.args.index.now in
    let lent : c.lent-lent.result ≡ looked v c.args.query.now = lent_is v c.args.query.now _ _ _ c.dim-dim.ensures.legal
    (ap (λ m. m.lent) c.new-meter.ensures) c.in_ok-hits.ensures.lent c.lent-lent.ensures in
    omega (arith, fixed-le-looked v c.args.query.now, c.fixed.ensures)

pub returns-clause-looked : goal.returns-clause-looked
returns-clause-looked g c =
    let v = g.I.BinaryIndex.value c.args.index.now in
    let lent : c.lent-lent.result ≡ looked v c.args.query.now = lent_is v c.args.query.now _ _ _ c.dim-dim.ensures.legal
    (ap (λ m. m.lent) c.new-meter.ensures) c.in_ok-hits.ensures.lent c.lent-lent.ensures in
    rw (← lent) (search rules)

pub returns-clause-exact : goal.returns-clause-exact
returns-clause-exact g c =
    let v = g.I.BinaryIndex.value c.args.index.now in
    let lent : c.lent-lent.result ≡ looked v c.args.query.now = lent_is v c.args.query.now _ _ _ c.dim-dim.ensures.legal
    (ap (λ m. m.lent) c.new-meter.ensures) c.in_ok-hits.ensures.lent c.lent-lent.ensures in
    let mark : c.range_exact-exact.result ≡ range_mark v c.args.query.now 8
    = c.range_exact-exact.ensures v c.args.query.now
    (record { lent = lent; fixed = c.fixed.ensures; count = c.count.ensures; bound = c.bound.ensures }) in
    rw (← mark) (search rules)
