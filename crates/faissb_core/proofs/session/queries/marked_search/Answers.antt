use Rattle.std.proofs.Common.{◌≡◌, refl, ap, arith}
use Rattle.bcodes.specs.Answers.{looked}
use Rattle.bcodes.specs.Marks.{search_mark}
use Rattle.bcodes.proofs.LegalLemmas.{fixed-le-looked}
use Rattle.faissb_core.proofs.SessionLemmas.MeterLemmas.{lent_is}
use Rattle.faissb_core.proofs.session.queries.marked_search.Goals as goal

pub search_exact-exact-requires : goal.search_exact-exact-requires
search_exact-exact-requires g c =
    let v = g.I.BinaryIndex.value c.args.index.now in
    let lent : c.lent.result ≡ looked v c.args.q.now = lent_is v c.args.q.now _ _ _ c.dim-dim.ensures.legal
    (ap (λ m. m.lent) c.new-meter.ensures) c.in_ok-hits.ensures.lent c.lent.ensures in
    omega (arith, fixed-le-looked v c.args.q.now, c.fixed.ensures)

pub returns : goal.returns
returns g c =
    let v = g.I.BinaryIndex.value c.args.index.now in
    let lent : c.lent.result ≡ looked v c.args.q.now = lent_is v c.args.q.now _ _ _ c.dim-dim.ensures.legal
    (ap (λ m. m.lent) c.new-meter.ensures) c.in_ok-hits.ensures.lent c.lent.ensures in
    let lent_still : c.lent-2.result ≡ looked v c.args.q.now = lent_is v c.args.q.now _ _ _ c.dim-dim.ensures.legal
    (ap (λ m. m.lent) c.new-meter.ensures) c.in_ok-hits.ensures.lent c.lent-2.ensures in
    let mark : c.search_exact-exact.result ≡ search_mark v c.args.q.now c.args.k
    = c.search_exact-exact.ensures v c.args.q.now
    (record { lent = lent; fixed = c.fixed.ensures; count = c.count.ensures; bound = c.bound.ensures })
    c.in_ok-hits.ensures.ok in
    rw (c.in_ok-hits.ensures.ok, lent_still, mark) refl
