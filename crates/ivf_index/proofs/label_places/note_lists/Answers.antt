use Rattle.std.proofs.Common.{◌≡◌, length, arith}
use Rattle.ivf_index.proofs.PlaceLemmas.{missing}
use Rattle.ivf_index.proofs.label_places.note_lists.Goals as goal

pub returns-clause-no : goal.returns-clause-no
returns-clause-no g c = λ e.
    let out = c.is_full.ensures.no e in
    let same : length c.loop-list.places ≡ length c.args.places.now = omega (arith, c.loop-list.auto.places) in
    let gap = missing c.args.pool.now c.loop-list.list out.0 c.loop-list.places c.loop-list.invariant
    (omega (arith, c.loop-list-test.false, c.lists-list-end.ensures.value)) c.requires.lists c.requires.few out.1
    out.2 in
    rw (← same) gap
