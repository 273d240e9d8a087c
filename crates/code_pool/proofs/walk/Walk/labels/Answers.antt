use Rattle.std.proofs.Common.{◌+◌, length, map, ap, subst, sym, ◌∙◌}
use Rattle.code_pool.specs.Lists.{RowWalk, IsPart, label_of}
use Rattle.code_pool.specs.Inside.{walk_in}
use Rattle.code_pool.proofs.PoolLemmas.{chain_labels, stretch_inside, walk_low}
use Rattle.code_pool.proofs.walk.Walk.labels.Goals as goal

pub stretch_ahead-part-requires-clause-within : goal.stretch_ahead-part-requires-clause-within
stretch_ahead-part-requires-clause-within g c =
    let i = c.self.inside in
    walk_low i.rows.now i.blocks.now c.args.self.now i.list i.at c.self.view_is c.requires

pub labels-requires : goal.labels-requires
labels-requires g c =
    let i = c.self.inside in
    let e = c.stretch_ahead-part.ensures in
    stretch_inside i.rows.now i.blocks.now (i.list + 1) i.at _ _ c.self.invariant.pool e.apart e.some e.within e.beside

pub returns-clause-part : goal.returns-clause-part
returns-clause-part g c =
    let i = c.self.inside in
    let e = c.stretch_ahead-part.ensures in
    subst (λ (w : RowWalk). IsPart (map label_of w.rows) w.at c.labels.result.now) c.self.view_is
    (chain_labels i.rows.now i.blocks.now (i.list + 1) i.at c.stretch_ahead-part.result.from
    c.stretch_ahead-part.result.rows _ c.self.invariant.pool e.apart e.some e.within e.beside c.labels.ensures).1

pub returns-clause-past : goal.returns-clause-past
returns-clause-past g c =
    let i = c.self.inside in
    let e = c.stretch_ahead-part.ensures in
    let count = (chain_labels i.rows.now i.blocks.now (i.list + 1) i.at c.stretch_ahead-part.result.from
    c.stretch_ahead-part.result.rows _ c.self.invariant.pool e.apart e.some e.within e.beside c.labels.ensures).0 in
    ap (λ n. walk_in i.rows.now i.blocks.now i.list (i.at + n)) (sym count)
    ∙ ap (λ (w : RowWalk). record w { at = w.at + length c.labels.result.now }) c.self.view_is
