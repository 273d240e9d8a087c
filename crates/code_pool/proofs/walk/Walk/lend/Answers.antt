use Rattle.std.proofs.Common.{◌+◌, subst}
use Rattle.code_pool.specs.Lists.{RowWalk, IsRun}
use Rattle.code_pool.proofs.PoolLemmas.{chain_run, stretch_inside, walk_low}
use Rattle.code_pool.proofs.walk.Walk.lend.Goals as goal

pub stretch_ahead-part-requires-clause-within : goal.stretch_ahead-part-requires-clause-within
stretch_ahead-part-requires-clause-within g c =
    let i = c.self.inside in
    walk_low i.rows.now i.blocks.now c.args.self.now i.list i.at c.self.view_is c.requires

pub run-run-requires : goal.run-run-requires
run-run-requires g c =
    let i = c.self.inside in
    let e = c.stretch_ahead-part.ensures in
    stretch_inside i.rows.now i.blocks.now (i.list + 1) i.at _ _ c.self.invariant.pool e.apart e.some e.within e.beside

pub returns-clause-run : goal.returns-clause-run
returns-clause-run g c =
    let i = c.self.inside in
    let e = c.stretch_ahead-part.ensures in
    subst (λ (w : RowWalk). IsRun w.rows w.at w.code_size c.run-run.result.labels.now c.run-run.result.codes.now)
    c.self.view_is
    (chain_run i.rows.now i.blocks.now (i.list + 1) i.at c.stretch_ahead-part.result.from
    c.stretch_ahead-part.result.rows _ _ c.self.invariant.pool e.apart e.some e.most e.within e.beside
    c.run-run.ensures.labels c.run-run.ensures.codes c.run-run.ensures.rows)
