use Rattle.std.proofs.Common.{◌+◌, arith}
use Rattle.code_pool.proofs.PoolLemmas.{list_len, list_run, stretch_inside}
use Rattle.code_pool.proofs.pool.Pool.lend.Goals as goal

pub stretch-part-requires-clause-within : goal.stretch-part-requires-clause-within
stretch-part-requires-clause-within g c =
    omega (
      arith,
      c.requires.within,
      list_len c.self.inside.rows c.self.inside.blocks c.args.self.now c.args.list c.self.view_is c.requires.exists,
    )

pub run-run-requires : goal.run-run-requires
run-run-requires g c =
    let e = c.stretch-part.ensures in
    stretch_inside c.self.inside.rows c.self.inside.blocks
    (c.args.list + 1) c.args.from _ _ c.self.invariant e.apart e.some e.within e.beside

pub returns-clause-run : goal.returns-clause-run
returns-clause-run g c =
    let e = c.stretch-part.ensures in
    list_run c.self.inside.rows c.self.inside.blocks c.args.self.now c.args.list c.args.from
    c.stretch-part.result.from c.stretch-part.result.rows _ _ c.self.invariant e.apart c.self.view_is
    c.requires.exists
    e.some e.most e.within e.beside c.run-run.ensures.labels c.run-run.ensures.codes c.run-run.ensures.rows
