use Rattle.std.proofs.Common.{◌+◌, arith}
use Rattle.code_pool.proofs.PoolLemmas.{list_len, list_labels, stretch_inside}
use Rattle.code_pool.proofs.pool.Pool.labels.Goals as goal

pub stretch-part-requires-clause-within : goal.stretch-part-requires-clause-within
stretch-part-requires-clause-within g c =
    omega (
      arith,
      c.requires.within,
      list_len c.self.inside.rows c.self.inside.blocks c.args.self.now c.args.list c.self.view_is c.requires.exists,
    )

pub labels-requires : goal.labels-requires
labels-requires g c =
    let e = c.stretch-part.ensures in
    stretch_inside c.self.inside.rows c.self.inside.blocks
    (c.args.list + 1) c.args.from _ _ c.self.invariant e.apart e.some e.within e.beside

pub returns : goal.returns
returns g c =
    let e = c.stretch-part.ensures in
    list_labels c.self.inside.rows c.self.inside.blocks c.args.self.now c.args.list c.args.from
    c.stretch-part.result.from c.stretch-part.result.rows _ c.self.invariant e.apart c.self.view_is
    c.requires.exists
    e.some e.within e.beside c.labels.ensures
