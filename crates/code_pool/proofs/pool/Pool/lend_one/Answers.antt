use Rattle.std.proofs.Common.{◌+◌, ◌<◌, arith}
use Rattle.code_pool.specs.Chains.{chain_at}
use Rattle.code_pool.proofs.PoolLemmas.{list_len, list_one, place_low}
use Rattle.code_pool.proofs.pool.Pool.lend_one.Goals as goal

pub place-place-requires-clause-within : goal.place-place-requires-clause-within
place-place-requires-clause-within g c =
    omega (
      arith,
      c.requires.within,
      list_len c.self.inside.rows c.self.inside.blocks c.args.self.now c.args.list c.self.view_is c.requires.exists,
    )

pub run-requires : goal.run-requires
run-requires g c =
    let r = c.self.inside.rows in
    let b = c.self.inside.blocks in
    let low : c.args.at < (chain_at b (c.args.list + 1)).len = omega (
      arith,
      c.requires.within,
      list_len r b c.args.self.now c.args.list c.self.view_is c.requires.exists,
    ) in
    let e = c.place-place.ensures in
    omega (arith, place_low r b (c.args.list + 1) c.args.at c.place-place.result c.self.invariant e.apart low e.value)

pub returns-clause-label : goal.returns-clause-label
returns-clause-label g c =
    let r = c.self.inside.rows in
    let b = c.self.inside.blocks in
    let low : c.args.at < (chain_at b (c.args.list + 1)).len = omega (
      arith,
      c.requires.within,
      list_len r b c.args.self.now c.args.list c.self.view_is c.requires.exists,
    ) in
    let e = c.place-place.ensures in
    (list_one r b c.args.self.now c.args.list c.args.at c.place-place.result _ _ c.self.invariant e.apart
    c.self.view_is c.requires.exists low e.value c.run.ensures.labels c.run.ensures.codes c.run.ensures.rows).0

pub returns-clause-code : goal.returns-clause-code
returns-clause-code g c =
    let r = c.self.inside.rows in
    let b = c.self.inside.blocks in
    let low : c.args.at < (chain_at b (c.args.list + 1)).len = omega (
      arith,
      c.requires.within,
      list_len r b c.args.self.now c.args.list c.self.view_is c.requires.exists,
    ) in
    let e = c.place-place.ensures in
    (list_one r b c.args.self.now c.args.list c.args.at c.place-place.result _ _ c.self.invariant e.apart
    c.self.view_is c.requires.exists low e.value c.run.ensures.labels c.run.ensures.codes c.run.ensures.rows).1
