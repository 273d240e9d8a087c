use Rattle.std.proofs.Common.{◌≡◌, ◌+◌, ◌<◌, ◌^◌, pos, List, length, ap, ◌∙◌, refl, arith, to_z, w64}
use Rattle.std.proofs.lemmas.Int.{ints}
use Rattle.bcodes.specs.Value.{Row}
use Rattle.code_pool.specs.Chains.{list_of}
use Rattle.code_pool.specs.Inside.{pool_in}
use Rattle.code_pool.specs.Lists.{list_at, with_list}
use Rattle.code_pool.proofs.NumberLemmas.{number_one, numbered_all, position_fits}
use Rattle.code_pool.proofs.PoolLemmas.{length-pool, list_len}
use Rattle.code_pool.proofs.number.number_list.Goals as goal

pub overflow_cast-at : goal.overflow_cast-at
overflow_cast-at c =
    let end : c.loop-at.at < (list_of c.args.blocks.now c.args.list).len = omega
    (arith, c.loop-at-test.true, c.loop-at.invariant.end) in
    let small : c.loop-at.at < 2 ^ 63 = position_fits c.args.rows.now c.args.blocks.now (c.args.list + 1) c.loop-at.at
    c.all-all.result c.requires.pool c.requires.exists c.all-all.ensures.total c.all-all.ensures.value
    c.all-all.ensures.few end in
    omega (arith, ints)

pub loop-at-preserved : goal.loop-at-preserved
loop-at-preserved c =
    let b = c.args.blocks.now in
    let p = pool_in c.args.rows.now b in
    let v = c.loop-at.invariant in
    let e = c.place_ahead-place.ensures in
    let here : c.args.list < length p.lists = omega (arith, c.requires.exists, length-pool c.args.rows.now b) in
    let end : c.loop-at.at < (list_of b c.args.list).len = omega (arith, c.loop-at-test.true, v.end) in
    let low : c.loop-at.at < length (list_at p c.args.list).rows = omega (
      arith,
      end,
      list_len c.args.rows.now b p c.args.list refl here,
    ) in
    let small : c.loop-at.at < 2 ^ 63 = position_fits c.args.rows.now b (c.args.list + 1) c.loop-at.at c.all-all.result
    c.requires.pool c.requires.exists c.all-all.ensures.total c.all-all.ensures.value c.all-all.ensures.few end in
    let label : to_z w64 c.loop-at.at ≡ pos c.loop-at.at = omega (arith, ints) in
    let k = number_one p c.loop-at.rows c.relabel.new.self b c.args.list c.loop-at.at c.place_ahead-place.result v.pool
    e.apart here low end v.rows e.value (rw label at c.relabel.ensures) in
    record { end = v.end; pool = k.0; rows = k.1; ahead = e.ahead }

pub returns-clause-numbered : goal.returns-clause-numbered
returns-clause-numbered c =
    let b = c.args.blocks.now in
    let p = pool_in c.args.rows.now b in
    let v = c.loop-at.invariant in
    let here : c.args.list < length p.lists = omega (arith, c.requires.exists, length-pool c.args.rows.now b) in
    let end : c.loop-at.at ≡ length (list_at p c.args.list).rows = omega (
      arith,
      c.loop-at-test.false,
      c.loop-at.auto.at-end,
      v.end,
      list_len c.args.rows.now b p c.args.list refl here,
    ) in
    v.rows
    ∙ ap (λ (rs : List Row). with_list p c.args.list (record { rows = rs; spare = (list_at p c.args.list).spare }))
    (numbered_all c.loop-at.at (list_at p c.args.list).rows end)
