use Rattle.std.proofs.Common.{◌+◌, ◌∙◌, ap, refl, arith}
use Rattle.code_pool.specs.Lists.{list_at, with_copy, with_list}
use Rattle.code_pool.specs.Inside.{pool_in}
use Rattle.code_pool.proofs.PoolLemmas.{copied_none, length-pool, place_low, pool_copied}
use Rattle.code_pool.proofs.keep.move_row.Goals as goal

pub copy-requires-clause-from : goal.copy-requires-clause-from
copy-requires-clause-from c =
    let s = c.place_ahead-source.ensures in
    place_low c.args.rows.now c.args.blocks.now (c.args.list + 1) c.args.from c.place_ahead-source.result
    c.requires.pool s.apart c.requires.from s.value

pub copy-requires-clause-to : goal.copy-requires-clause-to
copy-requires-clause-to c =
    let t = c.place_ahead-target.ensures in
    place_low c.args.rows.now c.args.blocks.now (c.args.list + 1) c.args.to c.place_ahead-target.result
    c.requires.pool t.apart c.requires.to t.value

pub returns-clause-pool : goal.returns-clause-pool
returns-clause-pool c =
    let r = c.args.rows.now in
    let b = c.args.blocks.now in
    let s = c.place_ahead-source.ensures in
    let t = c.place_ahead-target.ensures in
    (pool_copied r c.copy.new.self b (pool_in r b) c.args.list c.args.from c.args.to c.place_ahead-source.result
    c.place_ahead-target.result c.requires.pool s.apart refl (omega (arith, c.requires.exists, length-pool r b))
    c.requires.from s.value c.requires.to t.value c.copy.ensures).0

pub returns-clause-copied : goal.returns-clause-copied
returns-clause-copied c =
    let r = c.args.rows.now in
    let b = c.args.blocks.now in
    let s = c.place_ahead-source.ensures in
    let t = c.place_ahead-target.ensures in
    (pool_copied r c.copy.new.self b (pool_in r b) c.args.list c.args.from c.args.to c.place_ahead-source.result
    c.place_ahead-target.result c.requires.pool s.apart refl (omega (arith, c.requires.exists, length-pool r b))
    c.requires.from s.value c.requires.to t.value c.copy.ensures).1

pub returns-then-from-to-clause-copied : goal.returns-then-from-to-clause-copied
returns-then-from-to-clause-copied c =
    let p = pool_in c.args.rows.now c.args.blocks.now in
    copied_none p c.args.list c.args.from
    ∙ ap (λ n. with_list p c.args.list (with_copy (list_at p c.args.list) c.args.from n)) c.if-from-to.true
