use Rattle.std.proofs.Common.{◌≡◌, ◌<◌, ◌∙◌, length, ap, refl, sym, arith, false}
use Rattle.code_pool.specs.Inside.{pool_in}
use Rattle.code_pool.specs.Lists.{list_at}
use Rattle.code_pool.proofs.KeepLemmas.{keep_one, keeping-skip, keeping-all}
use Rattle.code_pool.proofs.PoolLemmas.{length-pool, list_len}
use Rattle.code_pool.proofs.keep.move_kept.Goals.{then-keep-at, else-keep-at}
use Rattle.code_pool.proofs.keep.move_kept.Goals as goal

pub loop-at-preserved : goal.loop-at-preserved
loop-at-preserved c =
    let v = c.loop-at.invariant in
    let b = c.args.blocks.now in
    let p = pool_in c.args.rows.now b in
    let q = pool_in c.loop-at.rows b in
    let here : c.args.list < length p.lists = omega (arith, c.requires.exists, length-pool c.args.rows.now b) in
    let end : c.loop-at.at < length c.args.keep.now = omega (arith, c.loop-at-test.true) in
    let low : c.loop-at.at < length (list_at p c.args.list).rows = omega (
      arith,
      c.requires.flags,
      list_len c.args.rows.now b p c.args.list refl here,
    ) in
    elim c.if-keep-at.branch [
      | then-keep-at w ↦
          let k = keep_one p q (pool_in c.if-keep-at.rows b) c.args.list c.loop-at.at c.loop-at.kept
          c.if-keep-at.kept c.args.keep.now false here v.others v.keeping low end w.if-keep-at.true
          (ap (λ r. pool_in r b) w.rows-is ∙ w.move_row.ensures.copied) w.kept-is in
          record {
            end = refl;
            pool = rw w.rows-is w.move_row.ensures.pool;
            others = k.0;
            keeping = k.1;
            sources = rw w.sources-is w.move_row.ensures.sources;
            targets = rw w.targets-is w.move_row.ensures.targets;
          }
      | else-keep-at w ↦ rw (w.rows-is, w.kept-is, w.sources-is, w.targets-is) (record {
        end = refl;
        pool = v.pool;
        others = v.others;
        keeping = keeping-skip (list_at p c.args.list).rows (list_at q c.args.list).rows c.args.keep.now c.loop-at.at
            c.loop-at.kept false v.keeping low end w.if-keep-at.false;
        sources = v.sources;
        targets = v.targets;
      })
    ]

pub returns-clause-within : goal.returns-clause-within
returns-clause-within c =
    let b = c.args.blocks.now in
    let p = pool_in c.args.rows.now b in
    let v = c.loop-at.invariant in
    let here : c.args.list < length p.lists = omega (arith, c.requires.exists, length-pool c.args.rows.now b) in
    let end : c.loop-at.at ≡ length c.args.keep.now = omega (arith, c.loop-at-test.false, c.loop-at.auto.at-end) in
    let flags : length c.args.keep.now ≡ length (list_at p c.args.list).rows = c.requires.flags
    ∙ sym (list_len c.args.rows.now b p c.args.list refl here) in
    (keeping-all _ _ _ c.loop-at.at c.loop-at.kept v.keeping flags end).0

pub returns-clause-front : goal.returns-clause-front
returns-clause-front c =
    let b = c.args.blocks.now in
    let p = pool_in c.args.rows.now b in
    let v = c.loop-at.invariant in
    let here : c.args.list < length p.lists = omega (arith, c.requires.exists, length-pool c.args.rows.now b) in
    let end : c.loop-at.at ≡ length c.args.keep.now = omega (arith, c.loop-at-test.false, c.loop-at.auto.at-end) in
    let flags : length c.args.keep.now ≡ length (list_at p c.args.list).rows = c.requires.flags
    ∙ sym (list_len c.args.rows.now b p c.args.list refl here) in
    (keeping-all _ _ _ c.loop-at.at c.loop-at.kept v.keeping flags end).1

pub returns-clause-count : goal.returns-clause-count
returns-clause-count c =
    let b = c.args.blocks.now in
    let p = pool_in c.args.rows.now b in
    let v = c.loop-at.invariant in
    let here : c.args.list < length p.lists = omega (arith, c.requires.exists, length-pool c.args.rows.now b) in
    let end : c.loop-at.at ≡ length c.args.keep.now = omega (arith, c.loop-at-test.false, c.loop-at.auto.at-end) in
    let flags : length c.args.keep.now ≡ length (list_at p c.args.list).rows = c.requires.flags
    ∙ sym (list_len c.args.rows.now b p c.args.list refl here) in
    (keeping-all _ _ _ c.loop-at.at c.loop-at.kept v.keeping flags end).2
