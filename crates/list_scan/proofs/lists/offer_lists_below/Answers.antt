use Rattle.std.proofs.Common.{rules, ◌+◌, ◌<◌, ◌++◌, ℕ, List, length, take, get_or, sym, ap, ◌∙◌, arith}
use Rattle.bcodes.specs.Ranges.{raised}
use Rattle.bcodes.specs.Value.{Row}
use Rattle.bcodes.proofs.LegalLemmas.{raised-raised}
use Rattle.code_pool.specs.Lists.{list_at}
use Rattle.list_scan.specs.Visited.{below, hits_on, rows_at}
use Rattle.list_scan.proofs.BatchLemmas.{below_more}
use Rattle.list_scan.proofs.ListLemmas.{length-rows_at, rows_at-le, rows_at-more}
use Rattle.list_scan.proofs.lists.offer_lists_below.Goals as goal

pub returns-in_err-gather_list_below-clause-lent_most : goal.returns-in_err-gather_list_below-clause-lent_most
returns-in_err-gather_list_below-clause-lent_most g c =
    omega (
      arith,
      c.in_err-gather_list_below.ensures.lent_most,
      c.loop-list.invariant.lent,
      length-rows_at c.args.pool.now c.args.lists.now c.loop-list.list-index c.loop-list-test.true,
      rows_at-le c.args.pool.now c.args.lists.now (c.loop-list.list-index + 1),
    )

pub loop-list-preserved : goal.loop-list-preserved
loop-list-preserved g c =
    let here : c.loop-list.list-index < length c.args.lists.now = c.loop-list-test.true in
    let rows = (list_at c.args.pool.now (get_or c.args.lists.now c.loop-list.list-index 0)).rows in
    let longer = length-rows_at c.args.pool.now c.args.lists.now c.loop-list.list-index here in
    let v = c.loop-list.invariant in
    let e = c.in_ok-gather_list_below.ensures in
    record {
      items = e.items
          ∙ below_more c.args.radius c.args.kernel.now c.args.found.now.items c.loop-list.found.items
          c.loop-list.batch.rows (rows_at c.args.pool.now (take c.loop-list.list-index c.args.lists.now)) rows v.items
          ∙ ap (λ (rs : List Row). c.args.found.now.items ++ below c.args.radius (hits_on c.args.kernel.now rs))
          (sym (rows_at-more c.args.pool.now c.args.lists.now c.loop-list.list-index here));
      batch_size = e.batch_size ∙ v.batch_size;
      batch_room = search rules;
      lent = e.lent ∙ ap (λ (n : ℕ). raised n (length rows)) v.lent
          ∙ raised-raised c.args.meter.now.lent
          (length (rows_at c.args.pool.now (take c.loop-list.list-index c.args.lists.now))) (length rows)
          ∙ ap (raised c.args.meter.now.lent) (sym longer);
      rises = omega (arith, v.rises, e.lent_least);
      asked = e.asked ∙ v.asked;
    }
