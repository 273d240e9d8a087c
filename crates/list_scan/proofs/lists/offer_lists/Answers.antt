use Rattle.std.proofs.Common.{rules, ◌≡◌, ◌+◌, ◌<◌, ◌++◌, ℕ, [], length, take, get_or, subst, sym, ap, ◌∙◌}
use Rattle.std.proofs.Common.{arith}
use Rattle.bcodes.specs.Counts.{Counts}
use Rattle.bcodes.specs.Ranges.{raised}
use Rattle.bcodes.proofs.LegalLemmas.{raised-raised}
use Rattle.code_pool.specs.Lists.{list_at}
use Rattle.list_scan.specs.Batches.{IsAwaiting, WaitingRows}
use Rattle.list_scan.specs.Visited.{hits_on, rows_at}
use Rattle.list_scan.proofs.BatchLemmas.{await_list, await_start}
use Rattle.list_scan.proofs.ListLemmas.{length-rows_at, rows_at-le}
use Rattle.list_scan.proofs.lists.offer_lists.Goals as goal

pub loop-list-init : goal.loop-list-init
loop-list-init g c =
    let none : c.new-batch.result.rows ≡ [] = ap (λ (b : WaitingRows). b.rows) c.new-batch.ensures in
    record {
      items = λ hits e. await_start c.args.best.now.k c.args.kernel.now hits c.args.best.now.items
          c.new-batch.result.rows none e;
      grown = omega (arith, ap length none);
      batch_size = ap (λ (b : WaitingRows). b.size) c.new-batch.ensures ∙ c.size.ensures.value;
      batch_room = search rules;
      k = search rules;
      most = search rules;
      bits = search rules;
      lent = search rules;
      rises = omega arith;
    }

pub gather_list-requires-clause-room : goal.gather_list-requires-clause-room
gather_list-requires-clause-room g c =
    omega (
      arith,
      c.loop-list.invariant.grown,
      c.loop-list.invariant.most,
      c.requires.room,
      length-rows_at c.args.pool.now c.args.lists.now c.loop-list.list-index c.loop-list-test.true,
      rows_at-le c.args.pool.now c.args.lists.now (c.loop-list.list-index + 1),
    )

pub loop-list-preserved : goal.loop-list-preserved
loop-list-preserved g c =
    let q = c.args.kernel.now in
    let here : c.loop-list.list-index < length c.args.lists.now = c.loop-list-test.true in
    let rows = (list_at c.args.pool.now (get_or c.args.lists.now c.loop-list.list-index 0)).rows in
    let longer = length-rows_at c.args.pool.now c.args.lists.now c.loop-list.list-index here in
    let v = c.loop-list.invariant in
    let e = c.gather_list.ensures in
    record {
      items = λ hits is.
          let met = hits ++ hits_on q (rows_at c.args.pool.now (take c.loop-list.list-index c.args.lists.now)) in
          let old = hits_on q c.loop-list.batch.rows in
          let new = hits_on q c.gather_list.new.batch.rows in
          await_list c.args.best.now.k q c.args.pool.now c.args.lists.now c.loop-list.list-index hits
          c.gather_list.new.best.items new here
          (subst (λ (k : ℕ). IsAwaiting k (met ++ hits_on q rows) c.gather_list.new.best.items new) v.k
          (e.items met (subst (λ (k : ℕ). IsAwaiting k met c.loop-list.best.items old) (sym v.k) (v.items hits is))));
      grown = omega (arith, v.grown, longer, e.grown);
      batch_size = e.batch_size ∙ v.batch_size;
      batch_room = search rules;
      k = e.k ∙ v.k;
      most = e.most ∙ v.most;
      bits = e.bits ∙ v.bits;
      lent = e.lent
          ∙ ap (λ (m : Counts). record m { lent = raised m.lent (length rows) }) v.lent
          ∙ ap (λ (n : ℕ). record c.args.meter.now { lent = n })
          (raised-raised c.args.meter.now.lent
          (length (rows_at c.args.pool.now (take c.loop-list.list-index c.args.lists.now))) (length rows)
          ∙ ap (raised c.args.meter.now.lent) (sym longer));
      rises = omega (arith, v.rises, e.rises);
    }
