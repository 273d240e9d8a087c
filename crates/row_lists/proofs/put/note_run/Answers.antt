use Rattle.std.proofs.Common.{rules, ◌≡◌, ◌≤◌, pos, ℤ, length, replicate, take, FitsSigned, to_z, of_z, w64, arith, ap, ◌∙◌}
use Rattle.std.proofs.Common.{length-set}
use Rattle.std.proofs.lemmas.Int.{to_z-of_z}
use Rattle.std.proofs.lemmas.List.{take-replicate}
use Rattle.code_pool.specs.Lists.{PoolLists}
use Rattle.row_lists.specs.Rows.{order_in}
use Rattle.row_lists.proofs.PutLemmas.{order_room, order_run}
use Rattle.row_lists.proofs.put.note_run.Goals as goal

pub loop-done-preserved : goal.loop-done-preserved
loop-done-preserved g c =
    let v = c.loop-done.invariant in
    let p = c.loop-done.order in
    let more = c.min-more.result in
    let few : more ≤ 256 = search rules in
    let fits : FitsSigned w64 c.from-marks.result = search rules in
    let mark : to_z w64 (of_z w64 c.from-marks.result) ≡ pos c.args.list =
    to_z-of_z w64 c.from-marks.result fits ∙ c.from-marks.ensures in
    let are : take c.min-more.result (replicate 256 (to_z w64 (of_z w64 c.from-marks.result)))
    ≡ replicate c.min-more.result (pos c.args.list) =
    take-replicate c.min-more.result 256 (to_z w64 (of_z w64 c.from-marks.result)) few
    ∙ ap (λ (z : ℤ). replicate c.min-more.result z) mark in
    record {
      within = omega (arith, v.within, c.min-more.ensures, c.loop-done-test.true);
      order = order_run p c.push_run.new.self (order_in c.args.order.now) c.args.list c.loop-done.done more _ _ v.one
          c.push_run.ensures are v.order;
      one = ap (λ (q : PoolLists). length q.lists) c.push_run.ensures ∙ length-set p.lists 0 _ ∙ v.one;
      size = ap (λ (q : PoolLists). q.code_size) c.push_run.ensures ∙ v.size;
      room = omega (
        arith,
        v.room,
        c.min-more.ensures,
        order_room p c.push_run.new.self c.args.list more _ _ v.one c.push_run.ensures are,
      );
    }
