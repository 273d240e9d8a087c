use Rattle.std.proofs.Common.{◌≡◌, ◌+◌, ◌++◌, ℕ, length, take, subst, sym, ap, ◌∙◌, arith}
use Rattle.bcodes.specs.Counts.{Counts}
use Rattle.bcodes.specs.Ranges.{raised}
use Rattle.bcodes.proofs.LegalLemmas.{raised-raised}
use Rattle.code_pool.specs.Lists.{RowWalk, list_at, rows_in, IsRun}
use Rattle.code_pool.proofs.RowLemmas.{length-rows_in}
use Rattle.std.proofs.lemmas.List.{length-append}
use Rattle.list_scan.specs.Batches.{IsAwaiting}
use Rattle.list_scan.specs.Visited.{hits_on}
use Rattle.list_scan.proofs.BatchLemmas.{await_run}
use Rattle.list_scan.proofs.lists.gather_list.Goals as goal

pub loop-walk-preserved : goal.loop-walk-preserved
loop-walk-preserved g c =
    let rows = (list_at c.args.pool.now c.args.list).rows in
    let q = c.args.kernel.now in
    let size = length c.args.kernel.now in
    let at = c.loop-walk.walk.at in
    let labels = c.lend.result.labels.now in
    let codes = c.lend.result.codes.now in
    let v = c.loop-walk.invariant in
    let m = c.make_room.ensures in
    let run : IsRun rows at size labels codes = rw (v.rows, v.size ∙ c.requires.size) at c.lend.ensures.run in
    let past : c.lend.new.self.at ≡ c.loop-walk.walk.at + length labels = ap (λ (w : RowWalk). w.at)
    c.lend.ensures.past in
    let pushed : c.push.new.self.rows ≡ c.make_room.new.batch.rows ++ rows_in size labels codes = c.push.ensures.rows
    ∙ ap (λ (n : ℕ). c.make_room.new.batch.rows ++ rows_in n labels codes)
    (m.batch_size ∙ v.batch_size ∙ c.requires.batch_size) in
    record {
      size = ap (λ (w : RowWalk). w.code_size) c.lend.ensures.past ∙ v.size;
      rows = ap (λ (w : RowWalk). w.rows) c.lend.ensures.past ∙ v.rows;
      within = omega (arith, past, run.within, c.len-count.ensures.value);
      items = λ all e.
          let met = all ++ hits_on q (take at rows) in
          let old = hits_on q c.loop-walk.batch.rows in
          let new = hits_on q c.make_room.new.batch.rows in
          await_run c.args.best.now.k q all c.make_room.new.best.items c.make_room.new.batch.rows c.push.new.self.rows
          rows at c.lend.new.self.at size labels codes run past pushed
          (subst (λ (k : ℕ). IsAwaiting k met c.make_room.new.best.items new) v.k
          (m.items met (subst (λ (k : ℕ). IsAwaiting k met c.loop-walk.best.items old) (sym v.k) (v.items all e))));
      grown = omega (
        arith,
        v.grown,
        m.grown,
        past,
        ap length pushed,
        length-append c.make_room.new.batch.rows (rows_in size labels codes),
        length-rows_in size labels codes,
      );
      batch_size = c.push.ensures.size ∙ m.batch_size ∙ v.batch_size;
      batch_room = c.push.ensures.room ∙ m.batch_room ∙ v.batch_room;
      k = m.k ∙ v.k;
      most = m.most ∙ v.most;
      bits = m.bits ∙ v.bits;
      lent = c.lend.ensures.lent ∙ ap (λ (n : Counts). record n { lent = raised n.lent (length labels) }) v.lent
          ∙ ap (λ (n : ℕ). record c.args.meter.now { lent = n }) (raised-raised c.args.meter.now.lent at (length labels)
          ∙ ap (raised c.args.meter.now.lent) (sym past));
      rises = omega (arith, v.rises, c.lend.ensures.rises);
    }
