use Rattle.std.proofs.Common.{◌≡◌, ◌+◌, ◌++◌, ℕ, length, map, take, sym, ap, ◌∙◌, arith}
use Rattle.bcodes.specs.Counts.{Counts}
use Rattle.bcodes.specs.Hits.{in_order}
use Rattle.bcodes.specs.Ranges.{raised}
use Rattle.bcodes.specs.Answers.{hit_of}
use Rattle.bcodes.proofs.LegalLemmas.{raised-raised}
use Rattle.code_pool.specs.Lists.{RowWalk, list_at, rows_in, IsRun}
use Rattle.list_scan.proofs.ListLemmas.{best_more}
use Rattle.list_scan.proofs.scan.offer_list.Goals as goal

pub loop-walk-preserved : goal.loop-walk-preserved
loop-walk-preserved g c =
    let rows = (list_at c.args.pool.now c.args.list).rows in
    let q = c.args.kernel.now in
    let size = length c.args.kernel.now in
    let at = c.loop-walk.walk.at in
    let labels = c.lend-run.result.labels.now in
    let codes = c.lend-run.result.codes.now in
    let v = c.loop-walk.invariant in
    let run : IsRun rows at size labels codes = rw (v.rows, v.size ∙ c.requires.size) at c.lend-run.ensures.run in
    let past : c.lend-run.new.self.at ≡ c.loop-walk.walk.at + length labels = ap (λ (w : RowWalk). w.at)
    c.lend-run.ensures.past in
    record {
      size = ap (λ (w : RowWalk). w.code_size) c.lend-run.ensures.past ∙ v.size;
      rows = ap (λ (w : RowWalk). w.rows) c.lend-run.ensures.past ∙ v.rows;
      within = omega (arith, past, run.within, c.len-count.ensures.value);
      items = λ hits e.
          c.offer_run.ensures.items (hits ++ map (hit_of q) (take at rows)) (rw v.k (v.items hits e))
          ∙ ap (λ (k : ℕ). take k
          (in_order ((hits ++ map (hit_of q) (take at rows)) ++ map (hit_of q) (rows_in size labels codes)))) v.k
          ∙ best_more c.args.best.now.k q hits rows at c.lend-run.new.self.at size labels codes run past;
      grown = omega (arith, v.grown, past, c.offer_run.ensures.grown);
      k = c.offer_run.ensures.k ∙ v.k;
      most = c.offer_run.ensures.most ∙ v.most;
      bits = c.offer_run.ensures.bits ∙ v.bits;
      lent = c.lend-run.ensures.lent ∙ ap (λ (m : Counts). record m { lent = raised m.lent (length labels) }) v.lent
          ∙ ap (λ (n : ℕ). record c.args.meter.now { lent = n }) (raised-raised c.args.meter.now.lent at (length labels)
          ∙ ap (raised c.args.meter.now.lent) (sym past));
      rises = omega (arith, v.rises, c.lend-run.ensures.rises);
    }
