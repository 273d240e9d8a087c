use Rattle.std.proofs.Common.{◌≡◌, ◌+◌, ◌++◌, ℕ, length, map, take, nat_lt, sym, ap, ◌∙◌, arith}
use Rattle.std.specs.List.{filter}
use Rattle.bcodes.specs.declared.hit.Hit.{Hit}
use Rattle.bcodes.specs.Counts.{Counts}
use Rattle.bcodes.specs.Ranges.{raised}
use Rattle.bcodes.specs.Answers.{hit_of}
use Rattle.bcodes.proofs.LegalLemmas.{raised-raised}
use Rattle.code_pool.specs.Lists.{RowWalk, list_at, IsRun}
use Rattle.list_scan.proofs.ListLemmas.{below_run}
use Rattle.list_scan.proofs.scan.offer_list_below.Goals as goal

pub loop-walk-preserved : goal.loop-walk-preserved
loop-walk-preserved g c =
    let rows = (list_at c.args.pool.now c.args.list).rows in
    let q = c.args.kernel.now in
    let size = length c.args.kernel.now in
    let at = c.loop-walk.walk.at in
    let labels = c.lend-run.result.labels.now in
    let codes = c.lend-run.result.codes.now in
    let v = c.loop-walk.invariant in
    let run : IsRun rows at size labels codes = rw (v.rows, v.size ∙ c.requires.size) at c.lend-run.ensures.run in
    let past : c.lend-run.new.self.at ≡ c.loop-walk.walk.at + length labels = ap (λ (w : RowWalk). w.at)
    c.lend-run.ensures.past in
    record {
      size = ap (λ (w : RowWalk). w.code_size) c.lend-run.ensures.past ∙ v.size;
      rows = ap (λ (w : RowWalk). w.rows) c.lend-run.ensures.past ∙ v.rows;
      within = omega (arith, past, run.within, c.len-count.ensures.value);
      items = below_run c.args.radius q c.args.found.now.items c.loop-walk.found.items
          c.offer_run_below.new.found.items rows at size labels codes run v.items c.in_ok-offer_run_below.ensures
          ∙ ap (λ (n : ℕ). c.args.found.now.items ++ filter (λ (h : Hit). nat_lt h.distance c.args.radius)
          (map (hit_of q) (take n rows))) (sym past);
      lent = c.lend-run.ensures.lent ∙ ap (λ (m : Counts). record m { lent = raised m.lent (length labels) }) v.lent
          ∙ ap (λ (n : ℕ). record c.args.meter.now { lent = n }) (raised-raised c.args.meter.now.lent at (length labels)
          ∙ ap (raised c.args.meter.now.lent) (sym past));
      rises = omega (arith, v.rises, c.lend-run.ensures.rises);
    }
