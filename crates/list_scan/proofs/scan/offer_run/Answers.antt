use Rattle.std.proofs.Common.{◌++◌, ℕ, List, length, map, take, ap, ◌∙◌, arith}
use Rattle.bcodes.specs.Hits.{in_order}
use Rattle.bcodes.specs.Value.{Row}
use Rattle.bcodes.specs.Answers.{hit_of}
use Rattle.code_pool.specs.Lists.{rows_in, IsRun}
use Rattle.list_scan.proofs.ListLemmas.{all_rows, best_run, length_more, part_run}
use Rattle.list_scan.proofs.scan.offer_run.Goals as goal

pub loop-at-preserved : goal.loop-at-preserved
loop-at-preserved c =
    let size = length c.args.kernel.now in
    let rows = rows_in size c.args.run.labels.now c.args.run.codes.now in
    let labels = c.part-part.result.labels.now in
    let codes = c.part-part.result.codes.now in
    let v = c.loop-at.invariant in
    let e = c.part-part.ensures in
    let run : IsRun rows c.loop-at.at size labels codes = part_run c.args.run.labels.now labels
    c.args.run.codes.now codes size c.loop-at.at c.min.result e.labels (e.codes size c.requires.whole)
    (e.rows size c.requires.whole)
    (omega (arith, c.min.ensures, c.loop-at-test.true)) (omega (arith, c.min.ensures))
    (omega (arith, c.min.ensures, c.loop-at-test.true)) in
    let kept = c.offer_part.ensures.items in
    record {
      within = omega (arith, e.labels, c.min.ensures, c.loop-at-test.true);
      items = λ hits is. best_run c.args.best.now.k c.args.kernel.now hits c.loop-at.best.items
          c.offer_part.new.best.items rows c.loop-at.at size labels codes run (v.items hits is)
          (kept ∙ ap (λ (k : ℕ). take k
          (in_order (c.loop-at.best.items ++ map (hit_of c.args.kernel.now) (rows_in size labels codes)))) v.k);
      grown = omega (
        arith,
        v.grown,
        length_more c.loop-at.best.k c.args.kernel.now c.loop-at.best.items c.offer_part.new.best.items size labels
            codes kept,
      );
      k = c.offer_part.ensures.k ∙ v.k;
      most = c.offer_part.ensures.most ∙ v.most;
      bits = c.offer_part.ensures.bits ∙ v.bits;
    }

pub returns-clause-items : goal.returns-clause-items
returns-clause-items c = λ hits is.
    let size = length c.args.kernel.now in
    let all = all_rows c.args.run.labels.now c.args.run.codes.now size c.loop-at.at
    (omega (arith, c.loop-at-test.false)) in
    c.loop-at.invariant.items hits is
    ∙ ap (λ (rs : List Row). take c.args.best.now.k (in_order (hits ++ map (hit_of c.args.kernel.now) rs))) all
