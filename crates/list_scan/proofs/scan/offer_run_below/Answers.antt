use Rattle.std.proofs.Common.{◌++◌, List, length, map, nat_lt, ap, ◌∙◌, arith}
use Rattle.std.specs.List.{filter}
use Rattle.bcodes.specs.declared.hit.Hit.{Hit}
use Rattle.bcodes.specs.Value.{Row}
use Rattle.bcodes.specs.Answers.{hit_of}
use Rattle.code_pool.specs.Lists.{rows_in, IsRun}
use Rattle.list_scan.proofs.ListLemmas.{all_rows, below_run, part_run}
use Rattle.list_scan.proofs.scan.offer_run_below.Goals as goal

pub loop-at-preserved : goal.loop-at-preserved
loop-at-preserved c =
    let size = length c.args.kernel.now in
    let rows = rows_in size c.args.run.labels.now c.args.run.codes.now in
    let labels = c.part-part.result.labels.now in
    let codes = c.part-part.result.codes.now in
    let e = c.part-part.ensures in
    let run : IsRun rows c.loop-at.at size labels codes = part_run c.args.run.labels.now labels
    c.args.run.codes.now codes size c.loop-at.at c.min.result e.labels (e.codes size c.requires.whole)
    (e.rows size c.requires.whole)
    (omega (arith, c.min.ensures, c.loop-at-test.true)) (omega (arith, c.min.ensures))
    (omega (arith, c.min.ensures, c.loop-at-test.true)) in
    record {
      within = omega (arith, e.labels, c.min.ensures, c.loop-at-test.true);
      items = below_run c.args.radius c.args.kernel.now c.args.found.now.items c.loop-at.found.items
          c.offer_part_below.new.found.items rows c.loop-at.at size labels codes run c.loop-at.invariant.items
          (rw c.in_ok-reserve.ensures.items at c.offer_part_below.ensures);
    }

pub returns : goal.returns
returns c =
    let size = length c.args.kernel.now in
    let all = all_rows c.args.run.labels.now c.args.run.codes.now size c.loop-at.at
    (omega (arith, c.loop-at-test.false)) in
    c.loop-at.invariant.items
    ∙ ap (λ (rs : List Row). c.args.found.now.items ++ filter (λ (h : Hit). nat_lt h.distance c.args.radius)
    (map (hit_of c.args.kernel.now) rs)) all
