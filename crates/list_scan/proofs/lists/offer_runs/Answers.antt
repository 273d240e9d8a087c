use Rattle.std.proofs.Common.{◌+◌, ◌++◌, ℕ, length, get_or, take, ap, ◌∙◌, arith}
use Rattle.code_pool.proofs.RowLemmas.{length-rows_in}
use Rattle.list_scan.specs.Batches.{rows_of_run, rows_of_runs}
use Rattle.list_scan.specs.Visited.{first, hits_on}
use Rattle.list_scan.proofs.BatchLemmas.{best_runs, length-rows_of_runs, no_run, rows_of_runs-le}
use Rattle.list_scan.proofs.lists.offer_runs.Goals as goal

pub offer_run-requires-clause-room : goal.offer_run-requires-clause-room
offer_run-requires-clause-room c =
    let size = length c.args.kernel.now in
    let run = get_or c.args.runs.now c.loop-run.run-index no_run in
    omega (
      arith,
      c.loop-run.invariant.grown,
      c.loop-run.invariant.most,
      c.requires.room,
      length-rows_of_runs size c.args.runs.now c.loop-run.run-index c.loop-run-test.true,
      rows_of_runs-le size c.args.runs.now (c.loop-run.run-index + 1),
      length-rows_in size run.labels.now run.codes.now,
    )

pub loop-run-preserved : goal.loop-run-preserved
loop-run-preserved c =
    let size = length c.args.kernel.now in
    let q = c.args.kernel.now in
    let v = c.loop-run.invariant in
    let run = get_or c.args.runs.now c.loop-run.run-index no_run in
    let done = rows_of_runs size (take c.loop-run.run-index c.args.runs.now) in
    record {
      items = λ hits e.
          c.offer_run.ensures.items (hits ++ hits_on q done) (rw v.k (v.items hits e))
          ∙ ap (λ (k : ℕ). first k ((hits ++ hits_on q done) ++ hits_on q (rows_of_run size run))) v.k
          ∙ best_runs c.args.best.now.k q hits size c.args.runs.now c.loop-run.run-index c.loop-run-test.true;
      grown = omega (
        arith,
        v.grown,
        c.offer_run.ensures.grown,
        length-rows_of_runs size c.args.runs.now c.loop-run.run-index c.loop-run-test.true,
        length-rows_in size run.labels.now run.codes.now,
      );
      k = c.offer_run.ensures.k ∙ v.k;
      most = c.offer_run.ensures.most ∙ v.most;
      bits = c.offer_run.ensures.bits ∙ v.bits;
    }
