use Rattle.std.proofs.Common.{◌≡◌, ◌+◌, List, length, take, drop, ap, sym, ◌∙◌, arith}
use Rattle.std.proofs.lemmas.List.{take_all}
use Rattle.bcodes.specs.Value.{Row}
use Rattle.code_pool.specs.Lists.{PoolLists, list_at, rows_in, with_list, with_rows}
use Rattle.code_pool.proofs.RowLemmas.{length-rows_in}
use Rattle.code_pool.proofs.RunLemmas.{run_none, with_rows-more, take_apart}
use Rattle.code_pool.proofs.pool.Pool.push_run.Goals as goal

pub loop-done-init : goal.loop-done-init
loop-done-init g c = record { within = omega arith; rows = sym (run_none c.args.self.now c.args.list) }

pub loop-done-preserved : goal.loop-done-preserved
loop-done-preserved g c =
    let p = c.args.self.now in
    let i = c.args.list in
    let done = c.loop-done.done in
    let n = c.push_part-done.result in
    let labels = c.args.run.labels.now in
    let codes = c.args.run.codes.now in
    let rows = rows_in p.code_size labels codes in
    record {
      within = c.push_part-done.ensures.within;
      rows = c.push_part-done.ensures.rows
          ∙ ap (λ (q : PoolLists). with_list q i
          (with_rows (list_at q i) (take n (drop done (rows_in q.code_size labels codes))))) c.loop-done.invariant.rows
          ∙ with_rows-more p i (take done rows) (take n (drop done rows)) c.requires.exists
          ∙ ap (λ (rs : List Row). with_list p i (with_rows (list_at p i) rs)) (take_apart done n rows);
    }

pub returns : goal.returns
returns g c =
    let p = c.args.self.now in
    let labels = c.args.run.labels.now in
    let codes = c.args.run.codes.now in
    c.loop-done.invariant.rows
    ∙ ap (λ (rs : List Row). with_list p c.args.list (with_rows (list_at p c.args.list) rs))
    (take_all c.loop-done.done (rows_in p.code_size labels codes)
    (omega (arith, length-rows_in p.code_size labels codes, c.loop-done-test.false)))
