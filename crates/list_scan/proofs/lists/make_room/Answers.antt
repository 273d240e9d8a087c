use Rattle.std.proofs.Common.{◌≡◌, ◌++◌, ℕ, List, [], length, subst, sym, ap, ◌∙◌}
use Rattle.bcodes.specs.Value.{Row}
use Rattle.list_scan.specs.Batches.{IsAwaiting, WaitingRows, rows_of_runs}
use Rattle.list_scan.specs.Visited.{first, hits_on}
use Rattle.list_scan.proofs.BatchLemmas.{await_offered}
use Rattle.list_scan.proofs.lists.make_room.Goals as goal

pub returns-then-is_full-clause-items : goal.returns-then-is_full-clause-items
returns-then-is_full-clause-items c = λ all a.
    let k = c.args.best.now.k in
    let q = c.args.kernel.now in
    let kept = c.args.best.now.items in
    let none : c.clear.new.self.rows ≡ [] = ap (λ (b : WaitingRows). b.rows) c.clear.ensures in
    let rows : rows_of_runs (length q) c.runs.result.now ≡ c.args.batch.now.rows =
    ap (λ (n : ℕ). rows_of_runs n c.runs.result.now) (sym c.requires.batch_size) ∙ c.runs.ensures.rows in
    let offered : c.offer_runs.new.best.items ≡ first k (kept ++ hits_on q c.args.batch.now.rows) =
    c.offer_runs.ensures.items kept a.own ∙ ap (λ (rs : List Row). first k (kept ++ hits_on q rs)) rows in
    subst (λ (rs : List Row). IsAwaiting k all c.offer_runs.new.best.items (hits_on q rs)) (sym none)
    (await_offered k all kept (hits_on q c.args.batch.now.rows) c.offer_runs.new.best.items a offered)
