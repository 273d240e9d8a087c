use Rattle.std.proofs.Common.{◌≡◌, ℕ, zero, suc, List, [], refl, ap, ◌∙◌}
use Rattle.list_scan.specs.Visited.{first, hits_on, rows_at}
use Rattle.list_scan.proofs.query.search_lists.Goals as goal

first_none : (k : ℕ) → [] ≡ first k []
first_none zero = refl
first_none (suc k) = refl

pub returns-clause-ok : goal.returns-clause-ok
returns-clause-ok g c =
    let k_is : c.in_ok-best.best.k ≡ c.args.k = ap (λ b. b.k) c.in_ok-best.ensures in
    let none : c.in_ok-best.best.items ≡ first c.in_ok-best.best.k []
    = ap (λ b. b.items) c.in_ok-best.ensures ∙ first_none c.in_ok-best.best.k in
    c.into_hits.ensures
    ∙ c.offer_lists.ensures.items [] none
    ∙ ap (λ (k : ℕ). first k (hits_on c.new-kernel.result (rows_at c.args.pool.now c.args.lists.now))) k_is
    ∙ ap (λ (q : List ℕ). first c.args.k (hits_on q (rows_at c.args.pool.now c.args.lists.now))) c.new-kernel.ensures
