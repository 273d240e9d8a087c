use Rattle.std.proofs.Common.{◌<◌, ◌≤◌, ℕ, List, length, take, get_or, subst, sym, arith, rules}
use Rattle.std.proofs.lemmas.Grind.{common_steps}
use Rattle.std.specs.List.{All}
use Rattle.std.proofs.lemmas.List.{take_more, take_all}
use Rattle.std.proofs.lemmas.List.Elements.{All-push, All-weaker}
use Rattle.code_pool.specs.Lists.{list_at}
use Rattle.list_scan.proofs.query.longest.Goals as goal

pub loop-list-preserved : goal.loop-list-preserved
loop-list-preserved g c =
    let p = c.args.pool.now in
    let ls : List ℕ = c.args.lists.now in
    let i : ℕ = c.loop-list.list-index in
    let here : i < length ls = omega arith in
    let grows : c.loop-list.longest ≤ c.max-longest.result = first_of (search rules, grind (arith, common_steps)) in
    let covers : c.len.result ≤ c.max-longest.result = first_of (search rules, grind (arith, common_steps)) in
    let P : ℕ → Type 0 = λ l. length (list_at p l).rows ≤ c.max-longest.result in
    let before : All P (take i ls)
    = All-weaker (λ l. length (list_at p l).rows ≤ c.loop-list.longest) P (λ l h. omega (arith, h, grows))
    (take i ls) c.loop-list.invariant in
    let this : P (get_or ls i 0) = omega (arith, c.len.ensures.value, covers) in
    subst (All P) (sym (take_more ls i 0 here)) (All-push P (take i ls) (get_or ls i 0) before this)

pub returns : goal.returns
returns g c =
    let all : length c.args.lists.now ≤ c.loop-list.list-index = omega arith in
    subst (All (λ l. length (list_at c.args.pool.now l).rows ≤ c.loop-list.longest))
    (take_all c.loop-list.list-index c.args.lists.now all) c.loop-list.invariant
