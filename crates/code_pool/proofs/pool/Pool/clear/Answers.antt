use Rattle.std.proofs.Common.{◌≡◌, ◌<◌, ◌+◌, List, length, take, get_or, sum_by, ap, ◌∙◌, arith, set}
use Rattle.std.proofs.lemmas.List.{take_more}
use Rattle.std.proofs.lemmas.List.Sums.{sum_by_push}
use Rattle.code_pool.specs.Lists.{PoolList, no_list, blocks_of, list_at}
use Rattle.code_pool.proofs.PoolLemmas.{set-emptied_up_to, get-emptied_up_to}
use Rattle.code_pool.proofs.pool.Pool.clear.Goals as goal

pub loop-list-preserved : goal.loop-list-preserved
loop-list-preserved g c =
    let lists = c.args.self.now.lists in
    let i = c.loop-list.list in
    let v = c.loop-list.invariant in
    let here : c.loop-list.list < length lists = omega (arith, v.end, c.loop-list-test.true) in
    let this : blocks_of (list_at c.loop-list.self i) ≡ blocks_of (get_or lists i no_list) = ap blocks_of
    (ap (λ (ls : List PoolList). get_or ls i no_list) v.lists ∙ get-emptied_up_to i lists) in
    let sum : sum_by blocks_of (take (i + 1) lists) ≡ sum_by blocks_of (take i lists) + blocks_of
    (get_or lists i no_list) =
    ap (λ (ls : List PoolList). sum_by blocks_of ls) (take_more lists i no_list here)
    ∙ sum_by_push blocks_of (take i lists) (get_or lists i no_list) in
    record {
      end = v.end;
      lists = c.give_back.ensures.lists ∙ ap (λ (ls : List PoolList). set ls i no_list) v.lists
          ∙ set-emptied_up_to i lists here;
      code_size = c.give_back.ensures.code_size ∙ v.code_size;
      free = omega (arith, c.give_back.ensures.free, v.free, this, sum);
    }
