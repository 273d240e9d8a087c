use Rattle.std.proofs.Common.{◌≡◌, ◌+◌, ◌<◌, ◌≤◌, ◌++◌, [], ℕ, List, length, map, nat_abs, take, get_or, ap, sym, ◌∙◌, arith}
use Rattle.std.proofs.Common.{subst}
use Rattle.std.specs.List.{All, flat_map}
use Rattle.bcodes.specs.Value.{IsPlace}
use Rattle.multi_hash.specs.Meet.{positions_on}
use Rattle.multi_hash.specs.Seen.{first_met, IsSeen}
use Rattle.multi_hash.proofs.MetLemmas.{first_met-append, flat_more}
use Rattle.multi_hash.proofs.meet.meet_lists.Goals as goal

pub loop-list-preserved : goal.loop-list-preserved
loop-list-preserved g c =
    let i : ℕ = c.loop-list.list-index in
    let lists : List ℕ = c.args.lists.now in
    let here : i < length lists = omega arith in
    let on : ℕ → List ℕ = positions_on c.args.buckets.now in
    record {
      met = c.in_ok-gather_list.ensures.met
          ∙ ap (λ (l : List ℕ). first_met l (on (get_or lists i 0))) c.loop-list.invariant.met
          ∙ sym (first_met-append [] (flat_map on (take i lists)) (on (get_or lists i 0)))
          ∙ ap (first_met []) (sym (flat_more on lists i here));
      waiting = subst (λ (n : ℕ). All (IsPlace n) c.gather_list.new.waiting.items) c.loop-list.invariant.count
          c.in_ok-gather_list.ensures.waiting;
      seen = subst (λ (n : ℕ). IsSeen n c.gather_list.new.met.items c.gather_list.new.seen) c.loop-list.invariant.count
          c.in_ok-gather_list.ensures.seen;
      count = c.in_ok-gather_list.ensures.count ∙ c.loop-list.invariant.count;
    }
