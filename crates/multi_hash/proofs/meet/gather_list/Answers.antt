use Rattle.std.proofs.Common.{◌≡◌, ◌+◌, ◌<◌, ◌≤◌, ◌++◌, ℕ, ℤ, List, nat_abs, length, map, take, ap, sym, ◌∙◌, arith, subst}
use Rattle.std.specs.List.{All}
use Rattle.std.proofs.lemmas.List.{length-map}
use Rattle.code_pool.specs.Lists.{label_of}
use Rattle.bcodes.specs.Value.{IsPlace}
use Rattle.multi_hash.specs.Inside.{lists_in}
use Rattle.multi_hash.specs.Meet.{position_of}
use Rattle.multi_hash.specs.Seen.{first_met, IsSeen}
use Rattle.multi_hash.proofs.MetLemmas.{first_met-append, places_part, part_more}
use Rattle.multi_hash.proofs.meet.gather_list.Goals as goal

pub gather_run-requires-clause-places : goal.gather_run-requires-clause-places
gather_run-requires-clause-places g c =
    subst (λ (n : ℕ). All (IsPlace n) c.labels-run.result.now) (sym c.loop-at.invariant.count)
    (places_part (length c.args.seen.now) c.loop-at.at (lists_in c.args.buckets.now c.args.list)
    c.labels-run.result.now c.labels-run.ensures c.requires.places)

pub loop-at-preserved : goal.loop-at-preserved
loop-at-preserved g c =
    let rows = lists_in c.args.buckets.now c.args.list in
    let part : List ℤ = c.labels-run.result.now in
    let before : List ℕ = first_met c.args.met.now.items (map nat_abs c.args.waiting.now.items) in
    record {
      within = omega (arith, c.labels-run.ensures.within, c.len-count.ensures.value, length-map rows label_of);
      met = c.in_ok-gather_run.ensures.met
          ∙ ap (λ (l : List ℕ). first_met l (map nat_abs part)) c.loop-at.invariant.met
          ∙ sym (first_met-append before (map position_of (take c.loop-at.at rows)) (map nat_abs part))
          ∙ ap (first_met before) (part_more c.loop-at.at rows part c.labels-run.ensures);
      waiting = subst (λ (n : ℕ). All (IsPlace n) c.gather_run.new.waiting.items) c.loop-at.invariant.count
          c.in_ok-gather_run.ensures.waiting;
      seen = subst (λ (n : ℕ). IsSeen n c.gather_run.new.met.items c.gather_run.new.seen) c.loop-at.invariant.count
          c.in_ok-gather_run.ensures.seen;
      count = c.in_ok-gather_run.ensures.count ∙ c.loop-at.invariant.count;
    }
