use Rattle.std.proofs.Common.{◌≡◌, ◌<◌, ◌∷◌, List, true, false, arith, length, get_or, set, take, refl, sym, ap, ◌∙◌}
use Rattle.std.proofs.Common.{subst, length-set, get_or-set_same}
use Rattle.std.specs.Ordering.{is_lt}
use Rattle.std.specs.List.Sorted.{IsPermutation}
use Rattle.std.proofs.lemmas.List.{get_or_default}
use Rattle.std.proofs.lemmas.List.Elements.{All-from_recursion}
use Rattle.std.proofs.lemmas.List.Sorted.{length_permutation}
use Rattle.std.specs.BinaryHeap.{heap_items, IsUpperBound}
use Rattle.bcodes.specs.declared.hit.Hit.{Hit}
use Rattle.bcodes.specs.Hits.{no_hit, is_above, in_order}
use Rattle.bcodes.proofs.OrderLemmas.{is_above-flip}
use Rattle.hit_lists.specs.declared.slot_table.SlotTable.{SlotTable}
use Rattle.hit_lists.specs.declared.seat.Seat.{Seat}
use Rattle.hit_lists.specs.Chains.{IsTable, seat_cmp, no_seat, last_hit}
use Rattle.hit_lists.proofs.ChainLemmas.{hit_of, unseated, popped, reseated, topmost}
use Rattle.hit_lists.proofs.KeptLemmas.{kept_replaced}
use Rattle.hit_lists.proofs.slot_table.SlotTable.replace.Goals as goal

-- the list of hits afterwards
replaced : (t : SlotTable) (rest : List Seat) (e : Seat) (h : Hit) → IsTable t → get_or t.counts.items t.limit 0 ≡ 0
    → 0 < length (heap_items t.top) → e ≡ get_or (heap_items t.top) 0 e → IsPermutation (heap_items t.top) (e ∷ rest)
    → IsUpperBound seat_cmp e (heap_items t.top) → is_above (last_hit t.hits.items (heap_items t.top)) h ≡ true
    → in_order (set t.hits.items e.slot h) ≡ take (length t.hits.items) (in_order (h ∷ in_order t.hits.items))
replaced t rest e h table done some first p greatest before =
    let un = unseated t.hits.items t.next.items t.heads.items t.counts.items (heap_items t.top) rest t.limit e
    table.chained done p in
    let same : get_or (heap_items t.top) 0 no_seat ≡ e = get_or_default (heap_items t.top) 0 no_seat e some
    ∙ sym first in
    let above : is_above (get_or t.hits.items e.slot no_hit) h ≡ true = ap
    (λ (f : Seat). is_above (get_or t.hits.items f.slot no_hit) h) (sym same) ∙ before in
    kept_replaced (length t.hits.items) t.hits.items e.slot h refl un.0
    (topmost t.hits.items t.next.items t.heads.items t.counts.items (heap_items t.top) t.limit e table.chained done un.1
    (All-from_recursion (λ (f : Seat). is_lt (seat_cmp e f) ≡ false) (heap_items t.top) greatest))
    (is_above-flip (get_or t.hits.items e.slot no_hit) h above)

pub link-requires-clause-table : goal.link-requires-clause-table
link-requires-clause-table c =
    let old = c.args.self.now in
    let table = c.requires.table in
    let e = c.in-Some.last in
    let un = unseated old.hits.items old.next.items old.heads.items old.counts.items (heap_items old.top)
    (heap_items c.pop.new.self) old.limit e table.chained c.requires.no_chain c.in-Some.ensures.permutation in
    let fewer = length_permutation _ _ c.in-Some.ensures.permutation in
    let long = length-set old.hits.items e.slot c.args.hit in
    record {
      chained = popped old.hits.items old.next.items old.heads.items old.counts.items (heap_items old.top)
          (heap_items c.pop.new.self) old.limit e c.args.hit table.chained c.requires.no_chain
          c.in-Some.ensures.permutation;
      within = omega (arith, un.0);
      total = omega (arith, table.total);
      few = omega (arith, table.few);
      fits = table.fits;
      ordered = (c.in-Some.ensures.heap_order table.ordered).0;
      hits_room = table.hits_room;
      next_room = table.next_room;
      top_room = omega (arith, table.top_room, c.in-Some.ensures.capacity);
    }

pub returns-then-is_empty-clause-hits : goal.returns-then-is_empty-clause-hits
returns-then-is_empty-clause-hits c =
    ap in_order (c.lower.ensures.hits ∙ c.link.ensures.hits)
    ∙ replaced c.args.self.now (heap_items c.pop.new.self) c.in-Some.last c.args.hit c.requires.table
    c.requires.no_chain c.requires.some_seat c.in-Some.ensures.top c.in-Some.ensures.permutation
    (c.in-Some.ensures.heap_order c.requires.table.ordered).1 c.requires.before

pub returns-else-is_empty-clause-hits : goal.returns-else-is_empty-clause-hits
returns-else-is_empty-clause-hits c =
    ap in_order c.link.ensures.hits
    ∙ replaced c.args.self.now (heap_items c.pop.new.self) c.in-Some.last c.args.hit c.requires.table
    c.requires.no_chain c.requires.some_seat c.in-Some.ensures.top c.in-Some.ensures.permutation
    (c.in-Some.ensures.heap_order c.requires.table.ordered).1 c.requires.before

pub returns-then-hit-self-clause-table : goal.returns-then-hit-self-clause-table
returns-then-hit-self-clause-table c =
    let old = c.args.self.now in
    let table = c.requires.table in
    let e = c.in-Some.last in
    let un = unseated old.hits.items old.next.items old.heads.items old.counts.items (heap_items old.top)
    (heap_items c.pop.new.self) old.limit e table.chained c.requires.no_chain c.in-Some.ensures.permutation in
    let fewer = length_permutation _ _ c.in-Some.ensures.permutation in
    let more = length_permutation _ _ c.seat.ensures.seats in
    let long = length-set old.hits.items e.slot c.args.hit in
    let P : SlotTable → Type 0 = λ t. IsTable t in
    subst P (sym c.seat.ensures.rest)
    (record {
      chained = reseated e.slot (set old.hits.items e.slot c.args.hit) old.next.items old.heads.items old.counts.items
          (heap_items c.pop.new.self) (heap_items c.seat.new.self.top) old.limit
          (record { label = c.args.hit.label; slot = e.slot })
          (popped old.hits.items old.next.items old.heads.items old.counts.items (heap_items old.top)
          (heap_items c.pop.new.self) old.limit e c.args.hit table.chained c.requires.no_chain
          c.in-Some.ensures.permutation)
          (omega (arith, un.0)) refl (get_or-set_same old.hits.items e.slot c.args.hit no_hit un.0
          ∙ hit_of c.args.hit old.limit c.args.hit.label c.if-hit-self.true refl) c.requires.no_chain
          c.seat.ensures.seats;
      total = omega (arith, table.total);
      few = omega (arith, table.few);
      fits = table.fits;
      ordered = c.seat.ensures.heap (c.in-Some.ensures.heap_order table.ordered).0;
      hits_room = table.hits_room;
      next_room = table.next_room;
      top_room = omega (arith, table.top_room, c.in-Some.ensures.capacity, c.seat.ensures.capacity);
    })

pub returns-then-hit-self-clause-hits : goal.returns-then-hit-self-clause-hits
returns-then-hit-self-clause-hits c =
    ap (λ (t : SlotTable). in_order t.hits.items) c.seat.ensures.rest
    ∙ replaced c.args.self.now (heap_items c.pop.new.self) c.in-Some.last c.args.hit c.requires.table
    c.requires.no_chain c.requires.some_seat c.in-Some.ensures.top c.in-Some.ensures.permutation
    (c.in-Some.ensures.heap_order c.requires.table.ordered).1 c.requires.before

pub returns-then-hit-self-clause-some_seat : goal.returns-then-hit-self-clause-some_seat
returns-then-hit-self-clause-some_seat c = omega (arith, length_permutation _ _ c.seat.ensures.seats)
