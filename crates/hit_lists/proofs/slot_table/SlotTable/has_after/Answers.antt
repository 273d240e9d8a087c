use Rattle.std.proofs.Common.{◌≡◌, ◌<◌, false, length, get_or, sym, ap, ◌∙◌, subst, rules}
use Rattle.std.specs.Ordering.{is_lt}
use Rattle.std.proofs.lemmas.List.{get_or_default, get_or_read}
use Rattle.std.proofs.lemmas.List.Elements.{All-from_recursion}
use Rattle.std.specs.BinaryHeap.{heap_items, IsUpperBound}
use Rattle.bcodes.specs.declared.hit.Hit.{Hit}
use Rattle.bcodes.specs.Hits.{no_hit, is_above, hit_cmp}
use Rattle.bcodes.proofs.OrderLemmas.{lt_is_above}
use Rattle.hit_lists.specs.declared.slot_table.SlotTable.{SlotTable}
use Rattle.hit_lists.specs.declared.seat.Seat.{Seat}
use Rattle.hit_lists.specs.Chains.{IsTable, IsSeat, IsLast, seat_cmp, no_seat, last_hit}
use Rattle.hit_lists.proofs.ChainLemmas.{topmost}
use Rattle.hit_lists.proofs.slot_table.SlotTable.has_after.Goals as goal

-- the topmost seat
top_seat : (t : SlotTable) (e : Seat) (table : IsTable t) → 0 < length (heap_items t.top)
    → e ≡ get_or (heap_items t.top) 0 e → IsSeat (length t.hits.items) t.hits.items t.counts.items t.limit
    table.chained.rank e
top_seat t e table some first =
    let P : Seat → Type 0 = IsSeat (length t.hits.items) t.hits.items t.counts.items t.limit table.chained.rank in
    subst P (sym first) (table.chained.seated 0 e some)

last_is : (t : SlotTable) (e : Seat) → 0 < length (heap_items t.top) → e ≡ get_or (heap_items t.top) 0 e
    → get_or t.hits.items e.slot no_hit ≡ last_hit t.hits.items (heap_items t.top)
last_is t e some first = ap (λ (f : Seat). get_or t.hits.items f.slot no_hit)
    (first ∙ sym (get_or_default (heap_items t.top) 0 no_seat e some))

is_last : (t : SlotTable) (e : Seat) → IsTable t → get_or t.counts.items t.limit 0 ≡ 0 → 0 < length (heap_items t.top)
    → e ≡ get_or (heap_items t.top) 0 e → IsUpperBound seat_cmp e (heap_items t.top)
    → IsLast (last_hit t.hits.items (heap_items t.top)) t.hits.items
is_last t e table done some first greatest s lo =
    ap (is_above (get_or t.hits.items s no_hit)) (sym (last_is t e some first))
    ∙ topmost t.hits.items t.next.items t.heads.items t.counts.items (heap_items t.top) t.limit e table.chained done
    (top_seat t e table some first).hit
    (All-from_recursion (λ (f : Seat). is_lt (seat_cmp e f) ≡ false) (heap_items t.top) greatest) s lo

pub returns-in-Some-clause-is : goal.returns-in-Some-clause-is
returns-in-Some-clause-is c =
    let t = c.args.self.now in
    let e = c.in-Some.last.now in
    let seat = top_seat t e c.requires.table c.requires.some_seat c.in-Some.ensures.lookup in
    let hit : c.index.result.now ≡ get_or t.hits.items e.slot no_hit = get_or_read t.hits.items e.slot
    c.index.result.now seat.within c.index.ensures no_hit in
    let less : c.lt.result ≡ is_lt (hit_cmp c.args.hit c.index.result.now) = search rules in
    less ∙ lt_is_above c.args.hit c.index.result.now
    ∙ ap (λ (h : Hit). is_above h c.args.hit) (hit ∙ last_is t e c.requires.some_seat c.in-Some.ensures.lookup)

pub returns-in-Some-clause-last : goal.returns-in-Some-clause-last
returns-in-Some-clause-last c =
    is_last c.args.self.now c.in-Some.last.now c.requires.table c.requires.no_chain
    c.requires.some_seat c.in-Some.ensures.lookup (c.in-Some.ensures.greatest c.requires.table.ordered)
