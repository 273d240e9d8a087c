use Rattle.std.proofs.Common.{◌≡◌, ◌<◌, arith, length, get_or, refl, sym, ap, subst}
use Rattle.std.proofs.lemmas.List.{get_or_read}
use Rattle.std.proofs.lemmas.List.Sorted.{length_permutation}
use Rattle.std.specs.BinaryHeap.{heap_items}
use Rattle.bcodes.specs.declared.hit.Hit.{Hit}
use Rattle.bcodes.specs.Hits.{no_hit}
use Rattle.hit_lists.specs.declared.slot_table.SlotTable.{SlotTable}
use Rattle.hit_lists.specs.Chains.{IsTable}
use Rattle.hit_lists.proofs.ChainLemmas.{lifted, one_less}
use Rattle.hit_lists.proofs.slot_table.SlotTable.lift.Goals as goal

pub returns-clause-table : goal.returns-clause-table
returns-clause-table c =
    let old = c.args.self.now in
    let table = c.requires.table in
    let in_counts : old.limit < length old.counts.items = table.chained.low in
    let in_heads : old.limit < length old.heads.items = omega (arith, table.chained.lists) in
    let head : c.index-slot.result.now ≡ get_or old.heads.items old.limit 0 = get_or_read old.heads.items old.limit
    c.index-slot.result.now in_heads c.index-slot.ensures 0 in
    let deep = table.chained.headed old.limit c.requires.chain in
    let in_hits : c.index-slot.result.now < length old.hits.items = omega (arith, deep.within) in
    let in_next : c.index-slot.result.now < length old.next.items = omega (arith, table.chained.links) in
    let hit : c.index-hit.result.now ≡ get_or old.hits.items c.index-slot.result.now no_hit = get_or_read old.hits.items
    c.index-slot.result.now c.index-hit.result.now in_hits c.index-hit.ensures no_hit in
    let below : c.index.result.now ≡ get_or old.next.items c.index-slot.result.now 0 = get_or_read old.next.items
    c.index-slot.result.now c.index.result.now in_next c.index.ensures 0 in
    let count : c.index_mut-2.result.now ≡ get_or old.counts.items old.limit 0 = get_or_read old.counts.items old.limit
    c.index_mut-2.result.now in_counts c.index_mut-2.ensures.value 0 in
    let more = length_permutation _ _ c.seat.ensures.seats in
    let P : SlotTable → Type 0 = λ t. IsTable t in
    subst P (sym c.seat.ensures.rest)
    (record {
      chained = rw (below, count)
          (lifted old.hits.items old.next.items old.heads.items old.counts.items (heap_items old.top)
          (heap_items c.seat.new.self.top) old.limit c.index-slot.result.now
          (record { label = c.index-hit.result.now.label; slot = c.index-slot.result.now })
          table.chained c.requires.chain head refl (ap (λ (h : Hit). h.label) hit) c.seat.ensures.seats);
      total = one_less old.counts.items old.limit c.index_mut-2.result.now (length (heap_items old.top))
          (length (heap_items c.seat.new.self.top)) (length old.hits.items) in_counts count
          (omega (arith, c.requires.chain)) more table.total;
      few = table.few;
      fits = table.fits;
      ordered = c.seat.ensures.heap table.ordered;
      hits_room = table.hits_room;
      next_room = table.next_room;
      top_room = omega (arith, table.top_room, c.seat.ensures.capacity);
    })

pub returns-clause-some_seat : goal.returns-clause-some_seat
returns-clause-some_seat c = omega (arith, length_permutation _ _ c.seat.ensures.seats)
