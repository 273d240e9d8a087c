use Rattle.std.proofs.Common.{◌≡◌, ◌+◌, arith, length, ap, ◌∙◌}
use Rattle.std.proofs.lemmas.List.{length_push}
use Rattle.std.specs.BinaryHeap.{heap_items}
use Rattle.hit_lists.proofs.ChainLemmas.{widened}
use Rattle.hit_lists.proofs.slot_table.SlotTable.add.Goals as goal

pub overflow_cast-slot : goal.overflow_cast-slot
overflow_cast-slot c = omega (arith, c.args.self.now.hits.ok.0, c.requires.room, c.requires.table.fits)

pub link-requires-clause-table : goal.link-requires-clause-table
link-requires-clause-table c =
    let old = c.args.self.now in
    let table = c.requires.table in
    let long : c.len-slot.result ≡ length old.hits.items = c.len-slot.ensures ∙ old.hits.ok.0 in
    let wider = length_push old.hits.items c.args.hit in
    let same : length c.push_reserved.new.self.items ≡ length old.hits.items + 1 = ap length
    c.push_reserved.ensures.items ∙ wider in
    record {
      chained = rw (c.push_reserved.ensures.items, c.push_reserved-2.ensures.items, long)
          (widened old.hits.items old.next.items old.heads.items old.counts.items (heap_items old.top) old.limit
          c.args.hit 0 table.chained);
      within = omega arith;
      total = omega (arith, table.total);
      few = omega (arith, c.requires.room);
      fits = table.fits;
      ordered = table.ordered;
      hits_room = omega (arith, table.hits_room, c.push_reserved.ensures.capacity);
      next_room = omega (arith, table.next_room, c.push_reserved-2.ensures.capacity);
      top_room = table.top_room;
    }
