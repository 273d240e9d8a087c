use Rattle.std.proofs.Common.{◌≡◌, ◌<◌, arith, length, get_or}
use Rattle.std.proofs.lemmas.List.{get_or_read}
use Rattle.hit_lists.proofs.ChainLemmas.{linked_up, one_more}
use Rattle.hit_lists.proofs.slot_table.SlotTable.link.Goals as goal

pub returns-clause-table : goal.returns-clause-table
returns-clause-table c =
    let old = c.args.self.now in
    let table = c.requires.table in
    let in_counts : c.args.distance < length old.counts.items = omega (arith, table.chained.low, c.requires.within) in
    let in_heads : c.args.distance < length old.heads.items = omega (arith, table.chained.lists) in
    let head : c.index.result.now ≡ get_or old.heads.items c.args.distance 0 = get_or_read old.heads.items
    c.args.distance c.index.result.now in_heads c.index.ensures 0 in
    let count : c.index_mut-3.result.now ≡ get_or old.counts.items c.args.distance 0 = get_or_read old.counts.items
    c.args.distance c.index_mut-3.result.now in_counts c.index_mut-3.ensures.value 0 in
    record {
      chained = rw (head, count) (linked_up c.args.slot old.hits.items old.next.items old.heads.items old.counts.items _
          old.limit c.args.distance table.chained table.within c.requires.at c.requires.within c.requires.free);
      total = one_more old.counts.items c.args.distance c.index_mut-3.result.now _ _ in_counts count table.total;
      few = table.few;
      fits = table.fits;
      ordered = table.ordered;
      hits_room = table.hits_room;
      next_room = table.next_room;
      top_room = table.top_room;
    }
