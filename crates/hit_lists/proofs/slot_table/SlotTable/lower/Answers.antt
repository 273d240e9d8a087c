use Rattle.std.proofs.Common.{◌≡◌, ◌<◌, ℕ, ◌-◌, arith, length, get_or, sym, ap, ◌∙◌}
use Rattle.std.specs.BinaryHeap.{heap_items}
use Rattle.std.proofs.lemmas.List.{get_or_read}
use Rattle.hit_lists.specs.declared.slot_table.SlotTable.{SlotTable}
use Rattle.hit_lists.specs.Chains.{IsTable, IsChained}
use Rattle.hit_lists.proofs.ChainLemmas.{fallen}
use Rattle.hit_lists.proofs.slot_table.SlotTable.lower.Goals as goal

-- below an empty chain at the limit
down : (t : SlotTable) (x : ℕ) → IsTable t → 0 < length t.hits.items → length (heap_items t.top) ≡ 0
    → x ≡ get_or t.counts.items t.limit x → x ≡ 0
    → (0 < t.limit) × IsChained (length t.hits.items) t.hits.items t.next.items t.heads.items t.counts.items
    (heap_items t.top) (t.limit - 1)
down t x table some empty is none =
    fallen t.hits.items t.next.items t.heads.items t.counts.items (heap_items t.top) t.limit table.chained some
    (sym (get_or_read t.counts.items t.limit x table.chained.low is 0) ∙ none) empty

pub overflow_sub-self : goal.overflow_sub-self
overflow_sub-self c =
    let some : 0 < length c.loop-self.self.hits.items = let k = ap length c.loop-self.invariant.hits in
    omega (arith, c.requires.some) in
    let k = down c.loop-self.self c.index.result.now c.loop-self.invariant.table some c.loop-self.invariant.no_seats
    c.index.ensures c.loop-self-test.true in
    k.0

pub loop-self-smaller : goal.loop-self-smaller
loop-self-smaller c =
    let some : 0 < length c.loop-self.self.hits.items = let k = ap length c.loop-self.invariant.hits in
    omega (arith, c.requires.some) in
    let k : 0 < c.loop-self.self.limit = (down c.loop-self.self c.index.result.now c.loop-self.invariant.table some
    c.loop-self.invariant.no_seats c.index.ensures c.loop-self-test.true).0 in
    omega arith

pub loop-self-preserved : goal.loop-self-preserved
loop-self-preserved c =
    let some : 0 < length c.loop-self.self.hits.items = let k = ap length c.loop-self.invariant.hits in
    omega (arith, c.requires.some) in
    let k = down c.loop-self.self c.index.result.now c.loop-self.invariant.table some c.loop-self.invariant.no_seats
    c.index.ensures c.loop-self-test.true in
    let table = c.loop-self.invariant.table in
    record {
      table = record {
        chained = k.1;
        total = table.total;
        few = table.few;
        fits = table.fits;
        ordered = table.ordered;
        hits_room = table.hits_room;
        next_room = table.next_room;
        top_room = table.top_room;
      };
      hits = c.loop-self.invariant.hits;
      no_seats = c.loop-self.invariant.no_seats;
      chains = c.loop-self.invariant.chains;
      room = c.loop-self.invariant.room;
    }
