use Rattle.std.proofs.Common.{◌≡◌, ◌<◌, ◌⊎◌, inl, inr, ℕ, length, get_or, sym, ap, ◌∙◌}
use Rattle.bcodes.specs.Hits.{no_hit, in_order}
use Rattle.bcodes.proofs.OrderLemmas.{is_above-trans}
use Rattle.std.specs.BinaryHeap.{heap_items}
use Rattle.hit_lists.specs.declared.slot_table.SlotTable.{SlotTable}
use Rattle.hit_lists.specs.Chains.{IsFilling, IsFull, last_hit}
use Rattle.hit_lists.proofs.KeptLemmas.{kept_same, kept_added}
use Rattle.hit_lists.proofs.slot_table.SlotTable.offer.Goals as goal

fewer : (t : SlotTable) (k n : ℕ) → IsFilling t k ⊎ IsFull t k → n ≡ length t.hits.items → (n ≡ k → ⊥)
    → length t.hits.items < k
fewer t k n (inl f) e ne = f.fewer
fewer t k n (inr f) e ne = absurd (ne (e ∙ f.all))

pub returns-else-has_after-clause-hits : goal.returns-else-has_after-clause-hits
returns-else-has_after-clause-hits c =
    let t = c.args.self.now in
    let last = last_hit t.hits.items (heap_items t.top) in
    kept_same c.args.k t.hits.items c.args.hit (sym t.hits.ok.0 ∙ sym c.len-kept.ensures ∙ c.if-kept-k.true)
    (λ s lo. is_above-trans (get_or t.hits.items s no_hit) last c.args.hit (c.has_after.ensures.last s lo)
    (sym c.if-has_after.ensures.is))

pub returns-then-kept-k-2-clause-hits : goal.returns-then-kept-k-2-clause-hits
returns-then-kept-k-2-clause-hits c =
    ap in_order (c.lower.ensures.hits ∙ c.add.ensures.hits)
    ∙ kept_added c.args.k c.args.self.now.hits.items c.args.hit
    (fewer c.args.self.now c.args.k c.len-kept.result c.requires.stage
    (c.len-kept.ensures ∙ c.args.self.now.hits.ok.0) c.if-kept-k.false)

pub returns-else-kept-k-2-clause-hits : goal.returns-else-kept-k-2-clause-hits
returns-else-kept-k-2-clause-hits c =
    ap in_order c.add.ensures.hits
    ∙ kept_added c.args.k c.args.self.now.hits.items c.args.hit
    (fewer c.args.self.now c.args.k c.len-kept.result c.requires.stage
    (c.len-kept.ensures ∙ c.args.self.now.hits.ok.0) c.if-kept-k.false)
