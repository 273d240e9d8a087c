use Rattle.std.proofs.Common.{◌≡◌, ◌<◌, ◌-◌, inl, inr, ℕ, length, get_or, refl, sym, ap, ◌∙◌, arith}
use Rattle.bcodes.specs.declared.hit.Hit.{Hit}
use Rattle.bcodes.specs.Hits.{no_hit, in_order}
use Rattle.bcodes.proofs.OrderLemmas.{length-in_order}
use Rattle.hit_lists.specs.declared.slot_table.SlotTable.{SlotTable}
use Rattle.hit_lists.specs.BestHits.{IsKept}
use Rattle.hit_lists.specs.Chains.{no_seat}
use Rattle.hit_lists.proofs.KeptLemmas.{last_at}
use Rattle.hit_lists.proofs.best_k.BestK.worst.Goals as goal

-- the limit of k kept hits is the distance of the last
limit_is : (t : SlotTable) (k most bits : ℕ) → IsKept t k most bits → length t.hits.items ≡ k
    → (get_or (in_order t.hits.items) (k - 1) no_hit).distance ≡ t.limit
limit_is t k most bits kept full =
    elim kept.stage [
      | inl f ↦ absurd (let few = f.fewer in omega arith)
      | inr f ↦
          let seat = kept.table.chained.seated 0 no_seat f.some_seat in
          last_at k t.limit t.hits.items _ full (λ s lo. kept.table.chained.under s lo (omega arith)) seat.within
          (ap (λ (h : Hit). h.distance) seat.hit)
    ]

fewer_than : (t : SlotTable) (k most bits : ℕ) → IsKept t k most bits → (length t.hits.items ≡ k → ⊥)
    → length t.hits.items < k
fewer_than t k most bits kept ne =
    elim kept.stage [
      | inl f ↦ f.fewer
      | inr f ↦ absurd (ne f.all)
    ]

pub returns-then-len-self-clause-none : goal.returns-then-len-self-clause-none
returns-then-len-self-clause-none c =
    let n : length (in_order c.self.inside.table.hits.items) ≡ length c.self.inside.table.hits.items = length-in_order
    c.self.inside.table.hits.items in
    rw (← c.self.view_is) (λ e. cc, λ lt. absurd (omega (arith, c.self.inside.table.hits.ok.0)))

pub returns-then-len-self-clause-last : goal.returns-then-len-self-clause-last
returns-then-len-self-clause-last c =
    rw (← c.self.view_is)
    (sym (limit_is c.self.inside.table c.self.inside.k c.self.inside.most c.self.inside.dim.bits c.self.invariant
    (sym c.self.inside.table.hits.ok.0 ∙ sym c.len.ensures ∙ c.if-len-self.true)))

pub returns-else-len-self-clause-none : goal.returns-else-len-self-clause-none
returns-else-len-self-clause-none c =
    let n : length (in_order c.self.inside.table.hits.items) ≡ length c.self.inside.table.hits.items = length-in_order
    c.self.inside.table.hits.items in
    let few : length c.self.inside.table.hits.items < c.self.inside.k = fewer_than c.self.inside.table c.self.inside.k
    c.self.inside.most c.self.inside.dim.bits c.self.invariant
    (λ e. c.if-len-self.false (c.len.ensures ∙ c.self.inside.table.hits.ok.0 ∙ e)) in
    rw (← c.self.view_is) (λ e. omega arith, λ lt. refl)
