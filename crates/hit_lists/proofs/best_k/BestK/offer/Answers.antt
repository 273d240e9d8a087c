use Rattle.std.proofs.Common.{◌≡◌, ◌<◌, ◌≤◌, ◌⊎◌, inl, inr, ℕ, ◌∷◌, take, length, get_or, sym, ◌∙◌, arith}
use Rattle.bcodes.specs.declared.hit.Hit.{Hit}
use Rattle.bcodes.specs.Hits.{no_hit, in_order}
use Rattle.bcodes.proofs.OrderLemmas.{length-in_order}
use Rattle.hit_lists.specs.declared.slot_table.SlotTable.{SlotTable}
use Rattle.hit_lists.specs.BestHits.{IsKept}
use Rattle.hit_lists.proofs.ChainLemmas.{not_above}
use Rattle.hit_lists.proofs.KeptLemmas.{kept_same}
use Rattle.hit_lists.proofs.best_k.BestK.offer.Goals as goal

room_left : (t : SlotTable) (k most bits len : ℕ) → IsKept t k most bits → len ≡ length t.hits.items
    → (len < most) ⊎ (len ≡ k) → (length t.hits.items < t.room) ⊎ (length t.hits.items ≡ k)
room_left t k most bits len kept e (inr r) = inr (sym e ∙ r)
room_left t k most bits len kept e (inl r) =
    elim kept.stage [
      | inl f ↦ let few = f.fewer in inl (omega (arith, kept.room))
      | inr f ↦ inr f.all
    ]

dropped : (t : SlotTable) (k most bits : ℕ) (h : Hit) → IsKept t k most bits → h.distance ≤ bits → t.limit < h.distance
    → in_order t.hits.items ≡ take k (in_order (h ∷ in_order t.hits.items))
dropped t k most bits h kept within beyond =
    elim kept.stage [
      | inl f ↦ absurd (let limit = f.open_limit in omega (arith, kept.chains))
      | inr f ↦ kept_same k t.hits.items h f.all
          (λ s lo. not_above (get_or t.hits.items s no_hit) h
          (inl (let low = kept.table.chained.under s lo (omega arith) in omega arith)))
    ]

pub offer-requires-clause-room : goal.offer-requires-clause-room
offer-requires-clause-room c =
    room_left c.self.inside.table c.self.inside.k c.self.inside.most c.self.inside.dim.bits
    (length (in_order c.self.inside.table.hits.items)) c.self.invariant
    (length-in_order c.self.inside.table.hits.items) (rw (← c.self.view_is) at c.requires.room)

pub returns-else-hit-self-clause-items : goal.returns-else-hit-self-clause-items
returns-else-hit-self-clause-items c =
    rw (← c.self.view_is)
    (dropped c.self.inside.table c.self.inside.k c.self.inside.most c.self.inside.dim.bits c.args.hit c.self.invariant
    (rw (← c.self.view_is) at c.requires.distance) c.if-hit-self.false)
