use Rattle.std.proofs.Common.{◌≡◌, ℕ, ◌+◌, ◌*◌, List, arith, length, get_or, inl, inr, sym, ap, ◌∙◌, replicate, refl, sum}
use Rattle.std.proofs.lemmas.Bool.{cases_lt}
use Rattle.std.proofs.lemmas.List.{get_or-replicate, get_or_past, length-replicate}
use Rattle.std.proofs.lemmas.List.Folds.{sum_by-replicate}
use Rattle.hit_lists.proofs.ChainLemmas.{none_chained}
use Rattle.hit_lists.proofs.slot_table.SlotTable.new.Goals as goal

none_at : (xs : List ℕ) (n d : ℕ) → xs ≡ replicate n 0 → get_or xs d 0 ≡ 0
none_at xs n d e =
    ap (λ (xs : List ℕ). get_or xs d 0) e
    ∙ elim (cases_lt d n) [
      | inl h ↦ get_or-replicate n d 0 0 h
      | inr h ↦ get_or_past (replicate n 0) d 0 (let zero : ℕ = 0 in let k = length-replicate n zero in omega arith)
    ]

no_sum : (xs : List ℕ) (n : ℕ) → xs ≡ replicate n 0 → sum xs ≡ 0
no_sum xs n e = let k : sum (replicate n 0) ≡ n * 0 = sum_by-replicate (λ (x : ℕ). x) n 0 in let m = ap sum e in
    omega arith

pub returns : goal.returns
returns c =
    let n = c.args.bits + 1 in
    let heads_are : c.in_ok-heads.heads.items ≡ replicate n 0 = c.in_ok-heads.ensures.items_if_clones_equal
    (λ y e. e) in
    let counts_are : c.in_ok-counts.counts.items ≡ replicate n 0 = c.in_ok-counts.ensures.items_if_clones_equal
    (λ y e. e) in
    let as_many : length c.in_ok-heads.heads.items ≡ length c.in_ok-counts.counts.items = ap length
    (heads_are ∙ sym counts_are) in
    let many : length c.in_ok-counts.counts.items ≡ n = sym c.in_ok-counts.counts.ok.0 ∙ c.in_ok-counts.ensures.len in
    record {
      table = record {
        chained = rw (c.in_ok-hits.ensures.items, c.in_ok-next.ensures.items, c.in_ok-top.ensures.items)
            (none_chained c.in_ok-heads.heads.items c.in_ok-counts.counts.items c.args.bits as_many (omega arith)
            (λ d. none_at c.in_ok-counts.counts.items n d counts_are));
        total = rw (c.in_ok-hits.ensures.items, c.in_ok-top.ensures.items)
            (let k = no_sum c.in_ok-counts.counts.items n counts_are in omega arith);
        few = rw (c.in_ok-hits.ensures.items) (omega arith);
        fits = c.ranges.room.fits;
        ordered = c.in_ok-top.ensures.heap_order;
        hits_room = c.in_ok-hits.ensures.capacity;
        next_room = c.in_ok-next.ensures.capacity;
        top_room = c.in_ok-top.ensures.capacity;
      };
      hits = c.in_ok-hits.ensures.items;
      seats = ap length c.in_ok-top.ensures.items;
      limit = refl;
      chains = many;
      room = refl;
    }
