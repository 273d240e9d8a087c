-- Lemmas on the blocks where the next rows go.
use Rattle.std.proofs.Common.{◌≡◌, ℕ, zero, suc, ◌+◌, ◌-◌, ◌*◌, ◌/◌, ◌<◌, ◌≤◌, inl, inr, get_or, set, List, [], ◌∷◌}
use Rattle.std.proofs.Common.{◌++◌, length, refl, sym, ap, ◌∙◌, arith}
use Rattle.std.proofs.lemmas.List.{length-append, length-set, length-take, get_or_append_left, get_or-append-add}
use Rattle.std.proofs.lemmas.List.{get_or-append_right, get_or_past, get_or-set_same, get_or-set_other, get_or-take}
use Rattle.std.proofs.lemmas.List.{get_or_read, map-append}
use Rattle.std.proofs.lemmas.Bool.{cases_eq, cases_lt}
use Rattle.std.specs.List.{range_with_len}
use Rattle.std.proofs.lemmas.List.FromFn.{get_or-range_with_len, length-range_with_len}
use Rattle.code_pool.specs.Linked.{held_by, no_chain}
use Rattle.code_pool.specs.declared.chain.Chain.{Chain}
use Rattle.code_pool.proofs.LinkLemmas.{seen, list_seen, length-blocks_to}
use Rattle.code_pool.specs.Chains.{Held, BlockChains, IsNext, and_block, but_last, chain_at, empty_chain, last_of}
use Rattle.code_pool.specs.Chains.{with_chain, with_moved, with_new}

-- another chain of a list
pub next-with : (b : BlockChains) (next : List ℕ) (i x : ℕ) (h : Held) → IsNext b next → i + 1 < length b.chains
    → (h.len / 4 < length h.blocks → x ≡ get_or h.blocks (h.len / 4) 0) → IsNext (with_chain b (i + 1) h) (set next i x)
next-with b next i x h k here is = record {
  lists = rw (length-set, length-set) k.lists;
  block = λ j. elim (cases_eq j i) [
    | inl q ↦ rw (
      q,
      get_or-set_same b.chains (i + 1) h empty_chain here,
      get_or-set_same next i x 0 (omega (arith, k.lists)),
    ) is
    | inr q ↦ rw (
      get_or-set_other b.chains (i + 1) (j + 1) h empty_chain (λ e. q (omega arith)),
      get_or-set_other next i j x 0 q,
    ) (k.block j)
  ];
}

-- another chain of free blocks
pub next-freed : (b : BlockChains) (next : List ℕ) (h : Held) → IsNext b next → IsNext (with_chain b 0 h) next
next-freed b next h k = record {
  lists = rw length-set k.lists;
  block = λ j. rw (get_or-set_other b.chains 0 (j + 1) h empty_chain (λ e. absurd (omega arith))) (k.block j);
}

-- a list loses its last block
next-shorter : (b : BlockChains) (next : List ℕ) (i : ℕ) → IsNext b next → i + 1 < length b.chains
    → IsNext (with_chain b (i + 1) (but_last (chain_at b (i + 1)))) next
next-shorter b next i k here = record {
  lists = rw length-set k.lists;
  block = λ j. elim (cases_eq j i) [
    | inl q ↦ rw (q, get_or-set_same b.chains (i + 1) (but_last (chain_at b (i + 1))) empty_chain here) (λ low.
        let h = chain_at b (i + 1) in
        let inside : h.len / 4 < length h.blocks - 1 = omega (arith, length-take (length h.blocks - 1) h.blocks) in
        k.block i (omega arith) ∙ sym (get_or-take (length h.blocks - 1) h.blocks (h.len / 4) 0 inside))
    | inr q ↦ rw (get_or-set_other b.chains (i + 1) (j + 1) (but_last (chain_at b (i + 1))) empty_chain
        (λ e. q (omega arith))) (k.block j)
  ];
}

-- where the next row of a list goes that gets blocks, of which one is the first
next_more : (h : Held) (more : List ℕ) (old first x : ℕ) → h.len ≤ 4 * length h.blocks
    → (h.len / 4 < length h.blocks → old ≡ get_or h.blocks (h.len / 4) 0) → (0 < length more → first ≡ get_or more 0 0)
    → (h.len / 4 < length h.blocks → x ≡ old) → (length h.blocks ≤ h.len / 4 → x ≡ first)
    → h.len / 4 < length (h.blocks ++ more) → x ≡ get_or (h.blocks ++ more) (h.len / 4) 0
next_more h more old first x held was is room full low =
    elim (cases_lt (h.len / 4) (length h.blocks)) [
      | inl q ↦ room q ∙ was q ∙ sym (get_or_append_left h.blocks more 0 (h.len / 4) q)
      | inr q ↦
          let at : h.len / 4 ≡ length h.blocks + 0 = omega arith in
          let some : 0 < length more = omega (arith, length-append h.blocks more) in
          full q ∙ is some ∙ sym (ap (λ (k : ℕ). get_or (h.blocks ++ more) k 0) at ∙ get_or-append-add h.blocks more 0 0)
    ]

-- a free block goes to a list
pub next-taken : (b : BlockChains) (next : List ℕ) (i block x : ℕ) → IsNext b next → i + 1 < length b.chains
    → (chain_at b (i + 1)).len ≤ 4 * length (chain_at b (i + 1)).blocks
    → block ≡ last_of (chain_at b 0)
    → ((chain_at b (i + 1)).len / 4 < length (chain_at b (i + 1)).blocks → x ≡ get_or next i 0)
    → (length (chain_at b (i + 1)).blocks ≤ (chain_at b (i + 1)).len / 4 → x ≡ block)
    → IsNext (with_moved b 0 (i + 1)) (set next i x)
next-taken b next i block x k here held is room full =
    let h = chain_at b (i + 1) in
    let less = with_chain b 0 (but_last (chain_at b 0)) in
    next-with less next i x (and_block h (last_of (chain_at b 0))) (next-freed b next (but_last (chain_at b 0)) k)
    (rw length-set here)
    (next_more h (last_of (chain_at b 0) ∷ []) (get_or next i 0) block x held (k.block i) (λ _. is) room full)

-- a block of a list becomes free
pub next-given : (b : BlockChains) (next : List ℕ) (i : ℕ) → IsNext b next → i + 1 < length b.chains
    → IsNext (with_moved b (i + 1) 0) next
next-given b next i k here =
    next-freed (with_chain b (i + 1) (but_last (chain_at b (i + 1)))) next _ (next-shorter b next i k here)

first_of : (a n : ℕ) → 0 < length (range_with_len a n) → a ≡ get_or (range_with_len a n) 0 0
first_of a n some = omega (arith, get_or-range_with_len a n 0 0 (omega (arith, length-range_with_len a n)))

-- new blocks go to a list
pub next-grown : (b : BlockChains) (next : List ℕ) (i n first x : ℕ) → IsNext b next → i + 1 < length b.chains
    → (chain_at b (i + 1)).len ≤ 4 * length (chain_at b (i + 1)).blocks
    → first ≡ b.all
    → ((chain_at b (i + 1)).len / 4 < length (chain_at b (i + 1)).blocks → x ≡ get_or next i 0)
    → (length (chain_at b (i + 1)).blocks ≤ (chain_at b (i + 1)).len / 4 → x ≡ first)
    → IsNext (with_new b (i + 1) n) (set next i x)
next-grown b next i n first x k here held is room full =
    let h = chain_at b (i + 1) in
    let g : Held = record {
      blocks = (chain_at b (i + 1)).blocks ++ range_with_len b.all n;
      len =
          (chain_at b (i + 1)).len;
    } in
    let w = next-with b next i x g k here
    (next_more h (range_with_len b.all n) (get_or next i 0) first x held (k.block i) (λ some. is
    ∙ first_of b.all n some) room full) in
    record { lists = w.lists; block = w.block }

get-empty_chain : (j : ℕ) → get_or (empty_chain ∷ []) j empty_chain ≡ empty_chain
get-empty_chain zero = refl
get-empty_chain (suc j) = refl

opened_past : (cs : List Held) (j : ℕ) → length cs ≤ j → get_or (cs ++ empty_chain ∷ []) j empty_chain ≡ empty_chain
opened_past cs j past = get_or-append_right cs (empty_chain ∷ []) (length cs) j empty_chain refl past
    ∙ get-empty_chain (j - length cs)

-- one more list
pub next-opened : (b : BlockChains) (next : List ℕ) → IsNext b next
    → IsNext (record b { chains = b.chains ++ empty_chain ∷ [] }) (next ++ 0 ∷ [])
next-opened b next k = record {
  lists = omega (arith, k.lists, length-append next (0 ∷ []), length-append b.chains (empty_chain ∷ []));
  block = λ j. elim (cases_lt (j + 1) (length b.chains)) [
    | inl q ↦ rw (
      get_or_append_left b.chains (empty_chain ∷ []) empty_chain (j + 1) q,
      get_or_append_left next (0 ∷ []) 0 j (omega (arith, k.lists)),
    ) (k.block j)
    | inr q ↦ rw (opened_past b.chains (j + 1) q) (λ low. absurd (omega arith))
  ];
}

-- no lists
pub next-none : (b : BlockChains) → length b.chains ≡ 1 → IsNext b []
next-none b one = record {
  lists = omega arith;
  block = λ j. rw (get_or_past b.chains (j + 1) empty_chain (omega arith)) (λ low. absurd (omega arith));
}

-- the choice of the next block of a list, by the end of its chain
pub chosen : (before : List ℕ) (free : Chain) (lists : List Chain) (p : BlockChains) (i old x block : ℕ) (e : Chain)
    (next : List ℕ) → seen before (free ∷ lists) ≡ p → i + 1 < length p.chains
    → e ≡ get_or lists i e → old ≡ get_or next i old → IsNext p next → (e.len / 4 < e.blocks → x ≡ old)
    → (e.blocks ≤ e.len / 4 → x ≡ block)
    → ((chain_at p (i + 1)).len / 4 < length (chain_at p (i + 1)).blocks → x ≡ get_or next i 0)
    × (length (chain_at p (i + 1)).blocks ≤ (chain_at p (i + 1)).len / 4 → x ≡ block)
chosen before free lists p i old x block e next is here at read k room full =
    let h = list_seen before free lists p i e is here at in
    let len : (chain_at p (i + 1)).len ≡ e.len = ap (λ (c : Held). c.len) h in
    let size : length (chain_at p (i + 1)).blocks ≡ e.blocks = ap (λ (c : Held). length c.blocks) h
    ∙ length-blocks_to before e.last e.blocks in
    let q : (chain_at p (i + 1)).len / 4 ≡ e.len / 4 = ap (λ (n : ℕ). n / 4) len in
    let was : old ≡ get_or next i 0 = get_or_read next i old (omega (arith, k.lists)) read 0 in
    ((λ low. room (omega arith) ∙ was), (λ high. full (omega arith)))

-- one more list, as it is seen
pub seen-opened : (before : List ℕ) (ends : List Chain)
    → seen before (ends ++ no_chain ∷ [])
    ≡ record (seen before ends) { chains = (seen before ends).chains ++ empty_chain ∷ [] }
seen-opened before ends = ap (λ (cs : List Held). record { all = length before; chains = cs })
    (map-append (held_by before) ends (no_chain ∷ []))
