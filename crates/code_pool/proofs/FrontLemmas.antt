-- Lemmas on the fronts of lists.
use Rattle.std.proofs.Common.{◌≡◌, ◌≢◌, ℕ, zero, suc, ◌+◌, ◌-◌, ◌<◌, ◌≤◌, ◌^◌, inl, inr, min, get_or, set, List, [], ◌∷◌}
use Rattle.std.proofs.Common.{◌++◌, length, take, refl, sym, ap, ◌∙◌, subst, arith}
use Rattle.std.proofs.lemmas.List.{length-append, length-set, length-take, get_or_append_left, get_or-append-add}
use Rattle.std.proofs.lemmas.List.{get_or_default, get_or_past, get_or-set_same, get_or-set_other, get_or-take}
use Rattle.std.proofs.lemmas.Bool.{cases_eq, cases_lt}
use Rattle.std.specs.List.{range_with_len}
use Rattle.std.proofs.lemmas.List.FromFn.{get_or-range_with_len, length-range_with_len}
use Rattle.code_pool.specs.Chains.{Held, BlockChains, IsApart, IsFront, and_block, but_last, chain_at, empty_chain}
use Rattle.code_pool.specs.Chains.{last_of, with_chain, with_moved, with_new}
use Rattle.code_pool.specs.Linked.{IsFronts, no_front}
use Rattle.code_pool.specs.declared.front.Front.{Front}

-- the front of a list that had no blocks
pub front-first : (list : List ℕ) (a n : ℕ) → length list ≡ 0 → IsFront (list ++ range_with_len a n) a n
front-first [] a n none = record {
  some = λ h. omega (arith, length-range_with_len a n);
  within = omega (arith, length-range_with_len a n);
  each = λ k low. get_or-range_with_len a n k 0 low;
  ends = λ low. absurd (omega (arith, length-range_with_len a n));
}
front-first (b ∷ list) a n none = absurd (omega arith)

-- the front of a list that was its own front, and goes on
pub front-longer : (list : List ℕ) (first blocks a m n : ℕ) → IsFront list first blocks → length list ≡ m → blocks ≡ m
    → 0 < m → a ≡ first + m → IsFront (list ++ range_with_len a n) first (m + n)
front-longer list first blocks a m n f count whole some on =
    let size : length (list ++ range_with_len a n) ≡ length list + n =
    length-append list (range_with_len a n) ∙ ap (λ (k : ℕ). length list + k) (length-range_with_len a n) in
    record {
      some = λ h. omega arith;
      within = omega arith;
      each = λ k low. elim (cases_lt k (length list)) [
        | inl q ↦ get_or_append_left list (range_with_len a n) 0 k q ∙ f.each k (omega arith)
        | inr q ↦
            let at : k ≡ length list + (k - length list) = omega arith in
            ap (λ (j : ℕ). get_or (list ++ range_with_len a n) j 0) at
            ∙ get_or-append-add list (range_with_len a n) (k - length list) 0
            ∙ get_or-range_with_len a n (k - length list) 0 (omega arith) ∙ omega arith
      ];
      ends = λ low. absurd (omega arith);
    }

-- the front of a list that goes on behind it
pub front-same : (list : List ℕ) (first blocks a n : ℕ) → IsFront list first blocks → 0 < length list
    → (blocks ≡ length list → a ≢ first + blocks) → IsFront (list ++ range_with_len a n) first blocks
front-same list first blocks a n f some stops =
    let size : length (list ++ range_with_len a n) ≡ length list + n =
    length-append list (range_with_len a n) ∙ ap (λ (k : ℕ). length list + k) (length-range_with_len a n) in
    let within : blocks ≤ length list = f.within in
    record {
      some = λ h. f.some some;
      within = omega arith;
      each = λ k low. get_or_append_left list (range_with_len a n) 0 k (omega arith) ∙ f.each k low;
      ends = λ low same. elim (cases_lt blocks (length list)) [
        | inl q ↦ f.ends q (sym (get_or_append_left list (range_with_len a n) 0 blocks q) ∙ same)
        | inr q ↦
            let whole : blocks ≡ length list + 0 = omega arith in
            stops (omega arith) (sym
            (ap (λ (j : ℕ). get_or (list ++ range_with_len a n) j 0) whole
            ∙ get_or-append-add list (range_with_len a n) 0 0
            ∙ get_or-range_with_len a n 0 0 (omega arith) ∙ omega arith) ∙ same)
      ];
    }

-- the front of a list that loses its last block
pub front-shorter : (list : List ℕ) (first blocks : ℕ) → IsFront list first blocks → 0 < length list
    → IsFront (take (length list - 1) list) first (min blocks (length list - 1))
front-shorter list first blocks f some =
    let size : length (take (length list - 1) list) ≡ length list - 1 =
    length-take (length list - 1) list ∙ omega arith in
    let any : 0 < blocks = f.some some in
    record {
      some = λ h. omega arith;
      within = omega arith;
      each = λ k low. get_or-take (length list - 1) list k 0 (omega arith) ∙ f.each k (omega arith);
      ends = λ low same.
          let inside : blocks < length list - 1 = omega arith in
          let whole : min blocks (length list - 1) ≡ blocks = omega arith in
          f.ends (omega arith) (sym (get_or-take (length list - 1) list blocks 0 inside)
          ∙ sym (ap (λ (j : ℕ). get_or (take (length list - 1) list) j 0) whole) ∙ same ∙ omega arith);
    }

-- another chain of a list
pub fronts-with : (b : BlockChains) (fronts : List Front) (i : ℕ) (f : Front) (h : Held) → IsFronts b fronts
    → i + 1 < length b.chains → IsFront h.blocks f.first f.blocks → IsFronts (with_chain b (i + 1) h) (set fronts i f)
fronts-with b fronts i f h k here is = record {
  lists = rw (length-set, length-set) k.lists;
  each = λ j. elim (cases_eq j i) [
    | inl q ↦ rw (
      q,
      get_or-set_same b.chains (i + 1) h empty_chain here,
      get_or-set_same fronts i f no_front (omega (arith, k.lists)),
    ) is
    | inr q ↦ rw (
      get_or-set_other b.chains (i + 1) (j + 1) h empty_chain (λ e. q (omega arith)),
      get_or-set_other fronts i j f no_front q,
    ) (k.each j)
  ];
}

-- another number of rows of a list
pub fronts-counted : (b : BlockChains) (fronts : List Front) (i len : ℕ) → IsFronts b fronts → i + 1 < length b.chains
    → IsFronts (with_chain b (i + 1) (record { blocks = (chain_at b (i + 1)).blocks; len = len })) fronts
fronts-counted b fronts i len k here =
    let h : Held = record { blocks = (chain_at b (i + 1)).blocks; len = len } in
    record {
      lists = rw length-set k.lists;
      each = λ j. elim (cases_eq j i) [
        | inl q ↦ rw (q, get_or-set_same b.chains (i + 1) h empty_chain here) (k.each i)
        | inr q ↦ rw (get_or-set_other b.chains (i + 1) (j + 1) h empty_chain (λ e. q (omega arith))) (k.each j)
      ];
    }

-- another chain of free blocks
fronts-freed : (b : BlockChains) (fronts : List Front) (h : Held) → IsFronts b fronts
    → IsFronts (with_chain b 0 h) fronts
fronts-freed b fronts h k = record {
  lists = rw length-set k.lists;
  each = λ j. rw (get_or-set_other b.chains 0 (j + 1) h empty_chain (λ e. absurd (omega arith))) (k.each j);
}

-- a free block goes to a list
pub fronts-taken : (b : BlockChains) (fronts : List Front) (i block : ℕ) (f : Front) → IsFronts b fronts
    → i + 1 < length b.chains → block ≡ last_of (chain_at b 0)
    → IsFront ((chain_at b (i + 1)).blocks ++ block ∷ []) f.first f.blocks
    → IsFronts (with_moved b 0 (i + 1)) (set fronts i f)
fronts-taken b fronts i block f k here is front =
    fronts-with (with_chain b 0 (but_last (chain_at b 0))) fronts i f
    (and_block (chain_at b (i + 1)) (last_of (chain_at b 0))) (fronts-freed b fronts (but_last (chain_at b 0)) k)
    (rw length-set here)
    (subst (λ (x : ℕ). IsFront ((chain_at b (i + 1)).blocks ++ x ∷ []) f.first f.blocks) is front)

-- a block of a list becomes free
pub fronts-given : (b : BlockChains) (fronts : List Front) (i : ℕ) (f : Front) → IsFronts b fronts
    → i + 1 < length b.chains → IsFront (but_last (chain_at b (i + 1))).blocks f.first f.blocks
    → IsFronts (with_moved b (i + 1) 0) (set fronts i f)
fronts-given b fronts i f k here front =
    fronts-freed (with_chain b (i + 1) (but_last (chain_at b (i + 1)))) (set fronts i f) _
    (fronts-with b fronts i f (but_last (chain_at b (i + 1))) k here front)

-- new blocks go to a list
pub fronts-grown : (b : BlockChains) (fronts : List Front) (i n : ℕ) (f : Front) → IsFronts b fronts
    → i + 1 < length b.chains
    → IsFront ((chain_at b (i + 1)).blocks ++ range_with_len b.all n) f.first f.blocks
    → IsFronts (with_new b (i + 1) n) (set fronts i f)
fronts-grown b fronts i n f k here front =
    let g : Held = record {
      blocks = (chain_at b (i + 1)).blocks ++ range_with_len b.all n;
      len = (chain_at b (i + 1)).len;
    } in
    let w = fronts-with b fronts i f g k here front in
    record { lists = w.lists; each = w.each }

-- one more list
get_or-opened : {X : Type 0} (xs : List X) (d : X) (j : ℕ) → get_or (xs ++ d ∷ []) j d ≡ get_or xs j d
get_or-opened [] d zero = refl
get_or-opened [] d (suc j) = refl
get_or-opened (x ∷ xs) d zero = refl
get_or-opened (x ∷ xs) d (suc j) = get_or-opened xs d j

pub fronts-opened : (b : BlockChains) (fronts : List Front) → IsFronts b fronts
    → IsFronts (record b { chains = b.chains ++ empty_chain ∷ [] }) (fronts ++ no_front ∷ [])
fronts-opened b fronts k = record {
  lists = omega (arith, k.lists, length-append fronts (no_front ∷ []), length-append b.chains (empty_chain ∷ []));
  each = λ j. rw (get_or-opened b.chains empty_chain (j + 1), get_or-opened fronts no_front j) (k.each j);
}

-- no lists
pub fronts-none : (b : BlockChains) → length b.chains ≡ 1 → IsFronts b []
fronts-none b one = record {
  lists = omega arith;
  each = λ j. rw (get_or_past b.chains (j + 1) empty_chain (omega arith)) (record {
    some = λ h. absurd (omega arith);
    within = omega arith;
    each = λ k low. absurd (omega arith);
    ends = λ low. absurd (omega arith);
  });
}

-- the front that is read for a list is its front
pub front_read : (b : BlockChains) (fronts : List Front) (i : ℕ) (f : Front) → IsFronts b fronts → i + 1 < length b.chains
    → f ≡ get_or fronts i f → IsFront (chain_at b (i + 1)).blocks f.first f.blocks
front_read b fronts i f k here read =
    subst (λ (w : Front). IsFront (chain_at b (i + 1)).blocks w.first w.blocks)
    (get_or_default fronts i no_front f (omega (arith, k.lists)) ∙ sym read) (k.each i)

-- a front ends before the last number
pub front_low : (b : BlockChains) (c first n : ℕ) → 0 < n → IsApart b → b.all ≤ 4294967294
    → IsFront (chain_at b c).blocks first n → first + n ≤ 2 ^ 32
front_low b c first n some apart few f =
    let last : get_or (chain_at b c).blocks (n - 1) 0 ≡ first + (n - 1) = f.each (n - 1) (omega arith) in
    let inside : get_or (chain_at b c).blocks (n - 1) 0 < b.all = apart.within c (n - 1) (omega (arith, f.within)) in
    omega arith
