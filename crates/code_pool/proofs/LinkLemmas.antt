-- Lemmas on blocks and their chains.
use Rattle.std.proofs.Common.{◌≡◌, ◌≢◌, ℕ, zero, suc, ◌+◌, ◌-◌, ◌*◌, ◌/◌, ◌%◌, ◌<◌, ◌≤◌, ◌^◌, ◌⊎◌, inl, inr, min}
use Rattle.std.proofs.Common.{Bool, true, false, cond, eqb, get_or, set, List, [], ◌∷◌, ◌++◌, length, take, map, refl}
use Rattle.std.proofs.Common.{sym, ap, ◌∙◌, subst, arith, replicate, sum_by}
use Rattle.std.proofs.lemmas.List.{append_assoc, append-nil, set-set, set-get_or, length-append, length-replicate}
use Rattle.std.proofs.lemmas.List.{get_or_read, get_or_default, get_or_past, get_or-map, length-map, map-set, take_at}
use Rattle.std.proofs.lemmas.List.{get_or_append_left, get_or_push, length_push, get_or-set_same, get_or-set_other}
use Rattle.std.proofs.lemmas.List.{length-set}
use Rattle.std.proofs.lemmas.List.Sums.{sum_by-cons}
use Rattle.std.proofs.lemmas.Bool.{cases_eq, cases_lt}
use Rattle.std.proofs.lemmas.Bool.Decides.{nat_tests}
use Rattle.std.specs.List.{range_with_len}
use Rattle.code_pool.specs.Chains.{Held, BlockChains, GoesOn, IsApart, IsEnd, IsLongest, IsStretch, IsTied, before_of}
use Rattle.code_pool.specs.Chains.{jump_of, chain_at, count_of, empty_chain, and_block, but_last, last_of, with_chain}
use Rattle.code_pool.specs.Chains.{with_moved}
use Rattle.code_pool.specs.Linked.{IsLinked, IsBlocks, blocks_to, held_by, end_at, no_chain, with_last, without_last}
use Rattle.code_pool.specs.Linked.{blocks_in}
use Rattle.code_pool.specs.declared.chain.Chain.{Chain}

ap_lt : {a m n : ℕ} → m ≡ n → a < m → a < n
ap_lt e h = omega arith

pub length-blocks_to : (before : List ℕ) (b n : ℕ) → length (blocks_to before b n) ≡ n
length-blocks_to before b zero = refl
length-blocks_to before b (suc n) = length_push (blocks_to before (get_or before b 0) n) b
    ∙ omega (arith, length-blocks_to before (get_or before b 0) n)

-- the blocks of a chain have its owner, each at its place
pub record StandsAt (owner : ℕ → ℕ) (place : List ℕ) (c i b : ℕ) : Type 0 where
  pub owned : owner b ≡ suc c
  pub placed : get_or place b 0 ≡ i

pub stands : (owner : ℕ → ℕ) (before jump place : List ℕ) (ends : List Chain) → IsLinked owner before jump place ends
    → (c n b : ℕ) → owner b ≡ suc c → get_or place b 0 + 1 ≡ n → (i : ℕ) → i < n
    → StandsAt owner place c i (get_or (blocks_to before b n) i 0)
stands owner before jump place ends l c zero b o p i h = absurd (omega arith)
stands owner before jump place ends l c (suc n) b o p i h =
    let size = length-blocks_to before (get_or before b 0) n in
    elim (cases_eq i n) [
      | inl e ↦
          let this : get_or (blocks_to before (get_or before b 0) n ++ b ∷ []) i 0
          ≡ b = get_or_push (blocks_to before (get_or before b 0) n) b 0 i (omega arith) in
          rw this (record { owned = o; placed = omega arith })
      | inr e ↦
          let low : i < n = omega arith in
          let before_it = l.step c b o (omega arith) in
          let this : get_or (blocks_to before (get_or before b 0) n ++ b ∷ []) i 0
          ≡ get_or (blocks_to before (get_or before b 0) n) i 0 = get_or_append_left
          (blocks_to before (get_or before b 0) n) (b ∷ []) 0 i (omega arith) in
          rw this (stands owner before jump place ends l c n (get_or before b 0) before_it.0 (omega arith) i low)
    ]

-- the same of the chain of a number
pub chain_stands : (owner : ℕ → ℕ) (before jump place : List ℕ) (ends : List Chain)
    → IsLinked owner before jump place ends
    → (c i : ℕ) → i < (end_at ends c).blocks
    → StandsAt owner place c i (get_or (blocks_to before (end_at ends c).last (end_at ends c).blocks) i 0)
chain_stands owner before jump place ends l c i h =
    let e = l.last c (omega arith) in
    stands owner before jump place ends l c (end_at ends c).blocks (end_at ends c).last e.0 e.1 i h

-- a block of a chain is the one at its place there
pub stands_there : (owner : ℕ → ℕ) (before jump place : List ℕ) (ends : List Chain)
    → IsLinked owner before jump place ends
    → (c b : ℕ) → owner b ≡ suc c
    → get_or (blocks_to before (end_at ends c).last (end_at ends c).blocks) (get_or place b 0) 0 ≡ b
stands_there owner before jump place ends l c b o =
    let s = chain_stands owner before jump place ends l c (get_or place b 0) (l.low c b o) in
    l.one c _ b s.owned o s.placed

-- what is written of other blocks leaves a chain
pub blocks_to-same : (owner : ℕ → ℕ) (before jump place : List ℕ) (ends : List Chain)
    → IsLinked owner before jump place ends
    → (other : List ℕ) (c : ℕ) → ((x : ℕ) → owner x ≡ suc c → get_or other x 0 ≡ get_or before x 0)
    → (n b : ℕ) → owner b ≡ suc c → get_or place b 0 + 1 ≡ n → blocks_to other b n ≡ blocks_to before b n
blocks_to-same owner before jump place ends l other c same zero b o p = refl
blocks_to-same owner before jump place ends l other c same (suc zero) b o p = refl
blocks_to-same owner before jump place ends l other c same (suc (suc n)) b o p =
    let before_it = l.step c b o (omega arith) in
    rw (same b o) (ap (λ (bs : List ℕ). bs ++ b ∷ [])
    (blocks_to-same owner before jump place ends l other c same (suc n) (get_or before b 0) before_it.0
    (omega arith)))

pub chain-same : (owner : ℕ → ℕ) (before jump place : List ℕ) (ends : List Chain) → IsLinked owner before jump place ends
    → (other : List ℕ) (c : ℕ) → ((x : ℕ) → owner x ≡ suc c → get_or other x 0 ≡ get_or before x 0)
    → blocks_to other (end_at ends c).last (end_at ends c).blocks ≡ blocks_to before (end_at ends c).last
    (end_at ends c).blocks
chain-same owner before jump place ends l other c same =
    elim (cases_eq (end_at ends c).blocks 0) [
      | inl e ↦ rw e refl
      | inr e ↦
          let some = l.last c (omega arith) in
          blocks_to-same owner before jump place ends l other c same (end_at ends c).blocks
          (end_at ends c).last some.0 some.1
    ]

-- owners, with another for one block
abbrev pub owned : (ℕ → ℕ) → ℕ → ℕ → ℕ → ℕ
owned owner b o x = cond (eqb x b) o (owner x)

pub owned-same : (owner : ℕ → ℕ) (b o : ℕ) → owned owner b o b ≡ o
owned-same owner b o = grind (arith, nat_tests)

pub owned-other : (owner : ℕ → ℕ) (b o x : ℕ) → x ≢ b → owned owner b o x ≡ owner x
owned-other owner b o x h = grind (arith, nat_tests)

pub end_at-same : (ends : List Chain) (c : ℕ) (e : Chain) → c < length ends → end_at (set ends c e) c ≡ e
end_at-same ends c e h = get_or-set_same ends c e no_chain h

pub end_at-other : (ends : List Chain) (c d : ℕ) (e : Chain) → d ≢ c → end_at (set ends c e) d ≡ end_at ends d
end_at-other ends c d e h = get_or-set_other ends c d e no_chain h

-- a block that has an owner, where one block is nobody's
pub owned-back : (owner : ℕ → ℕ) (z x d : ℕ) → owned owner z 0 x ≡ suc d → (x ≢ z) × (owner x ≡ suc d)
owned-back owner z x d o =
    elim (cases_eq x z) [
      | inl e ↦ absurd (let none : owned owner z 0 x ≡ 0 = ap (owned owner z 0) e ∙ owned-same owner z 0 in omega arith)
      | inr e ↦ (e, sym (owned-other owner z 0 x e) ∙ o)
    ]

-- a chain without its last block, which is then nobody's
pub linked-shorter : (owner : ℕ → ℕ) (before jump place : List ℕ) (ends : List Chain)
    → IsLinked owner before jump place ends
    → (c : ℕ) → c < length ends → 0 < (end_at ends c).blocks
    → IsLinked (owned owner (end_at ends c).last 0) before jump place (set ends c (without_last before (end_at ends c)))
linked-shorter owner before jump place ends l c here some =
    let e = end_at ends c in
    let z = (end_at ends c).last in
    let at : (owner z ≡ suc c) × (get_or place z 0 + 1 ≡ e.blocks) = l.last c some in
    let kept : (x d : ℕ) → x ≢ z → owner x ≡ suc d → owned owner z 0 x ≡ suc d = λ x d n o. owned-other owner z 0 x n
    ∙ o in
    let same_chain : (x d : ℕ) → x ≡ z → owner x ≡ suc d → d ≡ c = λ x d n o. let q : suc d ≡ suc c = sym o
    ∙ ap owner n ∙ at.0 in omega arith in
    let below : (x d : ℕ) → owner x ≡ suc d → d ≡ c
    → get_or place x 0 < e.blocks = λ x d o n. ap_lt (ap (λ (k : ℕ). (end_at ends k).blocks) n) (l.low d x o) in
    record {
      inside = λ d x o. let u = owned-back owner z x d o in
          let i : (x < length before) × (d < length ends) = l.inside d x u.1 in
          (i.0, rw length-set i.1);
      low = λ d x o. let u = owned-back owner z x d o in
          elim (cases_eq d c) [
            | inl n ↦
                let low : get_or place x 0 < e.blocks = below x d u.1 n in
                let new : end_at (set ends c (without_last before e)) d ≡ without_last before e = ap
                (end_at (set ends c (without_last before e))) n ∙ end_at-same ends c _ here in
                let apart : get_or place x 0 ≢ get_or place z 0 = λ q. u.0 (l.one c x z (u.1 ∙ ap suc n) at.0 q) in
                rw new (omega arith)
            | inr n ↦ rw (end_at-other ends c d (without_last before e) n) (l.low d x u.1)
          ];
      one = λ d x y o p. let u = owned-back owner z x d o in let v = owned-back owner z y d p in l.one d x y u.1 v.1;
      first = λ d x o. let u = owned-back owner z x d o in l.first d x u.1;
      step = λ d x o h. let u = owned-back owner z x d o in
          let s : (owner (get_or before x 0) ≡ suc d) × (get_or place (get_or before x 0) 0 + 1 ≡ get_or place x 0) =
          l.step d x u.1 h in
          let other : get_or before x 0 ≢ z = λ q. let low : get_or place x 0 < e.blocks = below x d u.1
          (same_chain _ d q s.0) in
          let r : get_or place (get_or before x 0) 0 ≡ get_or place z 0 = ap (λ (k : ℕ). get_or place k 0) q in
          omega arith in
          (kept _ d other s.0, s.1);
      leap = λ d x o h. let u = owned-back owner z x d o in
          let s : (owner (get_or jump x 0) ≡ suc d) × (get_or place (get_or jump x 0) 0 < get_or place x 0) =
          l.leap d x u.1 h in
          let other : get_or jump x 0 ≢ z = λ q. let low : get_or place x 0 < e.blocks = below x d u.1
          (same_chain _ d q s.0) in
          let r : get_or place (get_or jump x 0) 0 ≡ get_or place z 0 = ap (λ (k : ℕ). get_or place k 0) q in
          omega arith in
          (kept _ d other s.0, s.1);
      last = λ d. elim (cases_eq d c) [
        | inl n ↦
            let new : end_at (set ends c (without_last before e)) d ≡ without_last before e = ap
            (end_at (set ends c (without_last before e))) n ∙ end_at-same ends c _ here in
            rw new (λ h.
            let s : (owner (get_or before z 0) ≡ suc c)
            × (get_or place (get_or before z 0) 0 + 1 ≡ get_or place z 0) = l.step c z at.0 (omega arith) in
            let other : get_or before z 0 ≢ z = λ q. let r : get_or place (get_or before z 0) 0
            ≡ get_or place z 0 = ap (λ (k : ℕ). get_or place k 0) q in omega arith in
            (kept _ d other (s.0 ∙ ap suc (sym n)), omega arith))
        | inr n ↦ rw (end_at-other ends c d (without_last before e) n) (λ h.
            let s : (owner (end_at ends d).last ≡ suc d)
            × (get_or place (end_at ends d).last 0 + 1 ≡ (end_at ends d).blocks) = l.last d h in
            (kept _ d (λ q. n (same_chain _ d q s.0)) s.0, s.1))
      ];
    }

-- a jump stays in the chain and leads no further
pub leap-stands : (owner : ℕ → ℕ) (before jump place : List ℕ) (ends : List Chain) → IsLinked owner before jump place ends
    → (c x : ℕ) → owner x ≡ suc c
    → (owner (get_or jump x 0) ≡ suc c) × (get_or place (get_or jump x 0) 0 ≤ get_or place x 0)
leap-stands owner before jump place ends l c x o =
    elim (cases_eq (get_or place x 0) 0) [
      | inl e ↦ let s = (l.first c x o e).1 in rw s (o, omega arith)
      | inr e ↦ let s : (owner (get_or jump x 0) ≡ suc c) × (get_or place (get_or jump x 0) 0 < get_or place x 0) =
          l.leap c x o (omega arith) in (s.0, omega arith)
    ]

-- what holds of both choices holds of the one that is made
cond-both : (t : Bool) (x y : ℕ) (P : ℕ → Type 0) → P x → P y → P (cond t x y)
cond-both true x y P p q = p
cond-both false x y P p q = q

-- the block to jump to from the next one of a chain is one of the chain
pub jump_of-stands : (owner : ℕ → ℕ) (before jump place : List ℕ) (ends : List Chain)
    → IsLinked owner before jump place ends
    → (c b : ℕ) → 0 < (end_at ends c).blocks
    → (owner (jump_of jump place (end_at ends c).blocks (end_at ends c).last b) ≡ suc c)
    × (get_or place (jump_of jump place (end_at ends c).blocks (end_at ends c).last b) 0 < (end_at ends c).blocks)
jump_of-stands owner before jump place ends l c b some =
    let z = (end_at ends c).last in
    let near = get_or jump z 0 in
    let at : (owner z ≡ suc c) × (get_or place z 0 + 1 ≡ (end_at ends c).blocks) = l.last c some in
    let n : (owner near ≡ suc c) × (get_or place near 0 ≤ get_or place z 0) =
    leap-stands owner before jump place ends l c z at.0 in
    let f : (owner (get_or jump near 0) ≡ suc c) × (get_or place (get_or jump near 0) 0 ≤ get_or place near 0) =
    leap-stands owner before jump place ends l c near n.0 in
    let more : eqb (end_at ends c).blocks 0 ≡ false = grind (arith, nat_tests) in
    rw more
    (cond-both (eqb (get_or place z 0 - get_or place near 0)
    (get_or place near 0 - get_or place (get_or jump near 0) 0)) (get_or jump near 0) z
    (λ k. (owner k ≡ suc c) × (get_or place k 0 < (end_at ends c).blocks)) (f.0, omega arith) (at.0, omega arith))

-- what the tables say of the last block of a chain
pub end-stands : (owner : ℕ → ℕ) (before jump place : List ℕ) (ends : List Chain) → IsLinked owner before jump place ends
    → length jump ≡ length before → (c : ℕ) → 0 < (end_at ends c).blocks → IsEnd jump place (end_at ends c).last
end-stands owner before jump place ends l jumps c some =
    let z = (end_at ends c).last in
    let near = get_or jump z 0 in
    let at : (owner z ≡ suc c) × (get_or place z 0 + 1 ≡ (end_at ends c).blocks) = l.last c some in
    let n : (owner near ≡ suc c) × (get_or place near 0 ≤ get_or place z 0) =
    leap-stands owner before jump place ends l c z at.0 in
    let f : (owner (get_or jump near 0) ≡ suc c) × (get_or place (get_or jump near 0) 0 ≤ get_or place near 0) =
    leap-stands owner before jump place ends l c near n.0 in
    let i : (z < length before) × (c < length ends) = l.inside c z at.0 in
    let j : (near < length before) × (c < length ends) = l.inside c near n.0 in
    let k : (get_or jump near 0 < length before) × (c < length ends) = l.inside c (get_or jump near 0) f.0 in
    record { within = omega arith; near = omega arith; far = omega arith; near_place = n.1; far_place = f.1 }

-- a block that has an owner, where one block gets one
owned-front : (owner : ℕ → ℕ) (b c x d : ℕ) → owned owner b (suc c) x ≡ suc d
    → ((x ≡ b) × (d ≡ c)) ⊎ ((x ≢ b) × (owner x ≡ suc d))
owned-front owner b c x d o =
    elim (cases_eq x b) [
      | inl e ↦ inl (
        e,
        (let q : owned owner b (suc c) x ≡ suc c = ap (owned owner b (suc c)) e
            ∙ owned-same owner b (suc c) in omega arith),
      )
      | inr e ↦ inr (e, sym (owned-other owner b (suc c) x e) ∙ o)
    ]

-- a chain with one more block, which was nobody's
pub linked-longer-by : (owner : ℕ → ℕ) (before jump place : List ℕ) (ends : List Chain)
    → IsLinked owner before jump place ends
    → length jump ≡ length before → length place ≡ length before
    → (c b v j : ℕ) → c < length ends → b < length before → owner b ≡ 0
    → ((end_at ends c).blocks ≡ 0 → (v ≡ b) × (j ≡ b))
    → (0 < (end_at ends c).blocks
    → (v ≡ (end_at ends c).last) × (owner j ≡ suc c) × (get_or place j 0 < (end_at ends c).blocks))
    → IsLinked (owned owner b (suc c)) (set before b v) (set jump b j) (set place b (end_at ends c).blocks)
    (set ends c (with_last (end_at ends c) b))
linked-longer-by owner before jump place ends l jumps places c b v j here block free none some =
    let e = end_at ends c in
    let n = (end_at ends c).blocks in
    let news = set ends c (with_last (end_at ends c) b) in
    let apart : (x d : ℕ) → owner x ≡ suc d → x ≢ b = λ x d o q. let r : owner x ≡ 0 = ap owner q ∙ free in
    absurd (omega arith) in
    let kept : (x d : ℕ) → owner x ≡ suc d
    → owned owner b (suc c) x ≡ suc d = λ x d o. owned-other owner b (suc c) x (apart x d o) ∙ o in
    let placed : (x : ℕ) → x ≢ b
    → get_or (set place b n) x 0 ≡ get_or place x 0 = λ x q. get_or-set_other place b x n 0 q in
    let placed_here : get_or (set place b n) b 0 ≡ n = get_or-set_same place b n 0 (omega arith) in
    let fronted : get_or (set before b v) b 0 ≡ v = get_or-set_same before b v 0 block in
    let leapt : get_or (set jump b j) b 0 ≡ j = get_or-set_same jump b j 0 (omega arith) in
    let own_here : owned owner b (suc c) b ≡ suc c = owned-same owner b (suc c) in
    let new_here : end_at news c ≡ with_last e b = end_at-same ends c _ here in
    record {
      inside = λ d x o. elim (owned-front owner b c x d o) [
        | inl q ↦ (rw length-set (let r = q.0 in omega arith), rw length-set (let r = q.1 in omega arith))
        | inr q ↦ let i : (x < length before) × (d < length ends) = l.inside d x q.1 in
            (rw length-set i.0, rw length-set i.1)
      ];
      low = λ d x o. elim (owned-front owner b c x d o) [
        | inl q ↦ rw (q.0, q.1, placed_here, new_here) (omega arith)
        | inr q ↦ let low : get_or place x 0 < (end_at ends d).blocks = l.low d x q.1 in
            elim (cases_eq d c) [
              | inl r ↦ let more : (end_at ends d).blocks ≡ n = ap (λ (k : ℕ). (end_at ends k).blocks) r in
                  rw (placed x q.0, r, new_here) (omega arith)
              | inr r ↦ rw (placed x q.0, end_at-other ends c d (with_last e b) r) low
            ]
      ];
      one = λ d x y o p same. elim (owned-front owner b c x d o) [
        | inl q ↦ elim (owned-front owner b c y d p) [
          | inl r ↦ q.0 ∙ sym r.0
          | inr r ↦ absurd (
              let low : get_or place y 0 < (end_at ends d).blocks = l.low d y r.1 in
              let more : (end_at ends d).blocks ≡ n = ap (λ (k : ℕ). (end_at ends k).blocks) q.1 in
              let left : get_or (set place b n) x 0 ≡ n = ap (λ (k : ℕ). get_or (set place b n) k 0) q.0 ∙ placed_here in
              let right : get_or (set place b n) y 0 ≡ get_or place y 0 = placed y r.0 in
              omega arith)
        ]
        | inr q ↦ elim (owned-front owner b c y d p) [
          | inl r ↦ absurd (
              let low : get_or place x 0 < (end_at ends d).blocks = l.low d x q.1 in
              let more : (end_at ends d).blocks ≡ n = ap (λ (k : ℕ). (end_at ends k).blocks) r.1 in
              let left : get_or (set place b n) y 0 ≡ n = ap (λ (k : ℕ). get_or (set place b n) k 0) r.0 ∙ placed_here in
              let right : get_or (set place b n) x 0 ≡ get_or place x 0 = placed x q.0 in
              omega arith)
          | inr r ↦ l.one d x y q.1 r.1 (sym (placed x q.0) ∙ same ∙ placed y r.0)
        ]
      ];
      first = λ d x o. elim (owned-front owner b c x d o) [
        | inl q ↦ rw (q.0, placed_here, fronted, leapt) none
        | inr q ↦ rw (placed x q.0, get_or-set_other before b x v 0 q.0, get_or-set_other jump b x j 0 q.0)
            (l.first d x q.1)
      ];
      step = λ d x o. elim (owned-front owner b c x d o) [
        | inl q ↦ rw (q.0, q.1, placed_here, fronted) (λ h.
            let s = some h in
            let at : (owner e.last ≡ suc c) × (get_or place e.last 0 + 1 ≡ n) = l.last c h in
            rw (s.0, placed e.last (apart e.last c at.0)) (kept e.last c at.0, at.1))
        | inr q ↦ rw (placed x q.0, get_or-set_other before b x v 0 q.0) (λ h.
            let s : (owner (get_or before x 0) ≡ suc d)
            × (get_or place (get_or before x 0) 0 + 1 ≡ get_or place x 0) = l.step d x q.1 h in
            rw (placed (get_or before x 0) (apart _ d s.0)) (kept _ d s.0, s.1))
      ];
      leap = λ d x o. elim (owned-front owner b c x d o) [
        | inl q ↦ rw (q.0, q.1, placed_here, leapt) (λ h.
            let s = some h in
            rw (placed j (apart j c s.1)) (kept j c s.1, s.2))
        | inr q ↦ rw (placed x q.0, get_or-set_other jump b x j 0 q.0) (λ h.
            let s : (owner (get_or jump x 0) ≡ suc d) × (get_or place (get_or jump x 0) 0 < get_or place x 0) =
            l.leap d x q.1 h in
            rw (placed (get_or jump x 0) (apart _ d s.0)) (kept _ d s.0, s.1))
      ];
      last = λ d. elim (cases_eq d c) [
        | inl q ↦ rw (q, new_here, placed_here) (λ h. (own_here, refl))
        | inr q ↦ rw (end_at-other ends c d (with_last e b) q) (λ h.
            let s : (owner (end_at ends d).last ≡ suc d)
            × (get_or place (end_at ends d).last 0 + 1 ≡ (end_at ends d).blocks) = l.last d h in
            rw (placed (end_at ends d).last (apart _ d s.0)) (kept _ d s.0, s.1))
      ];
    }

-- the chains of blocks as the pool sees them
abbrev pub seen : List ℕ → List Chain → BlockChains
seen before ends = record { all = length before; chains = map (held_by before) ends }

pub chain_seen : (before : List ℕ) (ends : List Chain) (c : ℕ) → c < length ends
    → chain_at (seen before ends) c ≡ held_by before (end_at ends c)
chain_seen before ends c h = get_or-map (held_by before) ends c no_chain empty_chain h

-- the chain of a list as the pool sees it
pub list_seen : (before : List ℕ) (free : Chain) (lists : List Chain) (p : BlockChains) (i : ℕ) (e : Chain)
    → seen before (free ∷ lists) ≡ p → i + 1 < length p.chains → e ≡ get_or lists i e
    → chain_at p (i + 1) ≡ held_by before e
list_seen before free lists p i e is here at =
    let inside : i < length lists = omega (
      arith,
      here,
      ap (λ (q : BlockChains). length q.chains) is,
      length-map (free ∷ lists) (held_by before),
    ) in
    let next : i + 1 ≡ suc i = omega arith in
    rw (← is, next) (get_or-map (held_by before) lists i e empty_chain inside ∙ ap (held_by before) (sym at))

-- two functions that agree on the elements of a list
pub map-same : {X Y : Type 0} (f g : X → Y) (xs : List X) (d : X)
    → ((i : ℕ) → i < length xs → f (get_or xs i d) ≡ g (get_or xs i d)) → map f xs ≡ map g xs
map-same f g [] d same = refl
map-same f g (x ∷ xs) d same =
    let rest : map f xs ≡ map g xs = map-same f g xs d (λ i h. same (suc i) (omega arith)) in
    let here : f x ≡ g x = same 0 (omega arith) in
    cc

-- a chain without its last block, as the pool sees it
pub held-shorter : (before : List ℕ) (e : Chain) → 0 < e.blocks
    → held_by before (without_last before e) ≡ but_last (held_by before e)
held-shorter before e some =
    let m = e.blocks - 1 in
    let one : e.blocks ≡ suc (e.blocks - 1) = omega arith in
    let size : length (blocks_to before e.last e.blocks) ≡ e.blocks = length-blocks_to before e.last e.blocks in
    let all : blocks_to before e.last e.blocks ≡ blocks_to before (get_or before e.last 0) m ++ e.last ∷ [] = ap
    (blocks_to before e.last) one in
    let part : take m (blocks_to before (get_or before e.last 0) m ++ e.last ∷ [])
    ≡ blocks_to before (get_or before e.last 0) m = take_at (blocks_to before (get_or before e.last 0) m)
    (e.last ∷ []) m (length-blocks_to before (get_or before e.last 0) m) in
    let same : take (length (blocks_to before e.last e.blocks) - 1) (blocks_to before e.last e.blocks)
    ≡ blocks_to before (get_or before e.last 0) m = ap
    (λ (k : ℕ). take (k - 1) (blocks_to before e.last e.blocks)) size ∙ ap (take m) all ∙ part in
    ap (λ (bs : List ℕ). record { blocks = bs; len = e.len }) (sym same)

pub last_of-held : (before : List ℕ) (e : Chain) → 0 < e.blocks → last_of (held_by before e) ≡ e.last
last_of-held before e some =
    let m = e.blocks - 1 in
    let one : e.blocks ≡ suc (e.blocks - 1) = omega arith in
    let size : length (blocks_to before e.last e.blocks) ≡ e.blocks = length-blocks_to before e.last e.blocks in
    let all : blocks_to before e.last e.blocks ≡ blocks_to before (get_or before e.last 0) m ++ e.last ∷ [] = ap
    (blocks_to before e.last) one in
    ap (λ (k : ℕ). get_or (blocks_to before e.last e.blocks) (k - 1) 0) size ∙ ap (λ (bs : List ℕ). get_or bs m 0) all
    ∙ get_or_push (blocks_to before (get_or before e.last 0) m) e.last 0 m
    (length-blocks_to before (get_or before e.last 0) m)

-- chains of which one has lost its last block, as the pool sees them
pub seen-shorter : (before : List ℕ) (ends : List Chain) (c : ℕ) → 0 < (end_at ends c).blocks
    → map (held_by before) (set ends c (without_last before (end_at ends c))) ≡ set (map (held_by before) ends) c
    (but_last (held_by before (end_at ends c)))
seen-shorter before ends c some = map-set (held_by before) ends c _
    ∙ ap (set (map (held_by before) ends) c) (held-shorter before (end_at ends c) some)

-- chains of which one has got a block, as the pool sees them
pub seen-longer : (owner : ℕ → ℕ) (before jump place : List ℕ) (ends : List Chain) → IsLinked owner before jump place ends
    → (c b : ℕ) → b < length before → owner b ≡ 0
    → map (held_by (set before b (before_of (end_at ends c).blocks (end_at ends c).last b)))
    (set ends c (with_last (end_at ends c) b)) ≡ set (map (held_by before) ends) c
    (and_block (held_by before (end_at ends c)) b)
seen-longer owner before jump place ends l c b here free =
    let e = end_at ends c in
    let v = before_of (end_at ends c).blocks (end_at ends c).last b in
    let new = set before b (before_of (end_at ends c).blocks (end_at ends c).last b) in
    let apart : (x d : ℕ) → owner x ≡ suc d → x ≢ b = λ x d o q. let r : owner x ≡ 0 = ap owner q ∙ free in
    absurd (omega arith) in
    let same : (d : ℕ) → blocks_to new (end_at ends d).last (end_at ends d).blocks
    ≡ blocks_to before (end_at ends d).last (end_at ends d).blocks =
    λ d. chain-same owner before jump place ends l new d (λ x o. get_or-set_other before b x v 0 (apart x d o)) in
    let others : map (held_by new) ends ≡ map (held_by before) ends = map-same (held_by new)
    (held_by before) ends no_chain (λ d h. ap (λ (bs : List ℕ). record { blocks = bs; len = (end_at ends d).len })
    (same d)) in
    let one : e.blocks + 1 ≡ suc e.blocks = omega arith in
    let fronted : get_or new b 0 ≡ v = get_or-set_same before b v 0 here in
    let tail : blocks_to new v e.blocks ≡ blocks_to before e.last e.blocks =
    elim (cases_eq e.blocks 0) [
      | inl q ↦ rw q refl
      | inr q ↦
          let more : eqb e.blocks 0 ≡ false = grind (arith, nat_tests) in
          let is : v ≡ e.last = ap (λ (t : Bool). cond t b e.last) more in
          ap (λ (k : ℕ). blocks_to new k e.blocks) is ∙ same c
    ] in
    let grown : blocks_to new b (e.blocks + 1) ≡ blocks_to before e.last e.blocks ++ b ∷ [] =
    ap (blocks_to new b) one ∙ ap (λ (k : ℕ). blocks_to new k e.blocks ++ b ∷ []) fronted
    ∙ ap (λ (bs : List ℕ). bs ++ b ∷ []) tail in
    let chain : held_by new (with_last e b) ≡ and_block (held_by before e) b = ap
    (λ (bs : List ℕ). record { blocks = bs; len = e.len }) grown in
    map-set (held_by new) ends c (with_last e b)
    ∙ ap (λ (hs : List Held). set hs c (held_by new (with_last e b))) others
    ∙ ap (set (map (held_by before) ends) c) chain

-- the blocks of the chains, where one chain changes
pub blocks_in-set : (ends : List Chain) (c : ℕ) (e : Chain) → c < length ends
    → blocks_in (set ends c e) + (end_at ends c).blocks ≡ blocks_in ends + e.blocks
blocks_in-set [] c e h = absurd (omega arith)
blocks_in-set (x ∷ ends) zero e h = omega arith
blocks_in-set (x ∷ ends) (suc c) e h = omega (arith, blocks_in-set ends c e (omega arith))

pub blocks-le-blocks_in : (ends : List Chain) (c : ℕ) → (end_at ends c).blocks ≤ blocks_in ends
blocks-le-blocks_in [] c = omega arith
blocks-le-blocks_in (x ∷ ends) zero = omega arith
blocks-le-blocks_in (x ∷ ends) (suc c) = omega (arith, blocks-le-blocks_in ends c)

-- a chain with one more block, which was nobody's
pub linked-longer : (owner : ℕ → ℕ) (before jump place : List ℕ) (ends : List Chain)
    → IsLinked owner before jump place ends
    → length jump ≡ length before → length place ≡ length before
    → (c b : ℕ) → c < length ends → b < length before → owner b ≡ 0
    → IsLinked (owned owner b (suc c)) (set before b (before_of (end_at ends c).blocks (end_at ends c).last b))
    (set jump b (jump_of jump place (end_at ends c).blocks (end_at ends c).last b))
    (set place b (end_at ends c).blocks)
    (set ends c (with_last (end_at ends c) b))
linked-longer owner before jump place ends l jumps places c b here block free =
    linked-longer-by owner before jump place ends l jumps places c b _ _ here block free
    (λ h. let t : eqb (end_at ends c).blocks 0 ≡ true = grind (arith, nat_tests) in rw t (refl, refl))
    (λ h.
    let t : eqb (end_at ends c).blocks 0 ≡ false = grind (arith, nat_tests) in
    let v : before_of (end_at ends c).blocks (end_at ends c).last b ≡ (end_at ends c).last = rw t refl in
    let s = jump_of-stands owner before jump place ends l c b h in
    (v, s.0, s.1))

-- the tables after the last block of one chain has moved to the end of another
pub blocks-moved : (before jump place : List ℕ) (ends : List Chain) → IsBlocks before jump place ends
    → (from to : ℕ) → from < length ends → to < length ends → from ≢ to → 0 < (end_at ends from).blocks
    → let z = (end_at ends from).last in let e = end_at ends to in
    IsBlocks (set before z (before_of e.blocks e.last z)) (set jump z (jump_of jump place e.blocks e.last z))
    (set place z e.blocks) (set (set ends from (without_last before (end_at ends from))) to (with_last e z))
blocks-moved before jump place ends k from to here there apart some =
    let z = (end_at ends from).last in
    let e = end_at ends to in
    let less = set ends from (without_last before (end_at ends from)) in
    let own = owned k.owner (end_at ends from).last 0 in
    let at : (k.owner z ≡ suc from) × (get_or place z 0 + 1 ≡ (end_at ends from).blocks) = k.linked.last from some in
    let i : (z < length before) × (from < length ends) = k.linked.inside from z at.0 in
    let shorter : IsLinked own before jump place less =
    linked-shorter k.owner before jump place ends k.linked from here some in
    let same : end_at less to ≡ e = end_at-other ends from to _ (λ q. apart (sym q)) in
    let longer = linked-longer own before jump place less shorter k.jumps k.places to z (rw length-set there) i.0
    (owned-same k.owner z 0) in
    record {
      owner = owned own z (suc to);
      linked = rw same at longer;
      owned = λ x h. elim (cases_eq x z) [
        | inl q ↦ let r : owned own z (suc to) x ≡ suc to = ap (owned own z (suc to)) q ∙ owned-same own z (suc to) in
            omega arith
        | inr q ↦
            let r : owned own z (suc to) x ≡ own x = owned-other own z (suc to) x q in
            let s : own x ≡ k.owner x = owned-other k.owner z 0 x q in
            let t : 0 < k.owner x = k.owned x (rw length-set at h) in
            omega arith
      ];
      jumps = omega (
        arith,
        k.jumps,
        length-set jump z (jump_of jump place e.blocks e.last z),
        length-set before z (before_of e.blocks e.last z),
      );
      places = omega (arith, k.places, length-set place z e.blocks, length-set before z (before_of e.blocks e.last z));
      few = rw length-set k.few;
      lists = rw (length-set, length-set) k.lists;
      total =
          let first = blocks_in-set ends from (without_last before (end_at ends from)) here in
          let second = blocks_in-set less to (with_last e z) (rw length-set there) in
          let same_count : (end_at less to).blocks ≡ e.blocks = ap (λ (c : Chain). c.blocks) same in
          rw length-set (omega (arith, k.total));
    }

-- and the chains as the pool sees them
pub seen-moved : (before jump place : List ℕ) (ends : List Chain) → IsBlocks before jump place ends
    → (from to : ℕ) → from < length ends → to < length ends → from ≢ to → 0 < (end_at ends from).blocks
    → let z = (end_at ends from).last in let e = end_at ends to in
    seen (set before z (before_of e.blocks e.last z))
    (set (set ends from (without_last before (end_at ends from))) to (with_last e z))
    ≡ with_moved (seen before ends) from to
seen-moved before jump place ends k from to here there apart some =
    let z = (end_at ends from).last in
    let e = end_at ends to in
    let less = set ends from (without_last before (end_at ends from)) in
    let own = owned k.owner (end_at ends from).last 0 in
    let at : (k.owner z ≡ suc from) × (get_or place z 0 + 1 ≡ (end_at ends from).blocks) = k.linked.last from some in
    let i : (z < length before) × (from < length ends) = k.linked.inside from z at.0 in
    let shorter : IsLinked own before jump place less =
    linked-shorter k.owner before jump place ends k.linked from here some in
    let same : end_at less to ≡ e = end_at-other ends from to _ (λ q. apart (sym q)) in
    let grown : map (held_by (set before z (before_of e.blocks e.last z))) (set less to (with_last e z))
    ≡ set (map (held_by before) less) to (and_block (held_by before e) z) =
    rw same at (seen-longer own before jump place less shorter to z i.0 (owned-same k.owner z 0)) in
    let cut : map (held_by before) less ≡ set (map (held_by before) ends) from
    (but_last (held_by before (end_at ends from))) = seen-shorter before ends from some in
    let one = chain_seen before ends from here in
    let two = chain_seen before ends to there in
    let last = last_of-held before (end_at ends from) some in
    rw (length-set, grown, cut, one, two, last) refl

get-nothing : (c : ℕ) → end_at [] c ≡ no_chain
get-nothing c = refl

get-no_chain : (c : ℕ) → (end_at (no_chain ∷ []) c).blocks ≡ 0
get-no_chain zero = refl
get-no_chain (suc c) = refl

-- no blocks
pub blocks-none : IsBlocks [] [] [] (no_chain ∷ [])
blocks-none = record {
  owner = λ _. 0;
  linked = record {
    inside = λ c b o. absurd (omega arith);
    low = λ c b o. absurd (omega arith);
    one = λ c a b o p q. absurd (omega arith);
    first = λ c b o. absurd (omega arith);
    step = λ c b o. absurd (omega arith);
    leap = λ c b o. absurd (omega arith);
    last = λ c h. absurd (let none = get-no_chain c in omega arith);
  };
  owned = λ b h. absurd (omega arith);
  jumps = refl;
  places = refl;
  few = omega arith;
  lists = omega arith;
  total = refl;
}

-- the rule where the chains have the same blocks
pub linked-same : (owner : ℕ → ℕ) (before jump place : List ℕ) (ends news : List Chain)
    → IsLinked owner before jump place ends
    → length ends ≤ length news → ((c : ℕ) → (end_at news c).blocks ≡ (end_at ends c).blocks)
    → ((c : ℕ) → (end_at news c).last ≡ (end_at ends c).last)
    → IsLinked owner before jump place news
linked-same owner before jump place ends news l more blocks last = record {
  inside = λ c b o. let i : (b < length before) × (c < length ends) = l.inside c b o in (i.0, omega (arith, i.1));
  low = λ c b o. rw (blocks c) (l.low c b o);
  one = l.one;
  first = l.first;
  step = l.step;
  leap = l.leap;
  last = λ c. rw (blocks c, last c) (l.last c);
}

-- one more chain, of no blocks
pub end_at-opened : (ends : List Chain) (c : ℕ) → end_at (ends ++ no_chain ∷ []) c ≡ end_at ends c
end_at-opened [] zero = refl
end_at-opened [] (suc c) = get-nothing c
end_at-opened (e ∷ ends) zero = refl
end_at-opened (e ∷ ends) (suc c) = end_at-opened ends c

pub blocks_in-opened : (ends : List Chain) → blocks_in (ends ++ no_chain ∷ []) ≡ blocks_in ends
blocks_in-opened [] = omega arith
blocks_in-opened (e ∷ ends) = ap (λ (k : ℕ). e.blocks + k) (blocks_in-opened ends)

pub blocks-opened : (before jump place : List ℕ) (ends : List Chain) → IsBlocks before jump place ends
    → length ends ≤ 2 ^ 31
    → IsBlocks before jump place (ends ++ no_chain ∷ [])
blocks-opened before jump place ends k few = record {
  owner = k.owner;
  linked = linked-same k.owner before jump place ends (ends ++ no_chain ∷ []) k.linked
      (omega (arith, length_push ends no_chain)) (λ c. ap (λ (e : Chain). e.blocks) (end_at-opened ends c))
      (λ c. ap (λ (e : Chain). e.last) (end_at-opened ends c));
  owned = k.owned;
  jumps = k.jumps;
  places = k.places;
  few = k.few;
  lists = omega (arith, length_push ends no_chain);
  total = blocks_in-opened ends ∙ k.total;
}

-- a chain with another number of rows
abbrev pub with_len : Chain → ℕ → Chain
with_len e len = record { last = e.last; blocks = e.blocks; len = len }

pub blocks-counted : (before jump place : List ℕ) (ends : List Chain) → IsBlocks before jump place ends
    → (c len : ℕ) → c < length ends → IsBlocks before jump place (set ends c (with_len (end_at ends c) len))
blocks-counted before jump place ends k c len here =
    let e = with_len (end_at ends c) len in
    let same : (d : ℕ) → ((end_at (set ends c e) d).blocks ≡ (end_at ends d).blocks)
    × ((end_at (set ends c e) d).last ≡ (end_at ends d).last) =
    λ d. elim (cases_eq d c) [
      | inl q ↦ rw (q, end_at-same ends c e here) (refl, refl)
      | inr q ↦ rw (end_at-other ends c d e q) (refl, refl)
    ] in
    record {
      owner = k.owner;
      linked = linked-same k.owner before jump place ends (set ends c e) k.linked (rw length-set (omega arith))
          (λ d. (same d).0) (λ d. (same d).1);
      owned = k.owned;
      jumps = k.jumps;
      places = k.places;
      few = k.few;
      lists = rw length-set k.lists;
      total = omega (arith, blocks_in-set ends c e here, k.total);
    }

-- no block is in two chains, or twice in one
pub seen-apart : (before jump place : List ℕ) (ends : List Chain) → IsBlocks before jump place ends
    → IsApart (seen before ends)
seen-apart before jump place ends k =
    let at : (c i : ℕ) → i < length (chain_at (seen before ends) c).blocks
    → (c < length ends) × (i < (end_at ends c).blocks)
    × ((chain_at (seen before ends) c).blocks ≡ blocks_to before (end_at ends c).last (end_at ends c).blocks) = λ
    c i h.
    elim (cases_lt c (length ends)) [
      | inl q ↦
          let e = chain_seen before ends c q in
          let size : length (chain_at (seen before ends) c).blocks ≡ (end_at ends c).blocks = ap
          (λ (x : Held). length x.blocks) e
          ∙ length-blocks_to before (end_at ends c).last (end_at ends c).blocks in
          (q, omega arith, ap (λ (x : Held). x.blocks) e)
      | inr q ↦ absurd (
          let past : get_or (map (held_by before) ends) c empty_chain ≡ empty_chain = get_or_past
          (map (held_by before) ends) c empty_chain (omega (arith, length-map ends (held_by before))) in
          let none : length (chain_at (seen before ends) c).blocks ≡ 0 = ap (λ (x : Held). length x.blocks) past in
          omega arith)
    ] in
    let stand : (c i : ℕ) → i < length (chain_at (seen before ends) c).blocks
    → StandsAt k.owner place c i (get_or (chain_at (seen before ends) c).blocks i 0) = λ c i h.
    let a = at c i h in rw a.2 (chain_stands k.owner before jump place ends k.linked c i a.1) in
    record {
      within = λ c i h. let s = stand c i h in (k.linked.inside c _ s.owned).0;
      one = λ c d i j h g same.
          let s = stand c i h in let t = stand d j g in
          let owners : suc c ≡ suc d = sym s.owned ∙ ap k.owner same ∙ t.owned in
          (omega arith, sym s.placed ∙ ap (λ (b : ℕ). get_or place b 0) same ∙ t.placed);
    }

-- the end of the chain of a list
pub list_end : (before : List ℕ) (free : Chain) (lists : List Chain) (p : BlockChains) (i : ℕ) (e : Chain)
    → seen before (free ∷ lists) ≡ p → i + 1 < length p.chains → e ≡ get_or lists i e
    → (suc i < length (free ∷ lists)) × (end_at (free ∷ lists) (suc i) ≡ e)
list_end before free lists p i e is here at =
    let inside : i < length lists = omega (
      arith,
      here,
      ap (λ (q : BlockChains). length q.chains) is,
      length-map (free ∷ lists) (held_by before),
    ) in
    (omega arith, get_or_default lists i no_chain e inside ∙ sym at)

-- another number of rows for a list
pub counted : (before jump place : List ℕ) (free : Chain) (lists : List Chain) (p : BlockChains) (i len : ℕ)
    (e : Chain) → IsBlocks before jump place (free ∷ lists)
    → seen before (free ∷ lists) ≡ p → i + 1 < length p.chains → e ≡ get_or lists i e
    → IsBlocks before jump place (free ∷ set lists i (with_len e len))
counted before jump place free lists p i len e k is here at =
    let l = list_end before free lists p i e is here at in
    rw l.1 at (blocks-counted before jump place (free ∷ lists) k (suc i) len l.0)

pub counted-seen : (before : List ℕ) (free : Chain) (lists : List Chain) (p : BlockChains) (i len : ℕ) (e : Chain)
    → seen before (free ∷ lists) ≡ p → i + 1 < length p.chains → e ≡ get_or lists i e
    → seen before (free ∷ set lists i (with_len e len))
    ≡ with_chain p (i + 1) (record { blocks = (chain_at p (i + 1)).blocks; len = len })
counted-seen before free lists p i len e is here at =
    let found = list_seen before free lists p i e is here at in
    let next : i + 1 ≡ suc i = omega arith in
    let one : map (held_by before) (set lists i (with_len e len)) ≡ set (map (held_by before) lists) i
    (held_by before (with_len e len)) = map-set (held_by before) lists i (with_len e len) in
    rw (found, next, ← is, one) refl

-- a free block moved to a list
pub taken : (before jump place bef jum pla : List ℕ) (free f : Chain) (lists : List Chain) (p : BlockChains) (i : ℕ)
    (e to : Chain) → IsBlocks before jump place (free ∷ lists)
    → seen before (free ∷ lists) ≡ p → i + 1 < length p.chains → e ≡ get_or lists i e → 0 < free.blocks
    → bef ≡ set before free.last (before_of e.blocks e.last free.last)
    → jum ≡ set jump free.last (jump_of jump place e.blocks e.last free.last) → pla ≡ set place free.last e.blocks
    → f ≡ without_last before free → to ≡ with_last e free.last
    → IsBlocks bef jum pla (f ∷ set lists i to) × (seen bef (f ∷ set lists i to) ≡ with_moved p 0 (i + 1))
taken before jump place bef jum pla free f lists p i e to k is here at some b j q g t =
    let l = list_end before free lists p i e is here at in
    let next : i + 1 ≡ suc i = omega arith in
    let front = set before free.last (before_of e.blocks e.last free.last) in (
      rw (b, j, q, g, t) (subst (λ (w : Chain). IsBlocks (set before free.last (before_of w.blocks w.last free.last))
          (set jump free.last (jump_of jump place w.blocks w.last free.last)) (set place free.last w.blocks)
          (without_last before free ∷ set lists i (with_last w free.last)))
          l.1 (blocks-moved before jump place (free ∷ lists) k 0 (suc i) (omega arith) l.0
          (λ q. absurd (omega arith)) some)),
      ap (λ (x : List ℕ). seen x (f ∷ set lists i to)) b ∙ ap (λ (x : Chain). seen front (x ∷ set lists i to)) g
          ∙ ap (λ (x : Chain). seen front (without_last before free ∷ set lists i x)) t ∙
          subst (λ (w : Chain). seen (set before free.last (before_of w.blocks w.last free.last))
          (without_last before free ∷ set lists i (with_last w free.last))
          ≡ with_moved (seen before (free ∷ lists)) 0 (suc i))
          l.1 (seen-moved before jump place (free ∷ lists) k 0 (suc i) (omega arith) l.0 (λ q. absurd (omega arith)) some)
          ∙ ap (λ (w : BlockChains). with_moved w 0 (suc i)) is ∙ ap (with_moved p 0) (sym next),
    )

-- a block of a list moved to the free ones
pub given : (before jump place bef jum pla : List ℕ) (free f : Chain) (lists : List Chain) (p : BlockChains) (i : ℕ)
    (e to : Chain) → IsBlocks before jump place (free ∷ lists)
    → seen before (free ∷ lists) ≡ p → i + 1 < length p.chains → e ≡ get_or lists i e → 0 < e.blocks
    → bef ≡ set before e.last (before_of free.blocks free.last e.last)
    → jum ≡ set jump e.last (jump_of jump place free.blocks free.last e.last) → pla ≡ set place e.last free.blocks
    → f ≡ with_last free e.last → to ≡ without_last before e
    → IsBlocks bef jum pla (f ∷ set lists i to) × (seen bef (f ∷ set lists i to) ≡ with_moved p (i + 1) 0)
given before jump place bef jum pla free f lists p i e to k is here at some b j q g t =
    let l = list_end before free lists p i e is here at in
    let next : i + 1 ≡ suc i = omega arith in
    let more : 0 < (end_at (free ∷ lists) (suc i)).blocks = rw l.1 some in
    let front = set before e.last (before_of free.blocks free.last e.last) in (
      rw (b, j, q, g, t) (subst (λ (w : Chain). IsBlocks (set before w.last (before_of free.blocks free.last w.last))
          (set jump w.last (jump_of jump place free.blocks free.last w.last)) (set place w.last free.blocks)
          (with_last free w.last ∷ set lists i (without_last before w)))
          l.1 (blocks-moved before jump place (free ∷ lists) k (suc i) 0 l.0 (omega arith)
          (λ q. absurd (omega arith)) more)),
      ap (λ (x : List ℕ). seen x (f ∷ set lists i to)) b ∙ ap (λ (x : Chain). seen front (x ∷ set lists i to)) g
          ∙ ap (λ (x : Chain). seen front (with_last free e.last ∷ set lists i x)) t ∙
          subst (λ (w : Chain). seen (set before w.last (before_of free.blocks free.last w.last))
          (with_last free w.last ∷ set lists i (without_last before w)) ≡ with_moved (seen before (free ∷ lists))
          (suc i) 0)
          l.1 (seen-moved before jump place (free ∷ lists) k (suc i) 0 l.0 (omega arith) (λ q. absurd (omega arith)) more)
          ∙ ap (λ (w : BlockChains). with_moved w (suc i) 0) is ∙ ap (λ (x : ℕ). with_moved p x 0) (sym next),
    )

-- bounds on a chain that has blocks
pub list_bounds : (before jump place : List ℕ) (free : Chain) (lists : List Chain) (p : BlockChains) (i : ℕ)
    (e : Chain) → IsBlocks before jump place (free ∷ lists)
    → seen before (free ∷ lists) ≡ p → i + 1 < length p.chains → e ≡ get_or lists i e
    → (e.blocks ≤ length before) × (0 < e.blocks → e.last < length before) × (0 < e.blocks → IsEnd jump place e.last)
list_bounds before jump place free lists p i e k is here at =
    let l = list_end before free lists p i e is here at in
    let n : (end_at (free ∷ lists) (suc i)).blocks ≤ blocks_in (free ∷ lists) = blocks-le-blocks_in (free ∷ lists)
    (suc i) in
    let same : (end_at (free ∷ lists) (suc i)).blocks ≡ e.blocks = ap (λ (c : Chain). c.blocks) l.1 in (
      omega (arith, k.total),
      (λ some. rw l.1 at ((k.linked.inside (suc i) _ (k.linked.last (suc i) (rw l.1 some)).0).0)),
      (λ some. rw l.1 at (end-stands k.owner before jump place (free ∷ lists) k.linked k.jumps (suc i) (rw l.1 some))),
    )

pub free_bounds : (before jump place : List ℕ) (free : Chain) (lists : List Chain)
    → IsBlocks before jump place (free ∷ lists)
    → (free.blocks ≤ length before) × (0 < free.blocks → free.last < length before)
    × (0 < free.blocks → IsEnd jump place free.last)
free_bounds before jump place free lists k =
    let n : (end_at (free ∷ lists) 0).blocks ≤ blocks_in (free ∷ lists) = blocks-le-blocks_in (free ∷ lists) 0 in (
      omega (arith, k.total),
      (λ some. (k.linked.inside 0 free.last (k.linked.last 0 some).0).0),
      (λ some. end-stands k.owner before jump place (free ∷ lists) k.linked k.jumps 0 some),
    )

-- a block of a list that stands at a place or after it
pub record IsFound (p : BlockChains) (place : List ℕ) (list at block : ℕ) : Type 0 where
  pub within : get_or place block 0 < length (chain_at p (list + 1)).blocks
  pub is : get_or (chain_at p (list + 1)).blocks (get_or place block 0) 0 ≡ block
  pub after : at ≤ get_or place block 0

-- the blocks of a list, by the end of its chain
pub list_blocks : (before : List ℕ) (free : Chain) (lists : List Chain) (p : BlockChains) (i : ℕ)
    → seen before (free ∷ lists) ≡ p → i + 1 < length p.chains
    → (chain_at p (i + 1)).blocks ≡ blocks_to before (end_at (free ∷ lists) (suc i)).last
    (end_at (free ∷ lists) (suc i)).blocks
list_blocks before free lists p i is here =
    let inside : suc i < length (free ∷ lists) = omega (
      arith,
      here,
      ap (λ (q : BlockChains). length q.chains) is,
      length-map (free ∷ lists) (held_by before),
    ) in
    let next : i + 1 ≡ suc i = omega arith in
    rw (← is, next) (ap (λ (h : Held). h.blocks) (chain_seen before (free ∷ lists) (suc i) inside))

-- a block of a list is found where its owner says
pub found : (before jump place : List ℕ) (free : Chain) (lists : List Chain) (p : BlockChains) (i at block : ℕ)
    (k : IsBlocks before jump place (free ∷ lists))
    → seen before (free ∷ lists) ≡ p → i + 1 < length p.chains → k.owner block ≡ suc (suc i)
    → at ≤ get_or place block 0 → IsFound p place i at block
found before jump place free lists p i at block k is here own after =
    let bs = list_blocks before free lists p i is here in
    record {
      within = rw (bs, length-blocks_to) (k.linked.low (suc i) block own);
      is = rw bs (stands_there k.owner before jump place (free ∷ lists) k.linked (suc i) block own);
      after = after;
    }

-- and has the list as its owner
pub found-owner : (before jump place : List ℕ) (free : Chain) (lists : List Chain) (p : BlockChains) (i at block : ℕ)
    (k : IsBlocks before jump place (free ∷ lists))
    → seen before (free ∷ lists) ≡ p → i + 1 < length p.chains → IsFound p place i at block → k.owner block ≡ suc (suc i)
found-owner before jump place free lists p i at block k is here f =
    let bs = list_blocks before free lists p i is here in
    let low : get_or place block 0 < (end_at (free ∷ lists) (suc i)).blocks = omega (
      arith,
      f.within,
      ap (λ (xs : List ℕ). length xs) bs,
      length-blocks_to before (end_at (free ∷ lists) (suc i)).last (end_at (free ∷ lists) (suc i)).blocks,
    ) in
    let s = chain_stands k.owner before jump place (free ∷ lists) k.linked (suc i) (get_or place block 0) low in
    ap k.owner (sym f.is ∙ ap (λ (xs : List ℕ). get_or xs (get_or place block 0) 0) bs) ∙ s.owned

-- the last block of a list is found
pub found-last : (before jump place : List ℕ) (free : Chain) (lists : List Chain) (p : BlockChains) (i at : ℕ)
    (e : Chain) → IsBlocks before jump place (free ∷ lists)
    → seen before (free ∷ lists) ≡ p → i + 1 < length p.chains → e ≡ get_or lists i e
    → at < length (chain_at p (i + 1)).blocks → IsFound p place i at e.last
found-last before jump place free lists p i at e k is here here_e low =
    let l = list_end before free lists p i e is here here_e in
    let bs = list_blocks before free lists p i is here in
    let size : length (chain_at p (i + 1)).blocks ≡ (end_at (free ∷ lists) (suc i)).blocks = ap
    (λ (xs : List ℕ). length xs) bs
    ∙ length-blocks_to before (end_at (free ∷ lists) (suc i)).last (end_at (free ∷ lists) (suc i)).blocks in
    let s : (k.owner (end_at (free ∷ lists) (suc i)).last ≡ suc (suc i))
    × (get_or place (end_at (free ∷ lists) (suc i)).last 0 + 1 ≡ (end_at (free ∷ lists) (suc i)).blocks) =
    k.linked.last (suc i) (omega arith) in
    subst (λ (w : Chain). IsFound p place i at w.last) l.1
    (found before jump place free lists p i at (end_at (free ∷ lists) (suc i)).last k is here s.0 (omega arith))

pub found-inside : (before jump place : List ℕ) (free : Chain) (lists : List Chain) (p : BlockChains) (i at block : ℕ)
    → IsBlocks before jump place (free ∷ lists)
    → seen before (free ∷ lists) ≡ p → i + 1 < length p.chains → IsFound p place i at block
    → (block < length before) × (block < length jump) × (block < length place)
found-inside before jump place free lists p i at block k is here f =
    let own = found-owner before jump place free lists p i at block k is here f in
    let low : (block < length before) × (suc i < length (free ∷ lists)) = k.linked.inside (suc i) block own in
    (low.0, omega (arith, k.jumps), omega (arith, k.places))

-- a jump, and a single step
pub found-over : (before jump place : List ℕ) (free : Chain) (lists : List Chain) (p : BlockChains)
    (i at block over here_place : ℕ) → IsBlocks before jump place (free ∷ lists)
    → seen before (free ∷ lists) ≡ p → i + 1 < length p.chains → IsFound p place i at block
    → over ≡ get_or jump block over → here_place ≡ get_or place block here_place → at < here_place
    → (over < length place) × (get_or place over 0 < get_or place block 0) × (at ≤ get_or place over 0
    → IsFound p place i at over)
found-over before jump place free lists p i at block over here_place k is here f read placed more =
    let own = found-owner before jump place free lists p i at block k is here f in
    let low = found-inside before jump place free lists p i at block k is here f in
    let o : over ≡ get_or jump block 0 = get_or_read jump block over low.1 read 0 in
    let h : here_place ≡ get_or place block 0 = get_or_read place block here_place low.2 placed 0 in
    let s : (k.owner (get_or jump block 0) ≡ suc (suc i))
    × (get_or place (get_or jump block 0) 0 < get_or place block 0) = k.linked.leap (suc i) block own
    (omega arith) in
    let in_it : (get_or jump block 0 < length before) × (suc i < length (free ∷ lists)) = k.linked.inside (suc i)
    (get_or jump block 0) s.0 in
    rw o (
      omega (arith, k.places),
      s.1,
      (λ after. found before jump place free lists p i at (get_or jump block 0) k is here s.0 after),
    )

pub found-before : (before jump place : List ℕ) (free : Chain) (lists : List Chain) (p : BlockChains)
    (i at block prior here_place : ℕ) → IsBlocks before jump place (free ∷ lists)
    → seen before (free ∷ lists) ≡ p → i + 1 < length p.chains → IsFound p place i at block
    → prior ≡ get_or before block prior → here_place ≡ get_or place block here_place → at < here_place
    → (get_or place prior 0 < get_or place block 0) × IsFound p place i at prior
found-before before jump place free lists p i at block prior here_place k is here f read placed more =
    let own = found-owner before jump place free lists p i at block k is here f in
    let low = found-inside before jump place free lists p i at block k is here f in
    let o : prior ≡ get_or before block 0 = get_or_read before block prior low.0 read 0 in
    let h : here_place ≡ get_or place block 0 = get_or_read place block here_place low.2 placed 0 in
    let s : (k.owner (get_or before block 0) ≡ suc (suc i))
    × (get_or place (get_or before block 0) 0 + 1 ≡ get_or place block 0) = k.linked.step (suc i) block own
    (omega arith) in
    rw o (omega arith, found before jump place free lists p i at (get_or before block 0) k is here s.0 (omega arith))

-- the block behind the last of some that stand side by side belongs to them, if it names that one
pub next_beside : (before jump place : List ℕ) (free : Chain) (lists : List Chain) (p : BlockChains)
    (i at n block prior : ℕ) → IsBlocks before jump place (free ∷ lists)
    → seen before (free ∷ lists) ≡ p → i + 1 < length p.chains → IsTied (chain_at p (i + 1)).blocks at n → 1 ≤ n
    → at + n ≤ length (chain_at p (i + 1)).blocks
    → block ≡ get_or (chain_at p (i + 1)).blocks at 0 → block + n < length before
    → prior ≡ get_or before (block + n) prior → prior ≡ block + n - 1
    → (at + (n + 1) ≤ length (chain_at p (i + 1)).blocks) × IsTied (chain_at p (i + 1)).blocks at (n + 1)
next_beside before jump place free lists p i at n block prior k is here tied some within first inside read beside =
    let ends = free ∷ lists in
    let bs = list_blocks before free lists p i is here in
    let size : length (chain_at p (i + 1)).blocks ≡ (end_at (free ∷ lists) (suc i)).blocks = ap
    (λ (xs : List ℕ). length xs) bs
    ∙ length-blocks_to before (end_at (free ∷ lists) (suc i)).last (end_at (free ∷ lists) (suc i)).blocks in
    let x = block + n in
    let b = get_or before (block + n) 0 in
    let low : at + (n - 1) < (end_at (free ∷ lists) (suc i)).blocks = omega arith in
    let s = chain_stands k.owner before jump place (free ∷ lists) k.linked (suc i) (at + (n - 1)) low in
    let t : get_or (chain_at p (i + 1)).blocks (at + (n - 1)) 0 ≡ get_or (chain_at p (i + 1)).blocks at 0 + (n - 1) =
    tied.each (n - 1) (omega arith) in
    let r : prior ≡ get_or before (block + n) 0 = get_or_read before (block + n) prior inside read 0 in
    let same : get_or (blocks_to before (end_at (free ∷ lists) (suc i)).last (end_at (free ∷ lists) (suc i)).blocks)
    (at + (n - 1)) 0 ≡ b =
    sym (ap (λ (xs : List ℕ). get_or xs (at + (n - 1)) 0) bs) ∙ (omega arith) in
    let own_b : k.owner b ≡ suc (suc i) = ap k.owner (sym same) ∙ s.owned in
    let place_b : get_or place b 0 ≡ at + (n - 1) = ap (λ (y : ℕ). get_or place y 0) (sym same) ∙ s.placed in
    let some_owner : 0 < k.owner x = k.owned x inside in
    let c = k.owner x - 1 in
    let own_x : k.owner x ≡ suc (k.owner x - 1) = omega arith in
    let later : 0 < get_or place x 0 =
    elim (cases_eq (get_or place x 0) 0) [
      | inl q ↦ let f : (b ≡ x) × (get_or jump x 0 ≡ x) = k.linked.first c x own_x q in
          absurd (let g = f.0 in omega arith)
      | inr q ↦ omega arith
    ] in
    let step : (k.owner b ≡ suc c) × (get_or place b 0 + 1 ≡ get_or place x 0) = k.linked.step c x own_x later in
    let own : k.owner x ≡ suc (suc i) = own_x ∙ sym step.0 ∙ own_b in
    let f = found before jump place free lists p i 0 x k is here own (omega arith) in
    let at_x : get_or place x 0 ≡ at + n = omega arith in
    let found_x : get_or (chain_at p (i + 1)).blocks (at + n) 0
    ≡ x = ap (λ (y : ℕ). get_or (chain_at p (i + 1)).blocks y 0) (sym at_x) ∙ f.is in (
      omega (arith, f.within),
      record {
        each = λ j h. elim (cases_eq j n) [
          | inl q ↦ rw q (found_x ∙ omega arith)
          | inr q ↦ tied.each j (omega arith)
        ];
      },
    )

-- a list goes on in the block of the next number, if that one names the block as the one before it
pub goes_on : (before jump place : List ℕ) (free : Chain) (lists : List Chain) (p : BlockChains)
    (i at block prior : ℕ) → IsBlocks before jump place (free ∷ lists)
    → seen before (free ∷ lists) ≡ p → i + 1 < length p.chains → at < length (chain_at p (i + 1)).blocks
    → block ≡ get_or (chain_at p (i + 1)).blocks at 0
    → block + 1 < length before → prior ≡ get_or before (block + 1) prior → prior ≡ block
    → GoesOn (chain_at p (i + 1)).blocks at block
goes_on before jump place free lists p i at block prior k is here low first inside read beside =
    let alone : IsTied (chain_at p (i + 1)).blocks at 1 = record {
      each = λ j h.
          let z : at + j ≡ at = omega arith in
          ap (λ (x : ℕ). get_or (chain_at p (i + 1)).blocks x 0) z ∙ omega arith;
    } in
    let next = next_beside before jump place free lists p i at 1 block prior k is here alone (omega arith)
    (omega arith) first inside read (omega arith) in
    record {
      within = omega (arith, next.0);
      next = next.1.each 1 (omega arith) ∙ omega arith;
    }

-- and only then
pub goes_on-named : (before jump place : List ℕ) (free : Chain) (lists : List Chain) (p : BlockChains)
    (i at block : ℕ) → IsBlocks before jump place (free ∷ lists)
    → seen before (free ∷ lists) ≡ p → i + 1 < length p.chains → block ≡ get_or (chain_at p (i + 1)).blocks at 0
    → GoesOn (chain_at p (i + 1)).blocks at block
    → (block + 1 < length before) × (get_or before (block + 1) 0 ≡ block)
goes_on-named before jump place free lists p i at block k is here first goes =
    let ends = free ∷ lists in
    let bs = list_blocks before free lists p i is here in
    let size : length (chain_at p (i + 1)).blocks ≡ (end_at (free ∷ lists) (suc i)).blocks = ap
    (λ (xs : List ℕ). length xs) bs
    ∙ length-blocks_to before (end_at (free ∷ lists) (suc i)).last (end_at (free ∷ lists) (suc i)).blocks in
    let s = chain_stands k.owner before jump place (free ∷ lists) k.linked (suc i) at (omega (arith, goes.within)) in
    let t = chain_stands k.owner before jump place (free ∷ lists) k.linked (suc i) (at + 1)
    (omega (arith, goes.within)) in
    let same : get_or (blocks_to before (end_at (free ∷ lists) (suc i)).last (end_at (free ∷ lists) (suc i)).blocks)
    at 0 ≡ block = sym (ap (λ (xs : List ℕ). get_or xs at 0) bs) ∙ sym first in
    let next : get_or (blocks_to before (end_at (free ∷ lists) (suc i)).last (end_at (free ∷ lists) (suc i)).blocks)
    (at + 1) 0 ≡ block + 1 = sym (ap (λ (xs : List ℕ). get_or xs (at + 1) 0) bs) ∙ goes.next in
    let own : k.owner block ≡ suc (suc i) = ap k.owner (sym same) ∙ s.owned in
    let here_place : get_or place block 0 ≡ at = ap (λ (x : ℕ). get_or place x 0) (sym same) ∙ s.placed in
    let own_next : k.owner (block + 1) ≡ suc (suc i) = ap k.owner (sym next) ∙ t.owned in
    let next_place : get_or place (block + 1) 0 ≡ at + 1 = ap (λ (x : ℕ). get_or place x 0) (sym next) ∙ t.placed in
    let inside : (block + 1 < length before) × (suc i < length (free ∷ lists)) = k.linked.inside (suc i)
    (block + 1) own_next in
    let step : (k.owner (get_or before (block + 1) 0) ≡ suc (suc i))
    × (get_or place (get_or before (block + 1) 0) 0 + 1 ≡ get_or place (block + 1) 0) = k.linked.step (suc i)
    (block + 1) own_next (omega arith) in
    (inside.0, k.linked.one (suc i) _ block step.0 own (omega (arith, step.1)))

-- a block of a list lies in the tables
pub block_inside : (before jump place : List ℕ) (free : Chain) (lists : List Chain) (p : BlockChains)
    (i at block : ℕ) → IsBlocks before jump place (free ∷ lists)
    → seen before (free ∷ lists) ≡ p → i + 1 < length p.chains → at < length (chain_at p (i + 1)).blocks
    → block ≡ get_or (chain_at p (i + 1)).blocks at 0 → block < length before
block_inside before jump place free lists p i at block k is here low found =
    let apart : IsApart p = subst IsApart is (seen-apart before jump place (free ∷ lists) k) in
    let inside : get_or (chain_at p (i + 1)).blocks at 0 < p.all = apart.within (i + 1) at low in
    omega (arith, ap (λ (q : BlockChains). q.all) is)

-- the block that a block names as the one before it is the one before it
pub step_back : (before jump place : List ℕ) (free : Chain) (lists : List Chain) (p : BlockChains)
    (i at block prior : ℕ) → IsBlocks before jump place (free ∷ lists)
    → seen before (free ∷ lists) ≡ p → i + 1 < length p.chains → at + 1 < length (chain_at p (i + 1)).blocks
    → block ≡ get_or (chain_at p (i + 1)).blocks (at + 1) 0 → prior ≡ get_or before block prior
    → prior ≡ get_or (chain_at p (i + 1)).blocks at 0
step_back before jump place free lists p i at block prior k is here low found read =
    let inside : block < length before = block_inside before jump place free lists p i (at + 1) block k is here low
    found in
    let bs = list_blocks before free lists p i is here in
    let size : length (chain_at p (i + 1)).blocks ≡ (end_at (free ∷ lists) (suc i)).blocks = ap
    (λ (xs : List ℕ). length xs) bs
    ∙ length-blocks_to before (end_at (free ∷ lists) (suc i)).last (end_at (free ∷ lists) (suc i)).blocks in
    let s = chain_stands k.owner before jump place (free ∷ lists) k.linked (suc i) at (omega arith) in
    let t = chain_stands k.owner before jump place (free ∷ lists) k.linked (suc i) (at + 1) (omega arith) in
    let this : get_or (blocks_to before (end_at (free ∷ lists) (suc i)).last (end_at (free ∷ lists) (suc i)).blocks)
    (at + 1) 0 ≡ block = sym (ap (λ (xs : List ℕ). get_or xs (at + 1) 0) bs) ∙ sym found in
    let own : k.owner block ≡ suc (suc i) = ap k.owner (sym this) ∙ t.owned in
    let placed : get_or place block 0 ≡ at + 1 = ap (λ (x : ℕ). get_or place x 0) (sym this) ∙ t.placed in
    let step : (k.owner (get_or before block 0) ≡ suc (suc i))
    × (get_or place (get_or before block 0) 0 + 1 ≡ get_or place block 0) = k.linked.step (suc i) block own
    (omega arith) in
    get_or_read before block prior inside read 0
    ∙ k.linked.one (suc i) _ _ step.0 s.owned (omega (arith, step.1, placed, s.placed))
    ∙ sym (ap (λ (xs : List ℕ). get_or xs at 0) bs)

-- how many blocks a list has at most
pub list_short : (before jump place : List ℕ) (free : Chain) (lists : List Chain) (p : BlockChains) (i : ℕ)
    → IsBlocks before jump place (free ∷ lists)
    → seen before (free ∷ lists) ≡ p → i + 1 < length p.chains → length (chain_at p (i + 1)).blocks ≤ 4294967294
list_short before jump place free lists p i k is here =
    omega (
      arith,
      ap (λ (xs : List ℕ). length xs) (list_blocks before free lists p i is here),
      length-blocks_to before (end_at (free ∷ lists) (suc i)).last (end_at (free ∷ lists) (suc i)).blocks,
      blocks-le-blocks_in (free ∷ lists) (suc i),
      k.total,
      k.few,
    )

-- tables of which the entries from a number on are nobody's yet
pub record IsPartly (all : ℕ) (before jump place : List ℕ) (ends : List Chain) : Type 0 where
  pub owner : ℕ → ℕ
  pub linked : IsLinked owner before jump place ends
  pub owned : (b : ℕ) → b < all → 0 < owner b
  pub nobody : (b : ℕ) → all ≤ b → owner b ≡ 0
  pub jumps : length jump ≡ length before
  pub places : length place ≡ length before
  pub few : length before ≤ 4294967294
  pub lists : length ends ≤ 2 ^ 31 + 1
  pub total : blocks_in ends ≡ all

-- tables of which every entry has an owner
pub partly-whole : (all : ℕ) (before jump place : List ℕ) (ends : List Chain) → IsPartly all before jump place ends
    → length before ≡ all → IsBlocks before jump place ends
partly-whole all before jump place ends k whole = record {
  owner = k.owner;
  linked = k.linked;
  owned = λ b h. k.owned b (omega arith);
  jumps = k.jumps;
  places = k.places;
  few = k.few;
  lists = k.lists;
  total = k.total ∙ sym whole;
}

pub linked-extended : (owner : ℕ → ℕ) (before jump place more : List ℕ) (ends : List Chain)
    → IsLinked owner before jump place ends
    → length jump ≡ length before → length place ≡ length before
    → IsLinked owner (before ++ more) (jump ++ more) (place ++ more) ends
linked-extended owner before jump place more ends l jumps places =
    let b_same : (c x : ℕ) → owner x ≡ suc c
    → get_or (before ++ more) x 0 ≡ get_or before x 0 = λ c x o. let i : (x < length before)
    × (c < length ends) = l.inside c x o in get_or_append_left before more 0 x i.0 in
    let j_same : (c x : ℕ) → owner x ≡ suc c
    → get_or (jump ++ more) x 0 ≡ get_or jump x 0 = λ c x o. let i : (x < length before)
    × (c < length ends) = l.inside c x o in get_or_append_left jump more 0 x (omega (arith, i.0)) in
    let p_same : (c x : ℕ) → owner x ≡ suc c
    → get_or (place ++ more) x 0 ≡ get_or place x 0 = λ c x o. let i : (x < length before)
    × (c < length ends) = l.inside c x o in get_or_append_left place more 0 x (omega (arith, i.0)) in
    record {
      inside = λ c x o. let i : (x < length before) × (c < length ends) = l.inside c x o in
          (omega (arith, i.0, length-append before more), i.1);
      low = λ c x o. rw (p_same c x o) (l.low c x o);
      one = λ c x y o p same. l.one c x y o p (sym (p_same c x o) ∙ same ∙ p_same c y p);
      first = λ c x o. rw (b_same c x o, j_same c x o, p_same c x o) (l.first c x o);
      step = λ c x o. rw (b_same c x o, p_same c x o) (λ h.
          let s : (owner (get_or before x 0) ≡ suc c) × (get_or place (get_or before x 0) 0 + 1 ≡ get_or place x 0) =
          l.step c x o h in
          (s.0, rw (p_same c (get_or before x 0) s.0) s.1));
      leap = λ c x o. rw (j_same c x o, p_same c x o) (λ h.
          let s : (owner (get_or jump x 0) ≡ suc c) × (get_or place (get_or jump x 0) 0 < get_or place x 0) =
          l.leap c x o h in
          (s.0, rw (p_same c (get_or jump x 0) s.0) s.1));
      last = λ c h.
          let s : (owner (end_at ends c).last ≡ suc c)
          × (get_or place (end_at ends c).last 0 + 1 ≡ (end_at ends c).blocks) = l.last c h in
          (s.0, rw (p_same c (end_at ends c).last s.0) s.1);
    }

pub partly-start : (before jump place : List ℕ) (ends : List Chain) (n : ℕ) → IsBlocks before jump place ends
    → length before + n ≤ 4294967294
    → IsPartly (length before) (before ++ replicate n 0) (jump ++ replicate n 0) (place ++ replicate n 0) ends
partly-start before jump place ends n k few =
    let size : length {A = ℕ} (replicate n 0) ≡ n = length-replicate n 0 in
    record {
      owner = k.owner;
      linked = linked-extended k.owner before jump place (replicate n 0) ends k.linked k.jumps k.places;
      owned = k.owned;
      nobody = λ b h. elim (cases_eq (k.owner b) 0) [
        | inl q ↦ q
        | inr q ↦ absurd (let i : (b < length before) × (k.owner b - 1 < length ends) = k.linked.inside
            (k.owner b - 1) b (omega arith) in let j = i.0 in omega arith)
      ];
      jumps = omega (arith, k.jumps, length-append jump (replicate n 0), length-append before (replicate n 0));
      places = omega (arith, k.places, length-append place (replicate n 0), length-append before (replicate n 0));
      few = omega (arith, size, length-append before (replicate n 0));
      lists = k.lists;
      total = k.total;
    }

pub seen-extended : (before jump place more : List ℕ) (ends : List Chain) → IsBlocks before jump place ends
    → map (held_by (before ++ more)) ends ≡ map (held_by before) ends
seen-extended before jump place more ends k =
    map-same (held_by (before ++ more)) (held_by before) ends no_chain
    (λ d h. ap (λ (bs : List ℕ). record { blocks = bs; len = (end_at ends d).len })
    (chain-same k.owner before jump place ends k.linked (before ++ more) d
    (λ x o. let i : (x < length before) × (d < length ends) = k.linked.inside d x o in
    get_or_append_left before more 0 x i.0)))

pub partly-next : (all : ℕ) (before jump place : List ℕ) (ends : List Chain) (c : ℕ)
    → IsPartly all before jump place ends → all < length before → c < length ends
    → IsPartly (all + 1) (set before all (before_of (end_at ends c).blocks (end_at ends c).last all))
    (set jump all (jump_of jump place (end_at ends c).blocks (end_at ends c).last all))
    (set place all (end_at ends c).blocks) (set ends c (with_last (end_at ends c) all))
partly-next all before jump place ends c k more here =
    let e = end_at ends c in
    record {
      owner = owned k.owner all (suc c);
      linked = linked-longer k.owner before jump place ends k.linked k.jumps k.places c all here more
          (k.nobody all (omega arith));
      owned = λ x h. elim (cases_eq x all) [
        | inl q ↦ let r : owned k.owner all (suc c) x ≡ suc c = ap (owned k.owner all (suc c)) q
            ∙ owned-same k.owner all (suc c) in omega arith
        | inr q ↦ rw (owned-other k.owner all (suc c) x q) (k.owned x (omega arith))
      ];
      nobody = λ x h. owned-other k.owner all (suc c) x (λ q. absurd (omega arith)) ∙ k.nobody x (omega arith);
      jumps = rw (length-set, length-set) k.jumps;
      places = rw (length-set, length-set) k.places;
      few = rw length-set k.few;
      lists = rw length-set k.lists;
      total = omega (arith, blocks_in-set ends c (with_last e all) here, k.total);
    }

-- a chain with numbers behind it
abbrev pub with_numbers : Held → ℕ → ℕ → Held
with_numbers h first n = record { blocks = h.blocks ++ range_with_len first n; len = h.len }

range_more : (a n : ℕ) → range_with_len a (n + 1) ≡ range_with_len a n ++ (a + n) ∷ []
range_more a zero = let z : a ≡ a + 0 = omega arith in ap (λ (k : ℕ). k ∷ []) z
range_more a (suc n) =
    let e : suc n + 1 ≡ suc (n + 1) = omega arith in
    let z : a + suc n ≡ a + 1 + n = omega arith in
    rw (e, z) (ap (λ (xs : List ℕ). a ∷ xs) (range_more (a + 1) n))

-- a chain with one more number behind it
numbers_more : (h : Held) (first all : ℕ) → first ≤ all → and_block (with_numbers h first (all - first)) all
    ≡ with_numbers h first (all + 1 - first)
numbers_more h first all low =
    let e : all + 1 - first ≡ (all - first) + 1 = omega arith in
    let z : first + (all - first) ≡ all = omega arith in
    let m : range_with_len first (all + 1 - first) ≡ range_with_len first (all - first) ++ all ∷ [] = ap
    (range_with_len first) e ∙ range_more first (all - first)
    ∙ ap (λ (k : ℕ). range_with_len first (all - first) ++ k ∷ []) z in
    ap (λ (bs : List ℕ). record { blocks = bs; len = h.len })
    (append_assoc h.blocks (range_with_len first (all - first)) (all ∷ [])
    ∙ ap (λ (xs : List ℕ). h.blocks ++ xs) (sym m))

-- a list is there, by its chains
pub list_inside : (before : List ℕ) (free : Chain) (lists : List Chain) (cs : List Held) (i : ℕ) (h : Held)
    → map (held_by before) (free ∷ lists) ≡ set cs (i + 1) h → i + 1 < length cs → i < length lists
list_inside before free lists cs i h is here = omega (
  arith,
  ap (λ (xs : List Held). length xs) is,
  length-map (free ∷ lists) (held_by before),
  length-set cs (i + 1) h,
)

pub partly_bounds : (all : ℕ) (before jump place : List ℕ) (free : Chain) (lists : List Chain) (i : ℕ) (e : Chain)
    → IsPartly all before jump place (free ∷ lists)
    → i < length lists → e ≡ get_or lists i e → (e.blocks ≤ all) × (0 < e.blocks → IsEnd jump place e.last)
partly_bounds all before jump place free lists i e k here at =
    let is : end_at (free ∷ lists) (suc i) ≡ e = get_or_default lists i no_chain e here ∙ sym at in
    let n : (end_at (free ∷ lists) (suc i)).blocks ≤ blocks_in (free ∷ lists) = blocks-le-blocks_in (free ∷ lists)
    (suc i) in
    let same : (end_at (free ∷ lists) (suc i)).blocks ≡ e.blocks = ap (λ (c : Chain). c.blocks) is in (
      omega (arith, k.total),
      (λ some. rw is at (end-stands k.owner before jump place (free ∷ lists) k.linked k.jumps (suc i) (rw is some))),
    )

-- one new block behind a list
pub grown : (all first : ℕ) (before jump place bef jum pla : List ℕ) (free : Chain) (lists : List Chain)
    (cs : List Held) (i : ℕ) (e to : Chain) (h : Held) → IsPartly all before jump place (free ∷ lists)
    → map (held_by before) (free ∷ lists) ≡ set cs (i + 1) (with_numbers h first (all - first)) → i + 1 < length cs
    → e ≡ get_or lists i e → all < length before → first ≤ all
    → bef ≡ set before all (before_of e.blocks e.last all)
    → jum ≡ set jump all (jump_of jump place e.blocks e.last all) → pla ≡ set place all e.blocks
    → to ≡ with_last e all
    → IsPartly (all + 1) bef jum pla (free ∷ set lists i to)
    × (map (held_by bef) (free ∷ set lists i to) ≡ set cs (i + 1) (with_numbers h first (all + 1 - first)))
grown all first before jump place bef jum pla free lists cs i e to h k is here at more low b j q t =
    let inside : i < length lists = list_inside before free lists cs i _ is here in
    let ends = free ∷ lists in
    let end : end_at (free ∷ lists) (suc i) ≡ e = get_or_default lists i no_chain e inside ∙ sym at in
    let front = set before all (before_of e.blocks e.last all) in
    let next : i + 1 ≡ suc i = omega arith in
    let chain : held_by before (end_at (free ∷ lists) (suc i)) ≡ with_numbers h first (all - first) =
    sym (chain_seen before (free ∷ lists) (suc i) (omega arith))
    ∙ ap (λ (xs : List Held). get_or xs (suc i) empty_chain) is
    ∙ ap (λ (x : ℕ). get_or (set cs (i + 1) (with_numbers h first (all - first))) x empty_chain) (sym next)
    ∙ get_or-set_same cs (i + 1) _ empty_chain here in
    let longer : map (held_by front) (free ∷ set lists i (with_last e all))
    ≡ set (map (held_by before) (free ∷ lists)) (suc i)
    (and_block (held_by before (end_at (free ∷ lists) (suc i))) all) =
    subst (λ (w : Chain). map (held_by (set before all (before_of w.blocks w.last all)))
    (free ∷ set lists i (with_last w all)) ≡ set (map (held_by before) (free ∷ lists)) (suc i)
    (and_block (held_by before (end_at (free ∷ lists) (suc i))) all)) end
    (seen-longer k.owner before jump place (free ∷ lists) k.linked (suc i) all more (k.nobody all (omega arith))) in (
      rw (b, j, q, t) (subst (λ (w : Chain). IsPartly (all + 1) (set before all (before_of w.blocks w.last all))
          (set jump all (jump_of jump place w.blocks w.last all)) (set place all w.blocks)
          (free ∷ set lists i (with_last w all))) end
          (partly-next all before jump place (free ∷ lists) (suc i) k more (omega arith))),
      ap (λ (x : List ℕ). map (held_by x) (free ∷ set lists i to)) b
          ∙ ap (λ (x : Chain). map (held_by front) (free ∷ set lists i x)) t ∙ longer
          ∙ ap (λ (xs : List Held). set xs (suc i) (and_block (held_by before (end_at (free ∷ lists) (suc i))) all)) is
          ∙ ap (λ (x : ℕ). set (set cs (i + 1) (with_numbers h first (all - first))) x
          (and_block (held_by before (end_at (free ∷ lists) (suc i))) all)) (sym next)
          ∙ set-set cs (i + 1) _ _
          ∙ ap (set cs (i + 1)) (ap (λ (x : Held). and_block x all) chain ∙ numbers_more h first all low),
    )

-- no new block yet
pub grown-none : (before jump place : List ℕ) (ends : List Chain) (p : BlockChains) (c n m : ℕ)
    → IsBlocks before jump place ends → seen before ends ≡ p → m ≡ p.all
    → map (held_by (before ++ replicate n 0)) ends ≡ set p.chains c (with_numbers (chain_at p c) p.all (m - p.all))
grown-none before jump place ends p c n m k is e =
    let z : m - p.all ≡ 0 = omega arith in
    let nothing : with_numbers (chain_at p c) p.all 0
    ≡ chain_at p c = ap (λ (bs : List ℕ). record { blocks = bs; len = (chain_at p c).len })
    (append-nil (chain_at p c).blocks) in
    seen-extended before jump place (replicate n 0) ends k ∙ ap (λ (q : BlockChains). q.chains) is
    ∙ sym (set-get_or p.chains c empty_chain)
    ∙ ap (set p.chains c) (sym nothing) ∙ ap (λ (x : ℕ). set p.chains c (with_numbers (chain_at p c) p.all x)) (sym z)

-- the rows of blocks that stand side by side do so
pub tied-stretch : (blocks : List ℕ) (from n first start m : ℕ) → IsTied blocks (from / 4) n
    → first ≡ get_or blocks (from / 4) 0 → start ≡ first * 4 + from % 4 → m ≤ n * 4 - from % 4
    → IsStretch blocks from start m
tied-stretch blocks from n first start m tied is at most = record {
  each = λ k low.
      let j = (from + k) / 4 - from / 4 in
      let e : from / 4 + ((from + k) / 4 - from / 4) ≡ (from + k) / 4 = omega arith in
      let t : get_or blocks (from / 4 + ((from + k) / 4 - from / 4)) 0 ≡ get_or blocks (from / 4) 0 +
      ((from + k) / 4 - from / 4) = tied.each ((from + k) / 4 - from / 4) (omega arith) in
      let u : get_or blocks ((from + k) / 4) 0 ≡ first + ((from + k) / 4 - from / 4) = ap
      (λ (x : ℕ). get_or blocks x 0) (sym e) ∙ t ∙ ap (λ (x : ℕ). x + ((from + k) / 4 - from / 4)) (sym is) in
      omega arith;
}

-- how many blocks the chains have
pub seen-total : (before : List ℕ) (ends : List Chain) → sum_by count_of (map (held_by before) ends) ≡ blocks_in ends
seen-total before [] = refl
seen-total before (e ∷ ends) =
    sum_by-cons count_of (held_by before e) (map (held_by before) ends)
    ∙ omega (arith, seen-total before ends, length-blocks_to before e.last e.blocks)

-- blocks that follow one another, and one more
pub tied-more : (blocks : List ℕ) (at n last : ℕ) → IsTied blocks at n → 1 ≤ n → last ≡ get_or blocks at 0 + (n - 1)
    → GoesOn blocks (at + n - 1) last → IsTied blocks at (n + 1)
tied-more blocks at n last tied some is goes = record {
  each = λ k low. elim (cases_eq k n) [
    | inl q ↦
        let e : at + k ≡ at + n - 1 + 1 = omega arith in
        ap (λ (x : ℕ). get_or blocks x 0) e ∙ goes.next ∙ omega arith
    | inr q ↦ tied.each k (omega arith)
  ];
}

-- rows that stand side by side go on as far as they can
pub stretch-longest : (h : Held) (from first count start n : ℕ) → from < h.len → h.len ≤ 4 * length h.blocks → 1 ≤ count
    → (count ≡ 16385) ⊎ (GoesOn h.blocks (from / 4 + count - 1) (first + count - 1) → ⊥)
    → start ≡ first * 4 + from % 4 → n ≡ min (min (count * 4 - from % 4) (h.len - from)) 65536 → IsLongest h from start n
stretch-longest h from first count start n within held some end at is =
    elim (cases_eq n 65536) [
      | inl q ↦ inl q
      | inr q ↦ elim (cases_eq (from + n) h.len) [
        | inl r ↦ inr (inl r)
        | inr r ↦ inr (inr (λ same. elim end [
          | inl e ↦ omega arith
          | inr stops ↦
              let rows : n ≡ count * 4 - from % 4 = omega arith in
              let block : (from + n) / 4 ≡ from / 4 + count - 1 + 1 = omega arith in
              let front : (from + n) % 4 ≡ 0 = omega arith in
              let inside : from / 4 + count - 1 + 1 < length h.blocks = omega arith in
              let next : get_or h.blocks (from / 4 + count - 1 + 1) 0 ≡ first + count - 1 + 1 =
              let g : get_or h.blocks ((from + n) / 4) 0 ≡ get_or h.blocks (from / 4 + count - 1 + 1) 0 = ap
              (λ (x : ℕ). get_or h.blocks x 0) block in omega arith in
              stops (record { within = inside; next = next })
        ]))
      ]
    ]
