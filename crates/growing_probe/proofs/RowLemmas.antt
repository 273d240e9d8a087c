-- Lemmas on the rows that were met.
use Rattle.std.proofs.Common.{◌≡◌, ◌≢◌, ℕ, zero, suc, ◌+◌, ◌<◌, ◌≤◌, ◌⊎◌, inl, inr}
use Rattle.std.proofs.Common.{Bool, true, false, cond}
use Rattle.std.proofs.Common.{nat_abs, pos, List, [], ◌∷◌, length, map, take, set, get_or, refl, sym, ap}
use Rattle.std.proofs.Common.{◌∙◌}
use Rattle.std.proofs.Common.{arith, subst, zero-add, length-take}
use Rattle.std.proofs.Common.{get_or-set_same, get_or-set_other}
use Rattle.std.specs.List.{All, filter}
use Rattle.std.specs.List.Sorted.{IsPermutation}
use Rattle.std.proofs.lemmas.List.{length-map, set-get_or}
use Rattle.std.proofs.lemmas.List.Elements.{All-head, All-tail}
use Rattle.std.proofs.lemmas.List.Sorted.{IsPermutation-refl, IsPermutation-cons, IsPermutation-trans}
use Rattle.std.proofs.lemmas.List.Sorted.{IsPermutation-map, IsPermutation-middle, length_permutation}
use Rattle.std.proofs.lemmas.Bool.Decides.{eqb_tells}
use Rattle.bcodes.specs.declared.hit.Hit.{Hit}
use Rattle.bcodes.specs.Hits.{in_order}
use Rattle.bcodes.specs.Value.{Row, numbered}
use Rattle.bcodes.specs.Answers.{hit_of}
use Rattle.bcodes.proofs.LegalLemmas.{length-filter-le}
use Rattle.bcodes.proofs.NumberedLemmas.{length-numbered, get-numbered}
use Rattle.bcodes.proofs.OrderLemmas.{best_more, in_order-permutation, in_order-push, length-in_order}
use Rattle.multi_hash.specs.Seen.{row_at}
use Rattle.growing_probe.specs.Met.{is_seen, met_rows}

-- ---- filters

-- tests that agree on the items of a list
pub filter_same : {X : Type 0} (s t : X → Bool) (xs : List X) → All (λ x. s x ≡ t x) xs
    → filter s xs ≡ filter t xs
filter_same s t [] h = refl
filter_same s t (x ∷ xs) h =
    ap (λ (b : Bool). cond b (x ∷ filter s xs) (filter s xs)) (All-head (λ x. s x ≡ t x) x xs h)
    ∙ ap (λ l. cond (t x) (x ∷ l) l) (filter_same s t xs (All-tail (λ x. s x ≡ t x) x xs h))

module _ {X : Type 0} (s t : X → Bool) where
  kept_step : (b : Bool) (x y : X) (ss ts : List X) → IsPermutation ts (y ∷ ss)
      → IsPermutation (cond b (x ∷ ts) ts) (y ∷ cond b (x ∷ ss) ss)
  kept_step true x y ss ts h =
      IsPermutation-trans (x ∷ ts) (x ∷ y ∷ ss) (y ∷ x ∷ ss) (IsPermutation-cons x ts (y ∷ ss) h)
      (IsPermutation-middle (x ∷ []) y ss)
  kept_step false x y ss ts h = h

  -- a test that passes one item more
  pub filter_one_more : (xs : List X) (k : ℕ) (d : X) → k < length xs → s (get_or xs k d) ≡ false
      → t (get_or xs k d) ≡ true → ((j : ℕ) → j < length xs → j ≢ k
      → t (get_or xs j d) ≡ s (get_or xs j d))
      → IsPermutation (filter t xs) (get_or xs k d ∷ filter s xs)
  filter_one_more [] k d low fails passes others = absurd (omega arith)
  filter_one_more (x ∷ xs) zero d low fails passes others =
      let rest : filter t xs ≡ filter s xs = filter_same t s xs (λ j e h.
      agree xs j d e h (others (suc j) (omega arith) (λ f. omega arith))) in
      subst (λ (l : List X). IsPermutation l (x ∷ filter s (x ∷ xs)))
      (sym (ap (λ (b : Bool). cond b (x ∷ filter t xs) (filter t xs)) passes ∙ ap (λ (l : List X). x ∷ l) rest))
      (subst (λ (l : List X). IsPermutation (x ∷ filter s xs) (x ∷ l))
      (sym (ap (λ (b : Bool). cond b (x ∷ filter s xs) (filter s xs)) fails))
      (IsPermutation-refl (x ∷ filter s xs)))
    where
      agree : (xs : List X) (j : ℕ) (d e : X) → j < length xs → t (get_or xs j d) ≡ s (get_or xs j d)
          → t (get_or xs j e) ≡ s (get_or xs j e)
      agree [] j d e h f = absurd (omega arith)
      agree (x ∷ xs) zero d e h f = f
      agree (x ∷ xs) (suc j) d e h f = agree xs j d e (omega arith) f
  filter_one_more (x ∷ xs) (suc k) d low fails passes others =
      let ih : IsPermutation (filter t xs) (get_or xs k d ∷ filter s xs)
      = filter_one_more xs k d (omega arith) fails passes
      (λ j h ne. others (suc j) (omega arith) (λ f. ne (omega arith))) in
      subst (λ (b : Bool). IsPermutation (cond b (x ∷ filter t xs) (filter t xs))
      (get_or xs k d ∷ cond (s x) (x ∷ filter s xs) (filter s xs)))
      (sym (others 0 (omega arith) (λ f. omega arith)))
      (kept_step (s x) x (get_or xs k d) (filter s xs) (filter t xs) ih)

-- ---- rows under their positions

pub row_is : (codes : List (List ℕ)) (k : ℕ) (d : Row) → k < length codes
    → get_or (numbered 0 codes) k d ≡ row_at codes k
row_is codes k d low =
    get-numbered 0 codes k d [] low
    ∙ ap (λ (n : ℕ). record { label = pos n; code = get_or codes k [] }) (zero-add k)

pub All-rows : (P : Row → Type 0) (codes : List (List ℕ))
    → ((p : ℕ) → p < length codes → P (row_at codes p))
    → All P (numbered 0 codes)
All-rows P codes h k d low =
    let here : k < length codes = omega (arith, length-numbered 0 codes) in
    subst P (sym (row_is codes k d here)) (h k here)

-- ---- one position more

module _ (codes : List (List ℕ)) (seen : List Bool) (p : ℕ) (count : length seen ≡ length codes)
    (low : p < length codes) (new : is_seen seen p ≡ false) where
  abbrev was : Row → Bool
  was row = is_seen seen (nat_abs row.label)

  abbrev is : Row → Bool
  is row = is_seen (set seen p true) (nat_abs row.label)

  same_row : (j : ℕ) (d : Row) → j < length (numbered 0 codes) → j ≢ p
      → is (get_or (numbered 0 codes) j d) ≡ was (get_or (numbered 0 codes) j d)
  same_row j d h ne =
      let here : j < length codes = omega (arith, length-numbered 0 codes) in
      ap is (row_is codes j d here) ∙ get_or-set_other seen p j true false ne ∙ sym (ap was (row_is codes j d here))

  pub one_row_more : IsPermutation (met_rows codes (set seen p true)) (row_at codes p ∷ met_rows codes seen)
  one_row_more =
      let d : Row = row_at codes p in
      let here : p < length (numbered 0 codes) = omega (arith, length-numbered 0 codes) in
      let within : p < length seen = omega (arith, count) in
      subst (λ (row : Row). IsPermutation (met_rows codes (set seen p true)) (row ∷ met_rows codes seen))
      (row_is codes p d low)
      (filter_one_more was is (numbered 0 codes) p d here (ap was (row_is codes p d low) ∙ new)
      (ap is (row_is codes p d low) ∙ get_or-set_same seen p true false within) (λ j h ne. same_row j d h ne))

  -- how many were met
  pub count_more : length (met_rows codes (set seen p true)) ≡ length (met_rows codes seen) + 1
  count_more = omega (arith, length_permutation _ _ one_row_more)

  pub count_less : length (met_rows codes seen) < length codes
  count_less = omega (
    arith,
    count_more,
    length-filter-le is (numbered 0 codes),
    length-numbered 0 codes,
  )

  -- the first k of those that were met
  pub kept_more : (q : List ℕ) (k : ℕ) (before after : List Hit)
      → before ≡ take k (in_order (map (hit_of q) (met_rows codes seen)))
      → after ≡ take k (in_order (hit_of q (row_at codes p) ∷ before))
      → after ≡ take k (in_order (map (hit_of q) (met_rows codes (set seen p true))))
  kept_more q k before after e f =
      let hs : List Hit = map (hit_of q) (met_rows codes seen) in
      let hit : Hit = hit_of q (row_at codes p) in
      best_more k hs before after hit e f
      ∙ ap (take k) (in_order-push hs hit
      ∙ in_order-permutation _ _ (IsPermutation-map (hit_of q) _ _ one_row_more))

-- no more hits are kept than were met
pub kept_few : (q : List ℕ) (k : ℕ) (kept : List Hit) (rows : List Row)
    → kept ≡ take k (in_order (map (hit_of q) rows))
    → length kept ≤ length rows
kept_few q k kept rows e = omega (
  arith,
  ap length e,
  length-take k (in_order (map (hit_of q) rows)),
  length-in_order (map (hit_of q) rows),
  length-map rows (hit_of q),
)

pub kept_most : (k : ℕ) (kept hits : List Hit) → kept ≡ take k hits → length kept ≤ k
kept_most k kept hits e = omega (arith, ap length e, length-take k hits)

-- ---- a position that was met before

pub seen_again : (seen : List Bool) (p : ℕ) → is_seen seen p ≡ true → set seen p true ≡ seen
seen_again seen p e = ap (set seen p) (sym e) ∙ set-get_or seen p false

-- ---- what is seen after a position

tells : (m n : ℕ) → (m ≡ n) ⊎ (m ≢ n)
tells m n = elim (eqb_tells m n) [ inl e ↦ inl e.1 | inr e ↦ inr e.1 ]
