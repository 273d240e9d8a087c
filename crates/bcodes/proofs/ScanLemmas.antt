-- Where an answer over some rows is that over all rows.
use Rattle.std.proofs.Common.{◌≡◌, ℕ, zero, suc, ◌-◌, ◌<◌, ◌≤◌, Bool, true, false, cond, ◌&&◌, nat_eq, nat_le, nat_lt}
use Rattle.std.proofs.Common.{List, [], ◌∷◌, length, get_or, take, map, refl, sym, ap, ◌∙◌, arith, inl, inr, length-take}
use Rattle.std.proofs.Common.{true≢false}
use Rattle.std.specs.List.{filter, list_all, All}
use Rattle.std.proofs.lemmas.List.Elements.{All-head, All-tail}
use Rattle.std.proofs.lemmas.List.{get_or-take}
use Rattle.std.proofs.lemmas.Bool.{ltb-true, lt-ltb, eqb-true, lt-leb, ne_eqb, cases_lt}
use Rattle.std.specs.declared.cmp.Ordering.{Ordering}
use Rattle.std.specs.declared.cmp.Ordering.TheVariants.{Greater}
use Rattle.std.specs.Ordering.{nat_cmp, int_cmp, ordering_then, is_gt}
use Rattle.bcodes.specs.declared.hit.Hit.{Hit}
use Rattle.bcodes.specs.Bits.{dist}
use Rattle.bcodes.specs.Hits.{is_above, in_order, no_hit}
use Rattle.bcodes.specs.Value.{Row}
use Rattle.bcodes.specs.Answers.{hit_of, ranked_rows}
use Rattle.bcodes.specs.Marks.{is_full_below}
use Rattle.bcodes.proofs.OrderLemmas.{either, NoneBelow, Ascends, Ascends-in_order, Ascends-get, filter-in_order}

-- ---- filters

map_step : {A B : Type 0} (f : A → B) (x : A) (t : Bool) (ys : List B) (xs : List A) → ys ≡ map f xs
    → cond t (f x ∷ ys) ys ≡ map f (cond t (x ∷ xs) xs)
map_step f x true ys xs h = ap (λ l. f x ∷ l) h
map_step f x false ys xs h = h

pub filter-map : {A B : Type 0} (f : A → B) (p : B → Bool) (xs : List A)
    → filter p (map f xs) ≡ map f (filter (λ x. p (f x)) xs)
filter-map f p [] = refl
filter-map f p (x ∷ xs) = map_step f x (p (f x)) (filter p (map f xs)) (filter (λ x. p (f x)) xs) (filter-map f p xs)

filter_step : {A : Type 0} (p q : A → Bool) (x : A) (xs : List A) (t u : Bool) → p x ≡ t → q x ≡ u
    → (p x ≡ true → q x ≡ true) → filter p (filter q xs) ≡ filter p xs
    → filter p (cond u (x ∷ filter q xs) (filter q xs)) ≡ cond t (x ∷ filter p xs) (filter p xs)
filter_step p q x xs true true e f h rest = rw e (ap (λ l. x ∷ l) rest)
filter_step p q x xs true false e f h rest = absurd (true≢false (sym (h e) ∙ f))
filter_step p q x xs false true e f h rest = rw e rest
filter_step p q x xs false false e f h rest = rest

-- what passes the stricter of two tests
pub filter-filter : {A : Type 0} (p q : A → Bool) (xs : List A) → All (λ x. p x ≡ true → q x ≡ true) xs
    → filter p (filter q xs) ≡ filter p xs
filter-filter p q [] h = refl
filter-filter p q (x ∷ xs) h =
    filter_step p q x xs (p x) (q x) refl refl (All-head (λ x. p x ≡ true → q x ≡ true) x xs h)
    (filter-filter p q xs (All-tail (λ x. p x ≡ true → q x ≡ true) x xs h))

pub filter-none : {A : Type 0} (p : A → Bool) (xs : List A) → ((x : A) → p x ≡ false) → filter p xs ≡ []
filter-none p [] h = refl
filter-none p (x ∷ xs) h = rw (h x) (filter-none p xs h)

-- ---- a test that every earlier hit passes too

abbrev pub IsDownward : (Hit → Bool) → Type 0
IsDownward p = (a b : Hit) → is_above a b ≡ false → p b ≡ true → p a ≡ true

none_pass : (p : Hit → Bool) (h : Hit) (l : List Hit) → IsDownward p → p h ≡ false → NoneBelow h l → filter p l ≡ []
none_pass p h [] down f n = refl
none_pass p h (x ∷ l) down f n =
    elim (either (p x)) [
      | inl e ↦ absurd (true≢false (sym (down h x n.0 e) ∙ f))
      | inr e ↦ rw e (none_pass p h l down f n.1)
    ]

pass_step : (p : Hit → Bool) (k : ℕ) (x : Hit) (l : List Hit) → p x ≡ true
    → suc k ≤ length (cond (p x) (x ∷ filter p l) (filter p l))
    → (k ≤ length (filter p l) → take k (filter p l) ≡ take k l)
    → take (suc k) (cond (p x) (x ∷ filter p l) (filter p l)) ≡ x ∷ take k l
pass_step p k x l e few rest =
    let f : suc k ≤ length (x ∷ filter p l) = rw e at few in
    rw e (ap (λ m. x ∷ m) (rest (omega arith)))

stop_step : (p : Hit → Bool) (k : ℕ) (x : Hit) (l : List Hit) → p x ≡ false
    → suc k ≤ length (cond (p x) (x ∷ filter p l) (filter p l)) → filter p l ≡ []
    → take (suc k) (cond (p x) (x ∷ filter p l) (filter p l)) ≡ x ∷ take k l
stop_step p k x l e few none =
    let f : suc k ≤ length (filter p l) = rw e at few in
    absurd (omega (arith, ap length none))

-- the hits that pass come first
pub take-filter : (p : Hit → Bool) (k : ℕ) (l : List Hit) → IsDownward p → Ascends l → k ≤ length (filter p l)
    → take k (filter p l) ≡ take k l
take-filter p zero l down s few = refl
take-filter p (suc k) [] down s few = absurd (omega arith)
take-filter p (suc k) (x ∷ l) down s few =
    elim (either (p x)) [
      | inl e ↦ pass_step p k x l e few (take-filter p k l down s.1)
      | inr e ↦ stop_step p k x l e few (none_pass p x l down e s.0)
    ]

-- as many pass as stand up to one that passes
pub passed-most : (p : Hit → Bool) (k : ℕ) (l : List Hit) (d : Hit) → IsDownward p → Ascends l → k < length l
    → p (get_or l k d) ≡ true → suc k ≤ length (filter p l)
passed-most p k [] d down s h e = absurd (omega arith)
passed-most p zero (x ∷ l) d down s h e = rw e (omega arith)
passed-most p (suc k) (x ∷ l) d down s h e =
    let first : p x ≡ true = down x (get_or l k d) (Ascends-get (x ∷ l) 0 (suc k) d s (omega arith) h) e in
    rw first (omega (arith, passed-most p k l d down s.1 (omega arith) e))

greater_is : (m n : ℕ) → n < m → nat_cmp m n ≡ Greater
greater_is m n l = rw (lt-leb (suc m) n (omega arith), ne_eqb m n (λ e. omega arith)) refl

greater_first : (s t : Ordering) → s ≡ Greater → is_gt (ordering_then s t) ≡ false → ⊥
greater_first s t e f = true≢false (sym (ap (λ (o : Ordering). is_gt (ordering_then o t)) e) ∙ f)

above_distance : (a b : Hit) → is_above a b ≡ false → a.distance ≤ b.distance
unfolding is_above
above_distance a b e =
    elim (cases_lt b.distance a.distance) [
      | inl l ↦ absurd (greater_first (nat_cmp a.distance b.distance) (int_cmp a.label b.label)
          (greater_is a.distance b.distance l) e)
      | inr l ↦ l
    ]

pub below_downward : (bound : ℕ) → IsDownward (λ h. nat_lt h.distance bound)
below_downward bound a b above e =
    lt-ltb a.distance bound (omega (arith, ltb-true b.distance bound e, above_distance a b above))

-- the first k of one list and of another, where the same pass of both, and the k-th of the first passes
pub same_first : (p : Hit → Bool) (k : ℕ) (a b : List Hit) (d : Hit) → IsDownward p → Ascends a → Ascends b
    → filter p a ≡ filter p b → 1 ≤ k → k ≤ length a → p (get_or a (k - 1) d) ≡ true → take k a ≡ take k b
same_first p zero a b d down sa sb e some few last = absurd (omega arith)
same_first p (suc k) a b d down sa sb e some few last =
    let at : suc k - 1 ≡ k = omega arith in
    let many : suc k ≤ length (filter p a) = passed-most p k a d down sa few (rw at at last) in
    let many_b : suc k ≤ length (filter p b) = omega (arith, ap length e) in
    sym (take-filter p (suc k) a down sa many) ∙ ap (take (suc k)) e ∙ take-filter p (suc k) b down sb many_b

-- ---- rows below a bound are among some rows

-- every row whose distance lies below the bound passes the test
abbrev pub IsCloseKept : List ℕ → (Row → Bool) → ℕ → List Row → Type 0
IsCloseKept q near bound rows = All (λ (row : Row). dist row.code q < bound → near row ≡ true) rows

pub close_hits : (q : List ℕ) (near : Row → Bool) (radius : ℕ) (rows : List Row) → IsCloseKept q near radius rows
    → filter (λ (h : Hit). nat_lt h.distance radius) (ranked_rows q (filter near rows))
    ≡ filter (λ (h : Hit). nat_lt h.distance radius) (ranked_rows q rows)
close_hits q near radius rows close =
    let p : Hit → Bool = λ h. nat_lt h.distance radius in
    filter-in_order p (map (hit_of q) (filter near rows))
    ∙ ap in_order (filter-map (hit_of q) p (filter near rows)
    ∙ ap (map (hit_of q))
    (filter-filter (λ row. p (hit_of q row)) near rows
    (λ k d h e. close k d h (ltb-true (dist (get_or rows k d).code q) radius e)))
    ∙ sym (filter-map (hit_of q) p rows))
    ∙ sym (filter-in_order p (map (hit_of q) rows))

pub both : (s t : Bool) → (s && t) ≡ true → (s ≡ true) × (t ≡ true)
both true t e = (refl, e)
both false t e = absurd (true≢false (sym e))

-- what `is_full_below` says
pub record IsFullBelow (hs : List Hit) (k bound : ℕ) : Type 0 where
  pub some : 1 ≤ k
  pub full : length hs ≡ k
  pub below : nat_lt (get_or hs (k - 1) no_hit).distance bound ≡ true

at_least_one : (k : ℕ) → nat_le 1 k ≡ true → 1 ≤ k
at_least_one zero e = absurd (true≢false (sym e))
at_least_one (suc k) e = omega arith

pub is_full_below-true : (hs : List Hit) (k bound : ℕ) → is_full_below hs k bound ≡ true → IsFullBelow hs k bound
is_full_below-true hs k bound full =
    let outer = both (nat_le 1 k && nat_eq (length hs) k) (nat_lt (get_or hs (k - 1) no_hit).distance bound) full in
    let inner = both (nat_le 1 k) (nat_eq (length hs) k) outer.0 in
    record { some = at_least_one k inner.0; full = eqb-true (length hs) k inner.1; below = outer.1 }

pub close_first : (q : List ℕ) (near : Row → Bool) (bound k : ℕ) (rows : List Row) → IsCloseKept q near bound rows
    → is_full_below (take k (ranked_rows q (filter near rows))) k bound ≡ true
    → take k (ranked_rows q (filter near rows)) ≡ take k (ranked_rows q rows)
close_first q near bound k rows close full =
    let a = ranked_rows q (filter near rows) in
    let is = is_full_below-true (take k a) k bound full in
    let few : k ≤ length a = omega (arith, is.full, length-take k a) in
    let at : k - 1 < k = omega (arith, is.some) in
    let last : nat_lt (get_or a (k - 1) no_hit).distance bound ≡ true
    = sym (ap (λ (h : Hit). nat_lt h.distance bound) (get_or-take k a (k - 1) no_hit at)) ∙ is.below in
    same_first (λ (h : Hit). nat_lt h.distance bound) k a (ranked_rows q rows) no_hit (below_downward bound)
    (Ascends-in_order (map (hit_of q) (filter near rows))) (Ascends-in_order (map (hit_of q) rows))
    (close_hits q near bound rows close) is.some few last

-- where all pass, the filter keeps all
pub filter-all : {A : Type 0} (p : A → Bool) (xs : List A) → list_all p xs ≡ true → filter p xs ≡ xs
filter-all p [] e = refl
filter-all p (x ∷ xs) e =
    elim (either (p x)) [
      | inl h ↦ rw h (ap (λ l. x ∷ l) (filter-all p xs (rw h at e)))
      | inr h ↦ absurd (true≢false (sym e ∙ rw h refl))
    ]
