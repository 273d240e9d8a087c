-- Lemmas on labels that are the numbers below their count, each once.
use Rattle.std.proofs.Common.{◌≡◌, ℕ, zero, suc, ◌+◌, ◌-◌, ◌<◌, ◌≤◌, ◌⊎◌, inl, inr, Bool, true, false, cond, ℤ, pos}
use Rattle.std.proofs.Common.{nat_abs, List, [], ◌∷◌, ◌++◌, length, refl, sym, ap, ◌∙◌, arith, length-append}
use Rattle.std.proofs.Common.{true≢false}
use Rattle.std.specs.List.{count_by}
use Rattle.std.specs.Ordering.{int_eq}
use Rattle.std.proofs.lemmas.Bool.{cases_lt}
use Rattle.std.proofs.lemmas.Bool.Decides.{Decides-int_eq}
use Rattle.std.proofs.lemmas.List.Sums.{sum_by-cons, sum_by-append}
use Rattle.bcodes.specs.Value.{IsNumbering, labels_from}
use Rattle.bcodes.proofs.OrderLemmas.{either}
use Rattle.bcodes.proofs.NumberedLemmas.{length-labels_from}

pub int_eq_cases : (a x : ℤ) → ((int_eq a x ≡ true) × (a ≡ x)) ⊎ ((int_eq a x ≡ false) × (a ≡ x → ⊥))
int_eq_cases a x =
    elim (either (int_eq a x)) [
      | inl e ↦ inl (e, (Decides-int_eq a x).0 e)
      | inr e ↦ inr (e, λ same. true≢false (sym ((Decides-int_eq a x).1 same) ∙ e))
    ]

-- how often a label stands in a list
abbrev pub labelled : ℤ → List ℤ → ℕ
labelled a ls = count_by (int_eq a) ls

-- 1 where it is the label
abbrev pub is_here : ℤ → ℤ → ℕ
is_here a x = cond (int_eq a x) 1 0

pub labelled-cons : (a x : ℤ) (ls : List ℤ) → labelled a (x ∷ ls) ≡ is_here a x + labelled a ls
labelled-cons a x ls = sum_by-cons (λ y. cond {A = ℕ} (int_eq a y) 1 0) x ls

pub labelled-append : (a : ℤ) (ls ms : List ℤ) → labelled a (ls ++ ms) ≡ labelled a ls + labelled a ms
labelled-append a ls ms = sum_by-append (λ y. cond {A = ℕ} (int_eq a y) 1 0) ls ms

pub here : (a x : ℤ) → a ≡ x → is_here a x ≡ 1
here a x e = ap (λ (t : Bool). cond {A = ℕ} t 1 0) ((Decides-int_eq a x).1 e)

pub not_here : (a x : ℤ) → (a ≡ x → ⊥) → is_here a x ≡ 0
not_here a x ne = elim (int_eq_cases a x) [ inl h ↦ absurd (ne h.1) | inr h ↦ ap (λ (t : Bool). cond {A = ℕ} t 1 0) h.0 ]

-- over the labels below c
total : ℕ → List ℤ → ℕ
total zero ls = 0
total (suc c) ls = total c ls + labelled (pos c) ls

tally : ℕ → ℤ → ℕ
tally zero x = 0
tally (suc c) x = tally c x + is_here (pos c) x

total-nil : (c : ℕ) → total c [] ≡ 0
unfolding total
total-nil zero = refl
total-nil (suc c) = omega (arith, total-nil c)

total-cons : (c : ℕ) (x : ℤ) (ls : List ℤ) → total c (x ∷ ls) ≡ tally c x + total c ls
unfolding total tally
total-cons zero x ls = refl
total-cons (suc c) x ls = omega (arith, total-cons c x ls, labelled-cons (pos c) x ls)

tally_none : (c : ℕ) (x : ℤ) → ((m : ℕ) → m < c → pos m ≡ x → ⊥) → tally c x ≡ 0
unfolding tally
tally_none zero x h = refl
tally_none (suc c) x h = omega (
  arith,
  tally_none c x (λ m low. h m (omega arith)),
  not_here (pos c) x (h c (omega arith)),
)

pos_same : (m n : ℕ) → pos m ≡ pos n → m ≡ n
pos_same m n e = ap nat_abs e

clash : (m n : ℕ) → m < n → pos m ≡ pos n → ⊥
clash m n low e = let same : m ≡ n = pos_same m n e in omega arith

tally_most : (c : ℕ) (x : ℤ) → tally c x ≤ 1
unfolding tally
tally_most zero x = omega arith
tally_most (suc c) x =
    elim (int_eq_cases (pos c) x) [
      | inl h ↦ omega (arith, here (pos c) x h.1, ap (tally c) h.1, tally_none c (pos c) (λ m low. clash m c low))
      | inr h ↦ omega (arith, not_here (pos c) x h.1, tally_most c x)
    ]

tally_with : (c : ℕ) (a x : ℤ) → ((m : ℕ) → m < c → pos m ≡ a → ⊥) → tally c x + is_here a x ≤ 1
tally_with c a x other =
    elim (int_eq_cases a x) [
      | inl h ↦ omega (arith, here a x h.1, ap (tally c) h.1, tally_none c a other)
      | inr h ↦ omega (arith, not_here a x h.1, tally_most c x)
    ]

total_with : (c : ℕ) (a : ℤ) (ls : List ℤ) → ((m : ℕ) → m < c → pos m ≡ a → ⊥) → total c ls + labelled a ls ≤ length ls
total_with c a [] other = omega (arith, total-nil c)
total_with c a (x ∷ ls) other = omega (
  arith,
  total-cons c x ls,
  labelled-cons a x ls,
  tally_with c a x other,
  total_with c a ls other,
)

total_all : (c : ℕ) (ls : List ℤ) → ((m : ℕ) → m < c → 1 ≤ labelled (pos m) ls) → c ≤ total c ls
unfolding total
total_all zero ls h = omega arith
total_all (suc c) ls h = omega (arith, total_all c ls (λ m low. h m (omega arith)), h c (omega arith))

-- where each number below the count stands, no other label does
pub no_others : (ls : List ℤ) (a : ℤ) → ((m : ℕ) → m < length ls → 1 ≤ labelled (pos m) ls)
    → ((m : ℕ) → m < length ls → pos m ≡ a → ⊥) → labelled a ls ≡ 0
no_others ls a each other = omega (arith, total_with (length ls) a ls other, total_all (length ls) ls each)

total_bound : (c : ℕ) (ls : List ℤ) → total c ls ≤ length ls
total_bound c [] = omega (arith, total-nil c)
total_bound c (x ∷ ls) = omega (arith, total-cons c x ls, tally_most c x, total_bound c ls)

-- the others stand once at least
total_rest : (c k : ℕ) (ls : List ℤ) → k < c → ((m : ℕ) → m < c → 1 ≤ labelled (pos m) ls)
    → (c - 1) + labelled (pos k) ls ≤ total c ls
unfolding total
total_rest zero k ls h each = absurd (omega arith)
total_rest (suc c) k ls h each =
    elim (cases_lt k c) [
      | inl low ↦ omega (arith, total_rest c k ls low (λ m l. each m (omega arith)), each c (omega arith))
      | inr high ↦ let e : k ≡ c = omega arith in rw e (omega (arith, total_all c ls (λ m l. each m (omega arith))))
    ]

-- so each number stands once
pub each_once : (ls : List ℤ) → ((m : ℕ) → m < length ls → 1 ≤ labelled (pos m) ls) → IsNumbering ls
each_once ls each n low = omega (arith, total_rest (length ls) n ls low each, total_bound (length ls) ls, each n low)

pub once_least : (ls : List ℤ) → IsNumbering ls → (m : ℕ) → m < length ls → 1 ≤ labelled (pos m) ls
once_least ls h m low = omega (arith, h m low)

-- ---- labels that count on

labels_below : (m i n : ℕ) → m < i → labelled (pos m) (labels_from i n) ≡ 0
labels_below m i zero h = refl
labels_below m i (suc n) h =
    omega (
      arith,
      labelled-cons (pos m) (pos i) (labels_from (i + 1) n),
      not_here (pos m) (pos i) (clash m i h),
      labels_below m (i + 1) n (omega arith),
    )

labels_within : (m i n : ℕ) → i ≤ m → m < i + n → labelled (pos m) (labels_from i n) ≡ 1
labels_within m i zero least most = absurd (omega arith)
labels_within m i (suc n) least most =
    elim (cases_lt i m) [
      | inl low ↦ omega (
        arith,
        labelled-cons (pos m) (pos i) (labels_from (i + 1) n),
        not_here (pos m) (pos i) (λ e. clash i m low (sym e)),
        labels_within m (i + 1) n (omega arith) (omega arith),
      )
      | inr high ↦
          let e : m ≡ i = omega arith in
          omega (
            arith,
            labelled-cons (pos m) (pos i) (labels_from (i + 1) n),
            here (pos m) (pos i) (ap pos e),
            labels_below m (i + 1) n (omega arith),
          )
    ]

pub numbering_grown : (ls : List ℤ) (n : ℕ) → IsNumbering ls → IsNumbering (ls ++ labels_from (length ls) n)
numbering_grown ls n h m low =
    let long : length (ls ++ labels_from (length ls) n) ≡ length ls + n = length-append ls (labels_from (length ls) n)
    ∙ ap (λ k. length ls + k) (length-labels_from (length ls) n) in
    elim (cases_lt m (length ls)) [
      | inl old ↦ labelled-append (pos m) ls (labels_from (length ls) n)
          ∙ omega (arith, h m old, labels_below m (length ls) n old)
      | inr new ↦ labelled-append (pos m) ls (labels_from (length ls) n)
          ∙ omega (
            arith,
            no_others ls (pos m) (once_least ls h) (λ k l. clash k m (omega arith)),
            labels_within m (length ls) n new (omega (arith, low, long)),
          )
    ]
