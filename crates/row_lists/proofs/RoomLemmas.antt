-- Lemmas on room for rows that are to be added.
use Rattle.std.proofs.Common.{◌≡◌, ℕ, zero, suc, ◌+◌, ◌-◌, ◌<◌, ◌≤◌, inl, inr, Bool, true, false, cond}
use Rattle.std.proofs.Common.{nat_eq, List, [], ◌∷◌, ◌++◌, length, take, get_or, refl, sym, ap, ◌∙◌, arith}
use Rattle.std.proofs.Common.{get_or-set_same, get_or-set_other}
use Rattle.std.specs.List.{sum_by}
use Rattle.std.specs.List.Sorted.{IsPermutation, IsNonDecreasing}
use Rattle.std.proofs.lemmas.List.{take_more}
use Rattle.std.proofs.lemmas.List.Sums.{sum_by-cons}
use Rattle.std.proofs.lemmas.List.Sorted.{sum_by-IsPermutation}
use Rattle.std.proofs.lemmas.Bool.{ne_eqb, eq-eqb, cases_lt}
use Rattle.std.proofs.lemmas.Bool.Decides.{eqb_tells}
use Rattle.flip_walk.specs.Patterns.{times}
use Rattle.flip_walk.proofs.OnceLemmas.{times-append}
use Rattle.code_pool.specs.Lists.{PoolLists, PoolList, list_at, with_list, no_list, IsReserved}
use Rattle.row_lists.specs.Room.{SameRows, HasRoomFor, KeepRoom}

times_step : (t : Bool) (m n : ℕ) → m ≤ n → cond {A = ℕ} t 1 0 + m ≤ suc n
times_step true m n h = omega arith
times_step false m n h = omega arith

pub times-le : (l : ℕ) (xs : List ℕ) → times l xs ≤ length xs
times-le l [] = omega arith
times-le l (x ∷ xs) = times_step (nat_eq x l) (times l xs) (length xs) (times-le l xs)

pub times-push : (l m : ℕ) (xs : List ℕ) → times l (xs ++ m ∷ []) ≡ times l xs + cond (nat_eq m l) 1 0
times-push l m xs = omega (arith, times-append l xs (m ∷ []))

-- one more of the numbers
pub times-more : (l : ℕ) (xs : List ℕ) (i : ℕ) → i < length xs
    → times l (take (i + 1) xs) ≡ times l (take i xs) + cond (nat_eq (get_or xs i 0) l) 1 0
times-more l xs i h = ap (times l) (take_more xs i 0 h) ∙ times-push l (get_or xs i 0) (take i xs)

times-sum : (l : ℕ) (xs : List ℕ) → times l xs ≡ sum_by (λ x. cond (nat_eq x l) 1 0) xs
times-sum l [] = refl
times-sum l (x ∷ xs) = ap (λ n. cond {A = ℕ} (nat_eq x l) 1 0 + n) (times-sum l xs)
    ∙ sym (sum_by-cons (λ x. cond (nat_eq x l) 1 0) x xs)

pub times-permutation : (l : ℕ) (xs ys : List ℕ) → IsPermutation xs ys → times l ys ≡ times l xs
times-permutation l xs ys p = times-sum l ys ∙ sum_by-IsPermutation (λ x. cond (nat_eq x l) 1 0) xs ys p
    ∙ sym (times-sum l xs)

-- the order of the numbers does not matter
pub room_permuted : (xs ys : List ℕ) (p : PoolLists) → IsPermutation xs ys → HasRoomFor ys p → HasRoomFor xs p
room_permuted xs ys p same room l = omega (arith, room l, times-permutation l xs ys same)

pub keep_permuted : (xs ys : List ℕ) (p q : PoolLists) → IsPermutation xs ys → KeepRoom ys p q → KeepRoom xs p q
keep_permuted xs ys p q same keep l none = keep l (times-permutation l xs ys same ∙ none)

-- one list in place of another
pub at_same : (p : PoolLists) (l : ℕ) (x : PoolList) → l < length p.lists → list_at (with_list p l x) l ≡ x
at_same p l x h = get_or-set_same p.lists l x no_list h

pub at_other : (p : PoolLists) (l m : ℕ) (x : PoolList) → (m ≡ l → ⊥) → list_at (with_list p l x) m ≡ list_at p m
at_other p l m x h = get_or-set_other p.lists l m x no_list h

-- ---- room for numbers in order

pub same_none : (p : PoolLists) → SameRows p p
same_none p = record { size = refl; lists = refl; rows = λ l. refl }

pub same_reserved : (p q r : PoolLists) (l n : ℕ) → SameRows p q → IsReserved q r l n → SameRows p r
same_reserved p q r l n s h = record {
  size = h.code_size ∙ s.size;
  lists = h.lists ∙ s.lists;
  rows = λ m. h.rows m
      ∙ s.rows m;
}

-- a number that stands at a place is there
pub times-here : (xs : List ℕ) (i : ℕ) → i < length xs → 1 ≤ times (get_or xs i 0) xs
times-here [] i h = absurd (omega arith)
times-here (x ∷ xs) zero h = omega (arith, ap (λ (t : Bool). cond {A = ℕ} t 1 0 + times x xs) (eq-eqb x x refl))
times-here (x ∷ xs) (suc i) h = omega (arith, times-here xs i (omega arith))

pub keep_reserved : (numbers : List ℕ) (p q r : PoolLists) (at n : ℕ) → at < length numbers → KeepRoom numbers p q
    → IsReserved q r (get_or numbers at 0) n → KeepRoom numbers p r
keep_reserved numbers p q r at n here keep h m none =
    omega (arith, keep m none, h.others m (λ e. clash m none e))
  where
    clash : (m : ℕ) → times m numbers ≡ 0 → m ≡ get_or numbers at 0 → ⊥
    clash m none e = omega (arith, none, times-here numbers at here, ap (λ (x : ℕ). times x numbers) e)

-- what stands before a place where the numbers before are less
pub times-fresh : (x : ℕ) (xs : List ℕ) (at : ℕ) → at ≤ length xs → ((j : ℕ) → j < at → get_or xs j 0 < x)
    → times x (take at xs) ≡ 0
times-fresh x xs zero h less = refl
times-fresh x xs (suc at) h less =
    let one : suc at ≡ at + 1 = omega arith in
    let other : nat_eq (get_or xs at 0) x ≡ false = ne_eqb (get_or xs at 0) x (λ e. above e (less at (omega arith))) in
    ap (λ n. times x (take n xs)) one
    ∙ omega (
      arith,
      times-more x xs at (omega arith)
          ∙ ap (λ (t : Bool). times x (take at xs) + cond {A = ℕ} t 1 0) other,
      times-fresh x xs at (omega arith) (λ j l. less j (omega arith)),
    )
  where
    above : {m n : ℕ} → m ≡ n → m < n → ⊥
    above e h = omega arith

-- n equal numbers more
pub times-run : (l x : ℕ) (xs : List ℕ) (at n : ℕ) → at + n ≤ length xs → ((k : ℕ) → k < n → get_or xs (at + k) 0 ≡ x)
    → times l (take (at + n) xs) ≡ times l (take at xs) + cond (nat_eq x l) n 0
times-run l x xs at zero h same =
    let stay : at + zero ≡ at = omega arith in
    let same_count : times l (take (at + zero) xs) ≡ times l (take at xs) = ap (λ m. times l (take m xs)) stay in
    omega (arith, same_count, none (nat_eq x l))
  where
    none : (t : Bool) → cond {A = ℕ} t 0 0 ≡ 0
    none true = refl
    none false = refl
times-run l x xs at (suc n) h same =
    let one : at + suc n ≡ (at + n) + 1 = omega arith in
    ap (λ m. times l (take m xs)) one
    ∙ times-more l xs (at + n) (omega arith)
    ∙ ap (λ m. times l (take (at + n) xs) + cond {A = ℕ} (nat_eq m l) 1 0) (same n (omega arith))
    ∙ ap (λ m. m + cond {A = ℕ} (nat_eq x l) 1 0) (times-run l x xs at n (omega arith) (λ k low. same k (omega arith)))
    ∙ joined (nat_eq x l) (times l (take at xs)) n
  where
    joined : (t : Bool) (m n : ℕ) → m + cond {A = ℕ} t n 0 + cond {A = ℕ} t 1 0 ≡ m + cond {A = ℕ} t (suc n) 0
    joined true m n = omega arith
    joined false m n = omega arith

-- room for the numbers up to the end of a run
pub room_reserved : (p q : PoolLists) (xs : List ℕ) (at n : ℕ) → at + n ≤ length xs
    → ((k : ℕ) → k < n → get_or xs (at + k) 0 ≡ get_or xs at 0) → ((j : ℕ) → j < at → get_or xs j 0 < get_or xs at 0)
    → HasRoomFor (take at xs) p → IsReserved p q (get_or xs at 0) n → HasRoomFor (take (at + n) xs) q
room_reserved p q xs at n h same fresh room r l =
    let x : ℕ = get_or xs at 0 in
    elim (eqb_tells x l) [
      | inl t ↦ omega (
        arith,
        times-run l x xs at n h same ∙ ap (λ (b : Bool). times l (take at xs) + cond {A = ℕ} b n 0) t.0,
        ap (λ m. times m (take at xs)) (sym t.1) ∙ times-fresh x xs at (omega arith) fresh,
        r.spare,
        ap (λ m. (list_at q m).spare) t.1,
      )
      | inr t ↦ omega (
        arith,
        times-run l x xs at n h same ∙ ap (λ (b : Bool). times l (take at xs) + cond {A = ℕ} b n 0) t.0,
        room l,
        r.others l (λ e. t.1 (sym e)),
      )
    ]

-- the numbers before the end of a run are less than the one there
pub fresh_more : (xs : List ℕ) (at end : ℕ) → IsNonDecreasing xs → at < end → end < length xs
    → ((k : ℕ) → at ≤ k → k < end → get_or xs k 0 ≡ get_or xs at 0) → (get_or xs end 0 ≡ get_or xs at 0 → ⊥)
    → (j : ℕ) → j < end → get_or xs j 0 < get_or xs end 0
fresh_more xs at end sorted more inside same ne j low =
    let last : ℕ = end - 1 in
    let up_to : get_or xs j 0 ≤ get_or xs last 0 = sorted j last 0 (omega arith) (omega arith) in
    let next : get_or xs last 0 ≤ get_or xs end 0 = sorted last end 0 (omega arith) inside in
    let is : get_or xs last 0 ≡ get_or xs at 0 = same last (omega arith) (omega arith) in
    below (get_or xs j 0) (get_or xs at 0) (get_or xs end 0) (omega arith) (omega arith) (λ e. ne e)
  where
    below : (a b c : ℕ) → a ≤ b → b ≤ c → (c ≡ b → ⊥) → a < c
    below a b c h k ne = elim (cases_lt b c) [ inl l ↦ omega arith | inr l ↦ absurd (ne (omega arith)) ]
