-- Lemmas on numbers of a span that are counted.
use Rattle.std.proofs.Common.{◌≡◌, ◌≢◌, ℕ, ◌+◌, ◌-◌, ◌<◌, ◌≤◌, inl, inr, Bool, true, false, cond}
use Rattle.std.proofs.Common.{nat_eq, nat_lt, List, [], ◌∷◌, length, take, get_or, set, refl, sym, ap, ◌∙◌, arith}
use Rattle.std.proofs.Common.{get_or-set_same, get_or-set_other, subst, length-take}
use Rattle.std.specs.List.{All}
use Rattle.std.specs.Ordering.{is_lt, nat_cmp, ord_max}
use Rattle.std.specs.declared.cmp.Ordering.TheVariants.{Less, Equal, Greater}
use Rattle.std.proofs.lemmas.List.Elements.{All-head, All-tail, All-push}
use Rattle.std.proofs.lemmas.List.{take_more}
use Rattle.std.proofs.lemmas.Bool.{ne_eqb, cases_lt, ltb-true, ltb-false}
use Rattle.std.proofs.lemmas.Bool.Decides.{eqb_tells}
use Rattle.flip_walk.specs.Patterns.{times}
use Rattle.code_pool.specs.Lists.{PoolLists, list_at, IsReserved}
use Rattle.row_lists.specs.Room.{HasRoomFor, KeepRoom}
use Rattle.row_lists.proofs.RoomLemmas.{times-le, times-more}

-- the greater of two numbers is no less than either
chosen : (s t : Bool) (a b : ℕ) → (s ≡ true → b < a) → (s ≡ false → a ≤ b)
    → (a ≤ cond (is_lt (cond s Less (cond t Equal Greater))) a b)
    × (b ≤ cond (is_lt (cond s Less (cond t Equal Greater))) a b)
chosen true t a b less least = (omega arith, omega (arith, less refl))
chosen false true a b less least = (omega (arith, least refl), omega arith)
chosen false false a b less least = (omega (arith, least refl), omega arith)

pub most-of : (a b : ℕ) → (a ≤ ord_max nat_cmp a b) × (b ≤ ord_max nat_cmp a b)
most-of a b = chosen (nat_lt b a) (nat_eq b a) a b (ltb-true b a) (ltb-false b a)

-- a number that none of them is
pub times-none : (l : ℕ) (ns : List ℕ) → All (λ n. n ≢ l) ns → times l ns ≡ 0
times-none l [] h = refl
times-none l (n ∷ ns) h =
    let other : nat_eq n l ≡ false = ne_eqb n l (All-head (λ n. n ≢ l) n ns h) in
    omega (
      arith,
      ap (λ (t : Bool). cond {A = ℕ} t 1 0 + times l ns) other,
      times-none l ns (All-tail (λ n. n ≢ l) n ns h),
    )

pub times-below : (numbers : List ℕ) (first : ℕ) → All (λ n. first ≤ n) numbers → (l : ℕ) → l < first
    → times l numbers ≡ 0
times-below numbers first least l h = times-none l numbers (λ i d low e. apart (least i d low) e h)
  where
    apart : {x y z : ℕ} → x ≤ y → y ≡ z → z < x → ⊥
    apart f e g = omega arith

pub times-past : (numbers : List ℕ) (end : ℕ) → All (λ n. n < end) numbers → (l : ℕ) → end ≤ l → times l numbers ≡ 0
times-past numbers end most l h = times-none l numbers (λ i d low e. apart (most i d low) e h)
  where
    apart : {x y z : ℕ} → x < y → x ≡ z → y ≤ z → ⊥
    apart f e g = omega arith

-- a number that occurs is below the end of all
pub occurs-below : (numbers : List ℕ) (end : ℕ) → All (λ n. n < end) numbers → (l : ℕ) → 0 < times l numbers → l < end
occurs-below numbers end most l some =
    elim (cases_lt l end) [ inl low ↦ low | inr high ↦ absurd (omega (arith, some, times-past numbers end most l high)) ]

-- room on the lists of a span that has all numbers
pub room_of_span : (numbers : List ℕ) (end : ℕ) (p : PoolLists) → All (λ n. n < end) numbers
    → ((l : ℕ) → l < end → times l numbers ≤ (list_at p l).spare) → HasRoomFor numbers p
room_of_span numbers end p most room l =
    elim (cases_lt l end) [
      | inl low ↦ room l low
      | inr high ↦ omega (arith, times-past numbers end most l high)
    ]

pub all_more : (P : ℕ → Type 0) (xs : List ℕ) (i : ℕ) → i < length xs → All P (take i xs) → P (get_or xs i 0)
    → All P (take (i + 1) xs)
all_more P xs i h all one = subst (All P) (sym (take_more xs i 0 h)) (All-push P (take i xs) (get_or xs i 0) all one)

pub counted-few : (l : ℕ) (xs : List ℕ) (i : ℕ) → times l (take i xs) ≤ length xs
counted-few l xs i = omega (arith, times-le l (take i xs), length-take i xs)

-- room on the lists before a number, and then on its list
pub room_next : (numbers : List ℕ) (p q : PoolLists) (x n : ℕ) → times x numbers ≤ n
    → ((l : ℕ) → l < x → times l numbers ≤ (list_at p l).spare) → IsReserved p q x n
    → (l : ℕ) → l < x + 1 → times l numbers ≤ (list_at q l).spare
room_next numbers p q x n most room r l low =
    elim (eqb_tells l x) [
      | inl t ↦ omega (
        arith,
        ap (λ (m : ℕ). times m numbers) t.1,
        most,
        r.spare,
        ap (λ (m : ℕ). (list_at q m).spare) t.1,
      )
      | inr t ↦ omega (arith, room l (below l x low t.1), r.others l t.1)
    ]
  where
    below : (l x : ℕ) → l < x + 1 → (l ≡ x → ⊥) → l < x
    below l x h ne = elim (cases_lt l x) [ inl low ↦ low | inr high ↦ absurd (ne (omega arith)) ]

-- the same where the number does not occur
pub room_skipped : (numbers : List ℕ) (p : PoolLists) (x : ℕ) → times x numbers ≡ 0
    → ((l : ℕ) → l < x → times l numbers ≤ (list_at p l).spare)
    → (l : ℕ) → l < x + 1 → times l numbers ≤ (list_at p l).spare
room_skipped numbers p x none room l low =
    elim (cases_lt l x) [
      | inl low ↦ room l low
      | inr high ↦
          let e : l ≡ x = omega arith in
          omega (arith, none, ap (λ (m : ℕ). times m numbers) e)
    ]

pub keep_next : (numbers : List ℕ) (p q r : PoolLists) (x n : ℕ) → 0 < times x numbers → KeepRoom numbers p q
    → IsReserved q r x n → KeepRoom numbers p r
keep_next numbers p q r x n some keep h m none =
    omega (arith, keep m none, h.others m (λ e. omega (arith, some, none, ap (λ (l : ℕ). times l numbers) e)))

-- ---- counts

-- one more number is counted
pub counts-more : (numbers counts : List ℕ) (first i x : ℕ) → i < length numbers → first ≤ get_or numbers i 0
    → get_or numbers i 0 - first < length counts
    → x ≡ get_or counts (get_or numbers i 0 - first) 0 + 1
    → ((at : ℕ) → at < length counts → get_or counts at 0 ≡ times (first + at) (take i numbers))
    → (at : ℕ) → at < length counts
    → get_or (set counts (get_or numbers i 0 - first) x) at 0 ≡ times (first + at) (take (i + 1) numbers)
counts-more numbers counts first i x here least inside is so_far at low =
    let n : ℕ = get_or numbers i 0 in
    let more : times (first + at) (take (i + 1) numbers)
    ≡ times (first + at) (take i numbers) + cond (nat_eq n (first + at)) 1 0 = times-more (first + at) numbers i here in
    elim (eqb_tells n (first + at)) [
      | inl t ↦
          let e : at ≡ n - first = omega (arith, t.1) in
          omega (
            arith,
            more ∙ ap (λ (b : Bool). times (first + at) (take i numbers) + cond {A = ℕ} b 1 0) t.0,
            ap (λ (k : ℕ). get_or (set counts (n - first) x) k 0) e
                ∙ get_or-set_same counts (n - first) x 0 inside,
            is,
            ap (λ (k : ℕ). get_or counts k 0) e,
            so_far at low,
          )
      | inr t ↦ omega (
        arith,
        more ∙ ap (λ (b : Bool). times (first + at) (take i numbers) + cond {A = ℕ} b 1 0) t.0,
        get_or-set_other counts (n - first) at x 0 (λ e. t.1 (omega (arith, e, least))),
        so_far at low,
      )
    ]
