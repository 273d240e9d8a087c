-- Lemmas on maps of one bucket, and on powers of two.
use Rattle.std.proofs.Common.{◌≡◌, ◌≢◌, ℕ, zero, suc, ◌+◌, ◌-◌, ◌*◌, ◌/◌, ◌%◌, ◌<◌, ◌≤◌, ◌^◌, ◌⊎◌, inl, inr, Bool, true, false}
use Rattle.std.proofs.Common.{cond, not, nat_eq, List, [], ◌∷◌, length, map, get_or, Option, Some, None, refl, sym, ap, ◌∙◌}
use Rattle.std.proofs.Common.{subst, arith, bit_xor, find, ◌||◌, true≢false}
use Rattle.std.specs.Int.RustNames.{count_ones}
use Rattle.std.specs.Int.Bits.{xor_assoc, xor_self, xor_zero_l}
use Rattle.std.specs.Int.Count.{ones_step}
use Rattle.std.specs.List.{All, filter, list_all, list_any, range_with_len}
use Rattle.std.proofs.Math.Nat.{two-pow-succ}
use Rattle.std.proofs.lemmas.Nat.{zero_from_ones, xor_comm}
use Rattle.std.proofs.lemmas.List.Sums.{AllPass-from_list_all, list_all-from_AllPass}
use Rattle.std.proofs.lemmas.Bool.{ne_eqb, eq-eqb, eqb-true}
use Rattle.std.proofs.lemmas.Bool.Decides.{eqb_tells}
use Rattle.std.proofs.lemmas.List.Elements.{All-nil, All-cons, All-head, All-tail, All-filter, All-weaker}
use Rattle.bcodes.specs.Bits.{key, differing, dist_between}
use Rattle.bcodes.specs.Value.{MultiValue}
use Rattle.bcodes.proofs.PigeonholeLemmas.{chunk_is}
use Rattle.bcodes.proofs.OrderLemmas.{either}
use Rattle.key_buckets.specs.Keys.{firsts, key_in}
use Rattle.key_buckets.proofs.XorLemmas.{ones-key_xor}
use Rattle.flip_walk.proofs.OnesLemmas.{ones-zero}
use Rattle.multi_hash.specs.Wide.{is_alike, is_power, is_wide_map}

-- ---- codes that agree in the bits of a map

equal_from_xor : (a b : ℕ) → bit_xor a b ≡ 0 → a ≡ b
equal_from_xor a b e =
    sym (xor_zero_l a) ∙ xor_comm 0 a ∙ ap (bit_xor a) (sym (xor_self b)) ∙ sym (xor_assoc a b b)
    ∙ ap (λ (n : ℕ). bit_xor n b) e ∙ xor_zero_l b

pub alike_is : (v : MultiValue) (i : ℕ) (x y : List ℕ) → is_alike v i x y ≡ nat_eq (key_in i v.b x) (key_in i v.b y)
alike_is v i x y =
    let kx : ℕ = key_in i v.b x in
    let ky : ℕ = key_in i v.b y in
    let ones : count_ones (bit_xor kx ky) ≡ dist_between x y (i * v.b) (i * v.b + v.b)
    = ones-key_xor x y (i * v.b) v.b ∙ sym (chunk_is x y i v.b) in
    elim (eqb_tells kx ky) [
      | inl t ↦ eq-eqb (dist_between x y (i * v.b) (i * v.b + v.b)) 0
          (sym ones ∙ ap (λ (k : ℕ). count_ones (bit_xor k ky)) t.1 ∙ ap count_ones (xor_self ky) ∙ ones-zero) ∙ sym t.0
      | inr t ↦ ne_eqb (dist_between x y (i * v.b) (i * v.b + v.b)) 0
          (λ e. t.1 (equal_from_xor kx ky (zero_from_ones (bit_xor kx ky) (ones ∙ e)))) ∙ sym t.0
    ]

-- ---- one key alone

others_back : (k : ℕ) (js : List ℕ) → All (λ j. j ≡ k) (filter (λ j. not (nat_eq j k)) js) → All (λ j. j ≡ k) js
others_back k [] h = All-nil (λ j. j ≡ k)
others_back k (j ∷ js) h =
    elim (eqb_tells j k) [
      | inl t ↦ All-cons (λ j. j ≡ k) j js t.1 (others_back k js
          (subst (λ (b : Bool). All (λ j. j ≡ k) (cond (not b) (j ∷ filter (λ j. not (nat_eq j k)) js)
          (filter (λ j. not (nat_eq j k)) js))) t.0 h))
      | inr t ↦
          let kept : All (λ j. j ≡ k) (j ∷ filter (λ j. not (nat_eq j k)) js)
          = subst (λ (b : Bool). All (λ j. j ≡ k) (cond (not b) (j ∷ filter (λ j. not (nat_eq j k)) js)
          (filter (λ j. not (nat_eq j k)) js))) t.0 h in
          absurd (t.1 (All-head (λ j. j ≡ k) j (filter (λ j. not (nat_eq j k)) js) kept))
    ]

firsts_back : (k : ℕ) (js : List ℕ) → All (λ j. j ≡ k) (firsts js) → All (λ j. j ≡ k) js
firsts_back k [] h = All-nil (λ j. j ≡ k)
firsts_back k (j ∷ js) h =
    let rest : List ℕ = filter (λ i. not (nat_eq i j)) (firsts js) in
    let here : j ≡ k = All-head (λ j. j ≡ k) j rest h in
    All-cons (λ j. j ≡ k) j js here (firsts_back k js (subst (λ (n : ℕ). All (λ i. i ≡ n) (firsts js)) here
    (others_back j (firsts js) (subst (λ (n : ℕ). All (λ i. i ≡ n) rest) (sym here) (All-tail (λ j. j ≡ k) j rest h)))))

firsts_all : (k : ℕ) (js : List ℕ) → All (λ j. j ≡ k) js → All (λ j. j ≡ k) (firsts js)
firsts_all k [] h = All-nil (λ j. j ≡ k)
firsts_all k (j ∷ js) h =
    All-cons (λ j. j ≡ k) j (filter (λ i. not (nat_eq i j)) (firsts js)) (All-head (λ j. j ≡ k) j js h)
    (All-filter (λ i. not (nat_eq i j)) (λ j. j ≡ k) (firsts js) (firsts_all k js (All-tail (λ j. j ≡ k) j js h)))

no_others : (k : ℕ) (js : List ℕ) → All (λ j. j ≡ k) js → filter (λ j. not (nat_eq j k)) js ≡ []
no_others k [] h = refl
no_others k (j ∷ js) h =
    let rest : List ℕ = filter (λ j. not (nat_eq j k)) js in
    ap (λ (t : Bool). cond (not t) (j ∷ rest) rest) (eq-eqb j k (All-head (λ j. j ≡ k) j js h))
    ∙ no_others k js (All-tail (λ j. j ≡ k) j js h)

none_left : (js : List ℕ) → length js ≡ 0 → js ≡ []
none_left [] h = refl
none_left (j ∷ js) h = absurd (omega arith)

pub one_key : (k : ℕ) (js : List ℕ) → length (firsts (k ∷ js)) ≡ 1 → All (λ j. j ≡ k) js
one_key k js h =
    let none : filter (λ j. not (nat_eq j k)) (firsts js) ≡ [] = none_left _ (omega arith) in
    firsts_back k js (others_back k (firsts js) (subst (All (λ j. j ≡ k)) (sym none) (All-nil (λ j. j ≡ k))))

pub same_keys : (k : ℕ) (js : List ℕ) → All (λ j. j ≡ k) js → length (firsts (k ∷ js)) ≡ 1
same_keys k js h = ap suc (ap length (no_others k (firsts js) (firsts_all k js h)))

-- ---- all codes in one bucket

All-mapped : (f : List ℕ → ℕ) (k : ℕ) (cs : List (List ℕ)) → All (λ j. j ≡ k) (map f cs) → All (λ c. f c ≡ k) cs
All-mapped f k [] h = All-nil (λ c. f c ≡ k)
All-mapped f k (c ∷ cs) h =
    All-cons (λ c. f c ≡ k) c cs (All-head (λ j. j ≡ k) (f c) (map f cs) h)
    (All-mapped f k cs (All-tail (λ j. j ≡ k) (f c) (map f cs) h))

All-map : (f : List ℕ → ℕ) (k : ℕ) (cs : List (List ℕ)) → All (λ c. f c ≡ k) cs → All (λ j. j ≡ k) (map f cs)
All-map f k [] h = All-nil (λ j. j ≡ k)
All-map f k (c ∷ cs) h =
    All-cons (λ j. j ≡ k) (f c) (map f cs) (All-head (λ c. f c ≡ k) c cs h)
    (All-map f k cs (All-tail (λ c. f c ≡ k) c cs h))

module _ (v : MultiValue) (i : ℕ) (c : List ℕ) (cs : List (List ℕ)) (are : v.codes ≡ c ∷ cs) where
  abbrev key_of : List ℕ → ℕ
  key_of x = key_in i v.b x

  wide_from_one : length (firsts (map key_of v.codes)) ≡ 1 → is_wide_map v i ≡ true
  wide_from_one one =
      let same : All (λ x. key_of x ≡ key_of c) (c ∷ cs) = All-cons (λ x. key_of x ≡ key_of c) c cs refl
      (All-mapped key_of (key_of c) cs (one_key (key_of c) (map key_of cs)
      (ap (λ (xs : List (List ℕ)). length (firsts (map key_of xs))) (sym are) ∙ one))) in
      let all : All (λ x. key_of x ≡ key_of c) v.codes = subst (All (λ x. key_of x ≡ key_of c)) (sym are) same in
      list_all-from_AllPass (λ x. list_all (is_alike v i x) v.codes) v.codes (λ j d low.
      list_all-from_AllPass (is_alike v i (get_or v.codes j d)) v.codes (λ k e less.
      alike_is v i (get_or v.codes j d) (get_or v.codes k e)
      ∙ eq-eqb (key_of (get_or v.codes j d)) (key_of (get_or v.codes k e)) (all j d low ∙ sym (all k e less))))

  alike_keys : (y : List ℕ) → is_alike v i c y ≡ true → key_of y ≡ key_of c
  alike_keys y e = sym (eqb-true (key_of c) (key_of y) (sym (alike_is v i c y) ∙ e))

  one_from_wide : is_wide_map v i ≡ true → length (firsts (map key_of v.codes)) ≡ 1
  one_from_wide e =
      let first : list_all (is_alike v i c) v.codes ≡ true
      = All-head (λ x. list_all (is_alike v i x) v.codes ≡ true) c cs
      (subst (All (λ x. list_all (is_alike v i x) v.codes ≡ true)) are
      (AllPass-from_list_all (λ x. list_all (is_alike v i x) v.codes) v.codes e)) in
      let alike : All (λ y. is_alike v i c y ≡ true) (c ∷ cs) = subst (All (λ y. is_alike v i c y ≡ true)) are
      (AllPass-from_list_all (is_alike v i c) v.codes first) in
      let same : All (λ y. key_of y ≡ key_of c) cs = All-weaker (λ y. is_alike v i c y ≡ true)
      (λ y. key_of y ≡ key_of c) (λ y t. alike_keys y t) cs (All-tail (λ y. is_alike v i c y ≡ true) c cs alike) in
      ap (λ (xs : List (List ℕ)). length (firsts (map key_of xs))) are
      ∙ same_keys (key_of c) (map key_of cs) (All-map key_of (key_of c) cs same)

  pub one_is_wide : nat_eq (length (firsts (map key_of v.codes))) 1 ≡ is_wide_map v i
  one_is_wide =
      elim (eqb_tells (length (firsts (map key_of v.codes))) 1) [
        | inl t ↦ t.0 ∙ sym (wide_from_one t.1)
        | inr t ↦ t.0 ∙ sym (elim (either (is_wide_map v i)) [
          | inl e ↦ absurd (t.1 (one_from_wide e))
          | inr e ↦ e
        ])
      ]

-- the first number of a range that passes
pub find_agree : (p q : ℕ → Bool) (a n : ℕ) → ((i : ℕ) → a ≤ i → i < a + n → p i ≡ q i)
    → find p (range_with_len a n) ≡ find q (range_with_len a n)
find_agree p q a zero h = refl
find_agree p q a (suc n) h =
    ap (λ (t : Bool). cond t (Some a) (find p (range_with_len (a + 1) n))) (h a (omega arith) (omega arith))
    ∙ ap (λ (o : Option ℕ). cond (q a) (Some a) o)
    (find_agree p q (a + 1) n (λ i l m. h i (omega arith) (omega arith)))

-- ---- powers of two

odd_step : (n m r : ℕ) → n ≡ 2 * m + 1 → n ≢ 2 * r
odd_step n m r e f = omega arith

no_power : (n m a w : ℕ) → n ≡ 2 * m + 1 → list_any (λ k. nat_eq n (2 ^ k)) (range_with_len (a + 1) w) ≡ false
no_power n m a zero e = refl
no_power n m a (suc w) e =
    let up : a + 1 ≡ suc a = omega arith in
    let twice : 2 ^ (a + 1) ≡ 2 * 2 ^ a = ap (λ k. 2 ^ k) up ∙ two-pow-succ a ∙ omega arith in
    let next : (a + 1) + 1 ≡ suc (a + 1) = omega arith in
    ap (λ (t : Bool). t || list_any (λ k. nat_eq n (2 ^ k)) (range_with_len (a + 1 + 1) w))
    (ne_eqb n (2 ^ (a + 1)) (λ f. odd_step n m (2 ^ a) e (f ∙ twice)))
    ∙ no_power n m (a + 1) w e

half_eq : (n m r s : ℕ) → n ≡ 2 * m → s ≡ 2 * r → nat_eq n s ≡ nat_eq m r
half_eq n m r s e f =
    elim (eqb_tells m r) [
      | inl t ↦ eq-eqb n s (omega (arith, e, f, t.1)) ∙ sym t.0
      | inr t ↦ ne_eqb n s (λ g. t.1 (omega (arith, e, f, g))) ∙ sym t.0
    ]

half_powers : (n m a w : ℕ) → n ≡ 2 * m
    → list_any (λ k. nat_eq n (2 ^ k)) (range_with_len (a + 1) w) ≡ list_any (λ k. nat_eq m (2 ^ k)) (range_with_len a w)
half_powers n m a zero e = refl
half_powers n m a (suc w) e =
    let up : a + 1 ≡ suc a = omega arith in
    let twice : 2 ^ (a + 1) ≡ 2 * 2 ^ a = ap (λ k. 2 ^ k) up ∙ two-pow-succ a ∙ omega arith in
    ap (λ (t : Bool). t || list_any (λ k. nat_eq n (2 ^ k)) (range_with_len (a + 1 + 1) w))
    (half_eq n m (2 ^ a) (2 ^ (a + 1)) e twice)
    ∙ ap (λ (t : Bool). nat_eq m (2 ^ a) || t) (half_powers n m (a + 1) w e)

parity : (r : ℕ) → r < 2 → (r ≡ 0) ⊎ (r ≡ 1)
parity zero h = inl refl
parity (suc zero) h = inr refl
parity (suc (suc r)) h = absurd (omega arith)

-- one bit is set exactly where the number is a power of two
pub ones_power : (w n : ℕ) → n < 2 ^ w
    → nat_eq (count_ones n) 1 ≡ list_any (λ k. nat_eq n (2 ^ k)) (range_with_len 0 w)
ones_power zero n h =
    let none : n ≡ 0 = omega arith in
    ap (λ (m : ℕ). nat_eq (count_ones m) 1) none ∙ ap (λ (m : ℕ). nat_eq m 1) ones-zero
ones_power (suc w) n h =
    let m : ℕ = n / 2 in
    let split : n ≡ 2 * m + n % 2 = omega arith in
    let less : m < 2 ^ w = omega (arith, two-pow-succ w, h) in
    elim (parity (n % 2) (omega arith)) [
      | inl even ↦
          let half : n ≡ 2 * m = omega (arith, split, even) in
          let not_one : n ≢ 1 = λ e. omega (arith, half, e) in
          ap (λ (k : ℕ). nat_eq k 1) (ones_step n ∙ ap (λ (r : ℕ). r + count_ones m) even ∙ zero_add_ones (count_ones m))
          ∙ ones_power w m less
          ∙ sym (ap (λ (t : Bool). t || list_any (λ k. nat_eq n (2 ^ k)) (range_with_len (0 + 1) w))
          (ne_eqb n 1 not_one) ∙ half_powers n m 0 w half)
      | inr odd ↦
          let half : n ≡ 2 * m + 1 = omega (arith, split, odd) in
          let count : count_ones n ≡ 1 + count_ones m = ones_step n ∙ ap (λ (r : ℕ). r + count_ones m) odd in
          ap (λ (k : ℕ). nat_eq k 1) count
          ∙ one_more (count_ones m) n (λ z. omega (arith, half, zero_from_ones m z))
          (λ e. ap count_ones (zero_half n m half e) ∙ ones-zero)
          ∙ sym (ap (λ (t : Bool). nat_eq n 1 || t) (no_power n m 0 w half) ∙ or_false (nat_eq n 1))
    ]
  where
    zero_add_ones : (k : ℕ) → 0 + k ≡ k
    zero_add_ones k = omega arith

    or_false : (t : Bool) → (t || false) ≡ t
    or_false true = refl
    or_false false = refl

    zero_half : (n m : ℕ) → n ≡ 2 * m + 1 → n ≡ 1 → m ≡ 0
    zero_half n m e f = omega arith

    one_more : (k n : ℕ) → (k ≡ 0 → n ≡ 1) → (n ≡ 1 → k ≡ 0) → nat_eq (1 + k) 1 ≡ nat_eq n 1
    one_more k n f g =
        elim (eqb_tells n 1) [
          | inl t ↦ let z = g t.1 in eq-eqb (1 + k) 1 (omega arith) ∙ sym t.0
          | inr t ↦ ne_eqb (1 + k) 1 (λ e. t.1 (f (omega arith))) ∙ sym t.0
        ]

pub power_is : (n : ℕ) → n < 2 ^ 64 → nat_eq (count_ones n) 1 ≡ is_power n
power_is n h = ones_power 64 n h
