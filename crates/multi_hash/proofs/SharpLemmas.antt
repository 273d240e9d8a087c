-- A code that no map meets.
use Rattle.std.proofs.Common.{◌≡◌, ℕ, zero, suc, ◌+◌, ◌-◌, ◌*◌, ◌/◌, ◌%◌, ◌^◌, ◌<◌, ◌≤◌, Bool, true, false, cond}
use Rattle.std.proofs.Common.{◌||◌, ◌&&◌, inl, inr, nat_eq, nat_le, nat_lt, List, [], ◌∷◌, length, map, pos, refl}
use Rattle.std.proofs.Common.{sym, ap, subst, ◌∙◌, arith}
use Rattle.std.specs.List.{range_with_len, All}
use Rattle.std.proofs.lemmas.List.Elements.{All-from_get_or}
use Rattle.std.specs.Int.{bit_at}
use Rattle.std.proofs.lemmas.Nat.{div-mul-add, mod-mul-add, le-div}
use Rattle.std.proofs.lemmas.Nat.Bits.{bit_at_cat_low, bit_at_cat_high}
use Rattle.std.proofs.Math.Nat.{two-pow-succ, mul-le-mul_right}
use Rattle.std.proofs.lemmas.List.FromFn.{length-map-range_with_len, get_or-map-range_with_len}
use Rattle.std.proofs.lemmas.Bool.{lt-leb, le-leb, lt-ltb, ne_eqb, eq-eqb, cases_lt}
use Rattle.bcodes.specs.Bits.{bit, dist, dist_between, differing, differs_at}
use Rattle.bcodes.specs.Ranges.{IsDim}
use Rattle.bcodes.specs.Value.{Row, IsCode, IsLegalMulti}
use Rattle.bcodes.specs.Answers.{some_chunk_near}
use Rattle.bcodes.proofs.BitLemmas.{differing-add}
use Rattle.bcodes.proofs.PigeonholeLemmas.{chunk_is}
use Rattle.multi_hash.specs.Sharp.{number_with, code_with, is_lowest, never, lowest_of_each, zeros, holding, IsMissed}

below_step : (t : Bool) (n m : ℕ) → m < 2 ^ n → cond {A = ℕ} t 1 0 * 2 ^ n + m < 2 ^ suc n
below_step true n m h = omega (arith, two-pow-succ n)
below_step false n m h = omega (arith, two-pow-succ n)

one_bit : (t : Bool) → bit_at (cond {A = ℕ} t 1 0) 0 ≡ cond {A = ℕ} t 1 0
one_bit true = refl
one_bit false = refl

number_below : (test : ℕ → Bool) (from n : ℕ) → number_with test from n < 2 ^ n
unfolding number_with
number_below test from zero = omega arith
number_below test from (suc n) = below_step (test (from + n)) n (number_with test from n) (number_below test from n)

pub bit_number : (test : ℕ → Bool) (from n i : ℕ) → i < n
    → bit_at (number_with test from n) i ≡ cond (test (from + i)) 1 0
unfolding number_with
bit_number test from zero i h = absurd (omega arith)
bit_number test from (suc n) i h =
    elim (cases_lt i n) [
      | inl l ↦ bit_at_cat_low (cond (test (from + n)) 1 0) n (number_with test from n) i l ∙ bit_number test from n i l
      | inr l ↦
          let e : i ≡ n = omega arith in
          let z : i - n ≡ 0 = omega arith in
          bit_at_cat_high (cond (test (from + n)) 1 0) n (number_with test from n) i (number_below test from n) l
          ∙ ap (bit_at (cond (test (from + n)) 1 0)) z ∙ one_bit (test (from + n))
          ∙ sym (ap (λ (m : ℕ). cond {A = ℕ} (test (from + m)) 1 0) e)
    ]

pub length-code_with : (test : ℕ → Bool) (n : ℕ) → length (code_with test n) ≡ n
unfolding code_with
length-code_with test n = length-map-range_with_len (λ i. number_with test (i * 8) 8) 0 n

pub bit_code : (test : ℕ → Bool) (n j : ℕ) → j < 8 * n → bit (code_with test n) j ≡ cond (test j) 1 0
unfolding code_with
bit_code test n j h =
    let at : j / 8 < n = omega arith in
    let place : 0 + j / 8 ≡ j / 8 = omega arith in
    let whole : j / 8 * 8 + j % 8 ≡ j = omega arith in
    let low : j % 8 < 8 = omega arith in
    ap (λ (m : ℕ). bit_at m (j % 8)) (get_or-map-range_with_len
    (λ i. number_with test (i * 8) 8) 0 n (j / 8) (j / 8) 0 at place)
    ∙ bit_number test (j / 8 * 8) 8 (j % 8) low ∙ ap (λ (m : ℕ). cond {A = ℕ} (test m) 1 0) whole

pub differing-all : (x y : List ℕ) (from n : ℕ) → ((t : ℕ) → t < n → differs_at x y (from + t) ≡ 1)
    → differing x y from n ≡ n
unfolding differing
differing-all x y from zero h = refl
differing-all x y from (suc n) h = omega (arith, differing-all x y from n (λ t l. h t (omega arith)), h n (omega arith))

pub differing-none : (x y : List ℕ) (from n : ℕ) → ((t : ℕ) → t < n → differs_at x y (from + t) ≡ 0)
    → differing x y from n ≡ 0
unfolding differing
differing-none x y from zero h = refl
differing-none x y from (suc n) h =
    omega (arith, differing-none x y from n (λ t l. h t (omega arith)), h n (omega arith))

differs_one : (s t : ℕ) → s ≡ 1 → t ≡ 0 → cond {A = ℕ} (nat_eq s t) 0 1 ≡ 1
differs_one s t e f = ap (λ (b : Bool). cond {A = ℕ} b 0 1) (ne_eqb s t (λ g. omega arith))

differs_none : (s t : ℕ) → s ≡ 0 → t ≡ 0 → cond {A = ℕ} (nat_eq s t) 0 1 ≡ 0
differs_none s t e f = ap (λ (b : Bool). cond {A = ℕ} b 0 1) (eq-eqb s t (omega arith))

one_code : (P : List ℕ → Type 0) (x : List ℕ) → P x → All P (x ∷ [])
one_code P x h zero d l = h
one_code P x h (suc k) d l = absurd (omega arith)

missed_step : (t : Bool) → t ≡ false → (row : Row) → cond t (row ∷ []) [] ≡ []
missed_step t e row = ap (λ (s : Bool). cond s (row ∷ []) []) e

pub bytes-code_with : (test : ℕ → Bool) (n : ℕ) → All (λ (x : ℕ). x < 2 ^ 8) (code_with test n)
unfolding code_with
bytes-code_with test n = All-from_get_or (λ (x : ℕ). x < 2 ^ 8)
    (map (λ i. number_with test (i * 8) 8) (range_with_len 0 n)) 0
    (λ k h.
    let low : k < n = omega (arith, length-map-range_with_len (λ i. number_with test (i * 8) 8) 0 n) in
    let at : 0 + k ≡ k = omega arith in
    subst (λ (m : ℕ). m < 2 ^ 8)
    (sym (get_or-map-range_with_len (λ i. number_with test (i * 8) 8) 0 n k k 0 low at))
    (number_below test (k * 8) 8))

pub whole_code : (test : ℕ → Bool) (d : ℕ) → IsCode d (code_with test (d / 8))
whole_code test d = record { size = length-code_with test (d / 8); bytes = bytes-code_with test (d / 8) }

module _ (d nhash b nflip : ℕ) (dim : IsDim d) (maps : 1 ≤ nhash) (maps_most : nhash ≤ 1024) (some : 1 ≤ b)
    (most : b ≤ 64) (within : nhash * b ≤ d) (few : nflip < b) where
  x : List ℕ
  x = code_with (is_lowest nhash b nflip) (d / 8)

  q : List ℕ
  q = code_with never (d / 8)

  whole : 8 * (d / 8) ≡ d
  whole = omega (arith, dim.whole_bytes)

  bit_x : (j : ℕ) → j < d → bit x j ≡ cond (is_lowest nhash b nflip j) 1 0
  unfolding x
  bit_x j h = bit_code (is_lowest nhash b nflip) (d / 8) j (omega (arith, whole))

  bit_q : (j : ℕ) → j < d → bit q j ≡ 0
  unfolding q
  bit_q j h = bit_code never (d / 8) j (omega (arith, whole))

  one_at : (j : ℕ) → j < d → is_lowest nhash b nflip j ≡ true → differs_at x q j ≡ 1
  one_at j h e = differs_one (bit x j) (bit q j) (bit_x j h ∙ ap (λ (t : Bool). cond {A = ℕ} t 1 0) e) (bit_q j h)

  none_at : (j : ℕ) → j < d → is_lowest nhash b nflip j ≡ false → differs_at x q j ≡ 0
  none_at j h e = differs_none (bit x j) (bit q j) (bit_x j h ∙ ap (λ (t : Bool). cond {A = ℕ} t 1 0) e) (bit_q j h)

  in_range : (i t : ℕ) → i < nhash → t < b → i * b + t < d
  in_range i t l h =
      let p : suc i * b ≤ nhash * b = mul-le-mul_right b l in
      omega (arith, p)

  lowest_in : (i t : ℕ) → i < nhash → t < b → is_lowest nhash b nflip (i * b + t) ≡ nat_le t nflip
  lowest_in i t l h =
      ap (λ (m : ℕ). nat_lt m nhash && nat_le ((i * b + t) % b) nflip) (div-mul-add i b t h)
      ∙ ap (λ (m : ℕ). nat_lt i nhash && nat_le m nflip) (mod-mul-add i b t h)
      ∙ ap (λ (s : Bool). s && nat_le t nflip) (lt-ltb i nhash l)

  lowest_above : (j : ℕ) → nhash * b ≤ j → is_lowest nhash b nflip j ≡ false
  lowest_above j h = ap (λ (s : Bool). s && nat_le (j % b) nflip)
      (lt-leb (suc (j / b)) nhash (omega (arith, le-div nhash j b some h)))

  chunk_ones : (i : ℕ) → i < nhash → differing x q (i * b) b ≡ nflip + 1
  chunk_ones i l =
      let e : b ≡ (nflip + 1) + (b - (nflip + 1)) = omega arith in
      ap (differing x q (i * b)) e ∙ differing-add x q (i * b) (nflip + 1) (b - (nflip + 1))
      ∙ ap (λ (m : ℕ). m + differing x q (i * b + (nflip + 1)) (b - (nflip + 1)))
      (differing-all x q (i * b) (nflip + 1) (λ t h. let u : t < b = omega arith in
      one_at (i * b + t) (in_range i t l u) (lowest_in i t l u ∙ le-leb t nflip (omega arith))))
      ∙ ap (λ (m : ℕ). (nflip + 1) + m)
      (differing-none x q (i * b + (nflip + 1)) (b - (nflip + 1)) (λ t h.
      let u : (nflip + 1) + t < b = omega arith in
      let at : (i * b + (nflip + 1)) + t ≡ i * b + ((nflip + 1) + t) = omega arith in
      ap (differs_at x q) at ∙ none_at (i * b + ((nflip + 1) + t)) (in_range i ((nflip + 1) + t) l u)
      (lowest_in i ((nflip + 1) + t) l u ∙ lt-leb ((nflip + 1) + t) nflip (omega arith))))
      ∙ omega arith

  first_chunks : (n : ℕ) → n ≤ nhash → differing x q 0 (n * b) ≡ n * (nflip + 1)
  first_chunks zero h = omega (arith, differing-none x q 0 (0 * b) (λ t l. absurd (omega arith)))
  first_chunks (suc n) h =
      let at : 0 + n * b ≡ n * b = omega arith in
      let e : suc n * b ≡ n * b + b = omega arith in
      omega (
        arith,
        ap (differing x q 0) e,
        differing-add x q 0 (n * b) b,
        ap (λ m. differing x q m b) at,
        first_chunks n (omega arith),
        chunk_ones n h,
      )

  none_near : (n : ℕ) → n ≤ nhash → some_chunk_near x q b nflip n ≡ false
  none_near zero h = refl
  none_near (suc n) h =
      ap (λ (t : Bool). t || nat_le (dist_between x q (n * b) (n * b + b)) nflip) (none_near n (omega arith))
      ∙ lt-leb (dist_between x q (n * b) (n * b + b)) nflip (omega (arith, chunk_is x q n b, chunk_ones n h))

  size_x : length x ≡ d / 8
  unfolding x
  size_x = length-code_with (is_lowest nhash b nflip) (d / 8)

  size_q : length q ≡ d / 8
  unfolding q
  size_q = length-code_with never (d / 8)

  distance : dist x q ≡ nhash * (nflip + 1)
  distance =
      let all : 8 * length x ≡ nhash * b + (d - nhash * b) = omega (arith, size_x, whole) in
      let rest : differing x q (0 + nhash * b) (d - nhash * b) ≡ 0
      = differing-none x q (0 + nhash * b) (d - nhash * b) (λ t h.
      none_at ((0 + nhash * b) + t) (omega arith) (lowest_above ((0 + nhash * b) + t) (omega arith))) in
      omega (
        arith,
        ap (differing x q 0) all,
        differing-add x q 0 (nhash * b) (d - nhash * b),
        first_chunks nhash (omega arith),
        rest,
      )

  legal : IsLegalMulti (holding d nhash b nflip x)
  unfolding x
  legal = record {
    dim = dim;
    nhash_least = maps;
    nhash_most = maps_most;
    b_least = some;
    b_most = most;
    within = within;
    nflip = omega arith;
    codes = one_code (IsCode d) x (whole_code (is_lowest nhash b nflip) d);
    load = omega (arith, dim.at_most);
  }

  pub missed_code : IsMissed d nhash b nflip (lowest_of_each d nhash b nflip) (zeros d)
  unfolding x q
  missed_code = record {
    code = whole_code (is_lowest nhash b nflip) d;
    ones = bit_x;
    query = whole_code never d;
    none = bit_q;
    legal = legal;
    distance = distance;
    missed = missed_step (some_chunk_near x q b nflip nhash) (none_near nhash (omega arith))
        (record { label = pos 0; code = x });
  }

pub bound_is_sharp : (d nhash b nflip : ℕ) → IsDim d → 1 ≤ nhash → nhash ≤ 1024 → 1 ≤ b → b ≤ 64 → nhash * b ≤ d
    → nflip < b → IsMissed d nhash b nflip (lowest_of_each d nhash b nflip) (zeros d)
bound_is_sharp d nhash b nflip dim maps maps_most some most within few =
    missed_code d nhash b nflip dim maps maps_most some most within few
