-- The canonical spelling of a MultiHash without a wide bucket is a file of it.
use Rattle.std.proofs.Common.{◌≡◌, ◌⊎◌, inl, inr, ℕ, zero, suc, ◌+◌, ◌-◌, ◌*◌, ◌/◌}
use Rattle.std.proofs.Common.{◌^◌, ◌<◌, ◌≤◌, Bool, true, false, cond, eqb, not, ◌||◌, List, []}
use Rattle.std.proofs.Common.{◌∷◌, ◌++◌, length, map, get_or, All, Option, Some, None, refl, sym, ap, subst}
use Rattle.std.proofs.Common.{◌∙◌, append_assoc, arith}
use Rattle.std.specs.Prelude.{codes, count_by, nat_eq, find}
use Rattle.std.specs.Option.{option_map}
use Rattle.std.specs.List.{flat_map, filter, list_any, list_all, AllPairs, range_with_len}
use Rattle.std.proofs.lemmas.Bool.{cases_Bool, cases_eq, cases_lt, eqb-true, eq-eqb, and_from}
use Rattle.std.proofs.lemmas.List.{length-map}
use Rattle.std.proofs.lemmas.List.Folds.{flat_map-map}
use Rattle.std.proofs.lemmas.List.Kept.{AllPairs-cons}
use Rattle.std.proofs.lemmas.List.Sums.{length-filter, count_by-le-length}
use Rattle.std.proofs.lemmas.List.Elements.{All-nil, All-cons, All-head, All-tail, All-filter, All-map, filter_passes}
use Rattle.bcodes.specs.Bits.{bit, differing, key, dist_between}
use Rattle.bcodes.specs.Value.{MultiValue, Multi, IsLegalMulti}
use Rattle.multi_hash.specs.declared.wide.Wide.{Wide}
use Rattle.std.proofs.lemmas.List.FromFn.{length-range_with_len, get_or-range_with_len}
use Rattle.bit_strings.specs.Packed.{packed}
use Rattle.file_parts.specs.Fields.{number_bytes}
use Rattle.index_files.specs.Groups.{IsLeast, Entry, all_positions, entries_of}
use Rattle.key_buckets.specs.Keys.{firsts}
use Rattle.multi_hash.specs.Maps.{map_key, map_keys, positions}
use Rattle.index_files.specs.File.{AreEntries, entry_bits, MapPart, Body}
use Rattle.index_files.specs.Canon.{number, short_number, vector, head, flat_bytes, position_width, map_bytes}
use Rattle.index_files.specs.Canon.{multi_bytes}
use Rattle.multi_hash.specs.Wide.{is_power, is_alike, is_wide_map, wide_of_inner}
use Rattle.index_files.proofs.HashGroups.{Once, once-firsts}
use Rattle.index_files.proofs.HashLaw.{key-below}
use Rattle.index_files.proofs.MultiRun.{run-width}
use Rattle.index_files.proofs.MapLaw.{position-width, total-again}
use Rattle.index_files.proofs.Settled.{eqb-turn, members, all-grouped, grouped-sum, first-once, from-once}
use Rattle.index_files.proofs.Spelled.{long-spelled, short-spelled, each-spelled, head-spelled, flat-spelled}
use Rattle.index_files.proofs.HashSpelled.{firsts-few, length-packed, bytes-spelled}

-- ---- equal keys are equal bits

bit-two : (x : List ℕ) (j : ℕ) → bit x j < 2
bit-two x j = omega arith

pub alike-keys : (x y : List ℕ) (from b : ℕ) → key x from b ≡ key y from b → differing x y from b ≡ 0
unfolding key differing
alike-keys x y from zero e = refl
alike-keys x y from (suc t) e =
    let bx = bit x (from + t) in
    let by = bit y (from + t) in
    let kx = key x from t in
    let ky = key y from t in
    let both = split (2 ^ t) bx by kx ky (bit-two x (from + t)) (bit-two y (from + t)) (key-below x from t)
    (key-below y from t) e in
    let same = eq-eqb bx by both.0 in
    rw same (omega (arith, alike-keys x y from t both.1))
  where
    split : (p a c k l : ℕ) → a < 2 → c < 2 → k < p → l < p → k + a * p ≡ l + c * p
        → (a ≡ c) × (k ≡ l)
    split p a c k l ha hc hk hl e =
        elim (two a ha) [
          | inl za ↦ elim (two c hc) [
            | inl zc ↦ (za ∙ sym zc, omega (arith, e, ap (λ n. n * p) za, ap (λ n. n * p) zc))
            | inr oc ↦ absurd (omega (arith, e, ap (λ n. n * p) za, ap (λ n. n * p) oc, hk, hl))
          ]
          | inr oa ↦ elim (two c hc) [
            | inl zc ↦ absurd (omega (arith, e, ap (λ n. n * p) oa, ap (λ n. n * p) zc, hk, hl))
            | inr oc ↦ (oa ∙ sym oc, omega (arith, e, ap (λ n. n * p) oa, ap (λ n. n * p) oc))
          ]
        ]
      where
        two : (n : ℕ) → n < 2 → (n ≡ 0) ⊎ (n ≡ 1)
        two n lt = elim (cases_eq n 0) [ inl z ↦ inl z | inr ne ↦ inr (omega (arith, lt, ne)) ]

-- ---- tests over lists

all-true : {X : Type 0} (test : X → Bool) (xs : List X) → All (λ x. test x ≡ true) xs
    → list_all test xs ≡ true
all-true test [] h = refl
all-true test (x ∷ xs) h = and_from _ _ (All-head (λ x. test x ≡ true) x xs h)
    (all-true test xs (All-tail (λ x. test x ≡ true) x xs h))

find-none : (test : ℕ → Bool) (xs : List ℕ) → find test xs ≡ None → All (λ x. test x ≡ false) xs
find-none test [] e = All-nil (λ x. test x ≡ false)
find-none test (x ∷ xs) e =
    elim (cases_Bool (test x)) [
      | inl t ↦ absurd (let k = rw t at e in cc)
      | inr f ↦ (let k : find test xs ≡ None = rw f at e in
          All-cons (λ x. test x ≡ false) x xs f (find-none test xs k))
    ]

any-from : (test : ℕ → Bool) (a n k : ℕ) → a ≤ k → k < a + n → test k ≡ true
    → list_any test (range_with_len a n) ≡ true
any-from test a zero k le lt e = absurd (omega (arith, le, lt))
any-from test a (suc n) k le lt e =
    elim (cases_eq k a) [
      | inl is ↦ (let t : test a ≡ true = ap test (sym is) ∙ e in rw t refl)
      | inr ne ↦ right (test a) (list_any test (range_with_len (a + 1) n))
          (any-from test (a + 1) n k (omega (arith, le, ne)) (omega (arith, lt)) e)
    ]
  where
    right : (b c : Bool) → c ≡ true → (b || c) ≡ true
    right true c e = refl
    right false c e = e

full-filter : (test : ℕ → Bool) (xs : List ℕ) → length (filter test xs) ≡ length xs
    → All (λ x. test x ≡ true) xs
full-filter test [] e = All-nil (λ x. test x ≡ true)
full-filter test (x ∷ xs) e =
    elim (cases_Bool (test x)) [
      | inl t ↦ (let k : suc (length (filter test xs)) ≡ suc (length xs) = rw t at e in
          All-cons (λ x. test x ≡ true) x xs t (full-filter test xs (omega (arith, k))))
      | inr f ↦ absurd (let k : length (filter test xs) ≡ suc (length xs) = rw f at e in
          omega (arith, k, length-filter test xs, count_by-le-length test xs))
    ]

all-from : (P : ℕ → Type 0) (n : ℕ) → All P (range_with_len 0 n) → (p : ℕ) → p < n → P p
all-from P n h p lt = (let e : get_or (range_with_len 0 n) p 0 ≡ p =
    (let g = get_or-range_with_len 0 n p 0 lt in omega (arith, g)) in
    subst P e (h p 0 (omega (arith, length-range_with_len 0 n, lt))))

module _ (v : MultiValue) (i : ℕ) where
  -- ---- the entries

  keys-once : Once (λ row. 0) (map_keys v i)
  unfolding map_keys
  keys-once = once-firsts (λ row. 0) (map (map_key v i) (range_with_len 0 (length v.codes)))

  entry-of : ℕ → Entry
  entry-of k = record { key = k; positions = positions v i k }

  pairs-differ : (ks : List ℕ) → Once (λ row. 0) ks
      → AllPairs (λ d e. d.key ≡ e.key → ⊥) (map entry-of ks)
  unfolding entry-of
  pairs-differ [] h = λ x y d lt less. absurd (omega (arith, less))
  pairs-differ (k ∷ ks) (av, h) =
      AllPairs-cons (λ (d e : Entry). d.key ≡ e.key → ⊥) (record { key = k; positions = positions v i k })
      (map entry-of ks) (All-map (λ (e : Entry). k ≡ e.key → ⊥) entry-of ks
      (λ j d lt is. av j d lt (sym is))) (pairs-differ ks h)

  flat-positions : (ks : List ℕ) → all_positions (map (λ k. record { key = k; positions = positions v i k }) ks)
      ≡ flat_map (positions v i) ks
  flat-positions ks = flat_map-map (λ (e : Entry). e.positions)
      (λ k. record { key = k; positions = positions v i k }) ks

  same-filter : (k : ℕ) (xs : List ℕ)
      → filter (λ p. eqb (map_key v i p) k) xs ≡ filter (λ p. eqb k (map_key v i p)) xs
  same-filter k [] = refl
  same-filter k (x ∷ xs) =
      ap (λ (b : Bool). cond b (x ∷ filter (λ p. eqb (map_key v i p) k) xs) (filter (λ p. eqb
      (map_key v i p) k) xs))
      (eqb-turn (map_key v i x) k)
      ∙ ap (λ (ys : List ℕ). cond (eqb k (map_key v i x)) (x ∷ ys) ys) (same-filter k xs)

  as-members : (ks : List ℕ)
      → flat_map (positions v i) ks ≡ flat_map (members (map_key v i) (range_with_len 0 (length v.codes))) ks
  unfolding positions
  as-members [] = refl
  as-members (k ∷ ks) =
      let xs = range_with_len 0 (length v.codes) in
      ap (λ (ys : List ℕ). ys ++ flat_map (positions v i) ks) (same-filter k xs)
      ∙ ap (λ (ys : List ℕ). members (map_key v i) xs k ++ ys) (as-members ks)

  count-all : (p : ℕ) → p < length v.codes → count_by (nat_eq p) (flat_map (positions v i) (map_keys v i)) ≡ 1
  unfolding map_keys
  count-all p lt =
      let xs = range_with_len 0 (length v.codes) in
      ap (λ (ys : List ℕ). count_by (nat_eq p) ys) (as-members (firsts (map (map_key v i) xs)))
      ∙ grouped-sum (map_key v i) (λ x. cond (nat_eq p x) 1 0) xs (firsts (map (map_key v i) xs))
      (first-once (map_key v i) xs) ∙ from-once p 0 (length v.codes) (omega arith) (omega (arith, lt))

  all-below : All (λ p. p < length v.codes) (flat_map (positions v i) (map_keys v i))
  all-below = subst (All (λ p. p < length v.codes)) (sym (as-members (map_keys v i)))
      (all-grouped (map_key v i) (λ p. p < length v.codes) (range_with_len 0 (length v.codes)) (map_keys v i)
      (λ j d lt. (let len = length-range_with_len 0 (length v.codes) in let g =
      get_or-range_with_len 0 (length v.codes) j d (omega (arith, len, lt)) in omega (arith, g, len, lt))))

  under-key : (k : ℕ) → All (λ p. map_key v i p ≡ k) (positions v i k)
  unfolding positions
  under-key k j d lt = eqb-true _ _ (filter_passes (λ p. eqb (map_key v i p) k)
      (range_with_len 0 (length v.codes)) j d lt)

  some-positions : All (λ k. 0 < length (positions v i k)) (map_keys v i)
  unfolding positions map_keys
  some-positions = keys-some (range_with_len 0 (length v.codes))
    where
      f : ℕ → ℕ
      f = map_key v i

      grow : (x : ℕ) (xs : List ℕ) (k : ℕ) → 0 < length (filter (λ p. eqb (map_key v i p) k) xs)
          → 0 < length (filter (λ p. eqb (map_key v i p) k) (x ∷ xs))
      grow x xs k h = elim (cases_Bool (eqb (map_key v i x) k)) [ inl e ↦ rw e (omega arith) | inr e ↦ rw e h ]

      keys-some : (xs : List ℕ) → All (λ k. 0 < length (filter (λ p. eqb (map_key v i p) k) xs))
          (firsts (map (map_key v i) xs))
      keys-some [] = All-nil (λ k. 0 < length (filter (λ p. eqb (map_key v i p) k) []))
      keys-some (x ∷ xs) =
          let k = map_key v i x in
          let here : 0 < length (filter (λ p. eqb (map_key v i p) k) (x ∷ xs)) =
          (let e = eq-eqb k k refl in rw e (omega arith)) in
          let more = All-filter (λ j. not (eqb j k)) (λ j. 0 < length (filter (λ p. eqb (map_key v i p) j) xs))
          (firsts (map (map_key v i) xs)) (keys-some xs) in
          All-cons (λ j. 0 < length (filter (λ p. eqb (map_key v i p) j) (x ∷ xs))) k
          (filter (λ j. not (eqb j k)) (firsts (map (map_key v i) xs))) here
          (λ j d lt. grow x xs _ (more j d lt))

  entry-pairs : AllPairs (λ d e. d.key ≡ e.key → ⊥) (entries_of v i)
  unfolding entry-of
  entry-pairs = pairs-differ (map_keys v i) keys-once

  pub entries-are : AreEntries v i (entries_of v i)
  entries-are =
      let ks = map_keys v i in
      let flat = flat-positions ks in
      record {
        keys = entry-pairs;
        some = All-map (λ (e : Entry). 0 < length e.positions)
            (λ k. record { key = k; positions = positions v i k }) ks some-positions;
        once = λ p lt. ap (count_by (nat_eq p)) flat ∙ count-all p lt;
        below = subst (All (λ p. p < length v.codes)) (sym flat) all-below;
        under = All-map (λ (e : Entry). All (λ p. map_key v i p ≡ e.key) e.positions)
            (λ k. record { key = k; positions = positions v i k }) ks (λ j d lt. under-key _);
      }

  -- ---- no bucket is too wide

  positions-few : (k : ℕ) → length (positions v i k) ≤ length v.codes
  unfolding positions
  positions-few k = omega (
    arith,
    length-filter (λ p. eqb (map_key v i p) k) (range_with_len 0 (length v.codes)),
    count_by-le-length (λ p. eqb (map_key v i p) k) (range_with_len 0 (length v.codes)),
    length-range_with_len 0 (length v.codes),
  )

  full-wide : (k : ℕ) → length (positions v i k) ≡ length v.codes → is_wide_map v i ≡ true
  unfolding positions map_key
  full-wide k e =
      let len = length-range_with_len 0 (length v.codes) in
      let all = full-filter (λ p. eqb (map_key v i p) k) (range_with_len 0 (length v.codes)) (omega (arith, e, len)) in
      let key_is : (p : ℕ) → p < length v.codes → map_key v i p ≡ k =
      λ p lt. eqb-true _ _ (all-from (λ p. eqb (map_key v i p) k ≡ true) (length v.codes) all p lt) in
      all-true (λ x. list_all (is_alike v i x) v.codes) v.codes
      (λ a d lt. all-true (is_alike v i (get_or v.codes a d)) v.codes (λ c f less.
      eq-eqb _ _ (apart (get_or v.codes a d) (get_or v.codes c f) (same a d lt k (key_is a lt)
      ∙ sym (same c f less k (key_is c less))))))
    where
      same : (a : ℕ) (d : List ℕ) → a < length v.codes → (k : ℕ)
          → key (get_or v.codes a []) (i * v.b) v.b ≡ k → key (get_or v.codes a d) (i * v.b) v.b ≡ k
      same a d lt k e = ap (λ (c : List ℕ). key c (i * v.b) v.b) (any-default v.codes a d lt) ∙ e
        where
          any-default : (xs : List (List ℕ)) (a : ℕ) (d : List ℕ) → a < length xs
              → get_or xs a d ≡ get_or xs a []
          any-default [] a d lt = absurd (omega (arith, lt))
          any-default (x ∷ xs) zero d lt = refl
          any-default (x ∷ xs) (suc a) d lt = any-default xs a d (omega (arith, lt))

      apart : (x y : List ℕ) → key x (i * v.b) v.b ≡ key y (i * v.b) v.b
          → dist_between x y (i * v.b) (i * v.b + v.b) ≡ 0
      apart x y e = (let w : i * v.b + v.b - i * v.b ≡ v.b = omega arith in
          ap (differing x y (i * v.b)) w ∙ alike-keys x y (i * v.b) v.b e)

-- ---- a map

module _ (v : MultiValue) (legal : IsLegalMulti v) where
  codes-few : length v.codes < 2 ^ 27
  codes-few = (let e : length v.codes * 16 ≤ length v.codes * (v.dim / 8 + 16 + 64 * v.nhash) = grind arith in
      omega (arith, e, legal.load))

  width-least : IsLeast (λ n. length v.codes ≤ 2 ^ n) (position_width (length v.codes))
  width-least = position-width (length v.codes) (omega (arith, codes-few))

  width-most : position_width (length v.codes) ≤ 27
  width-most = width-least.least 27 (omega (arith, codes-few))

  entries-few : (i : ℕ) → length (entries_of v i) ≤ length v.codes
  unfolding map_keys
  entries-few i =
      let xs = range_with_len 0 (length v.codes) in
      let ks = firsts (map (map_key v i) xs) in
      omega (
        arith,
        length-map {B = Entry} ks (λ k. record { key = k; positions = positions v i k }),
        firsts-few (map (map_key v i) xs),
        length-map xs (map_key v i),
        length-range_with_len 0 (length v.codes),
      )

  pub packed-few : (i : ℕ) → length (packed
      (entry_bits v.b (position_width (length v.codes)) (entries_of v i))) < 2 ^ 32
  packed-few i =
      let n = position_width (length v.codes) in
      let es = entries_of v i in
      let total = total-again v i (omega (arith, codes-few)) es (entries-are v i) in
      let w = run-width v.codes i v.b n es in
      let one : (v.b + n) * length es ≤ 91 * length es =
      less (v.b + n) 91 (length es) (omega (arith, legal.b_most, width-most)) in
      let two : length (all_positions es) * n ≤ 27 * length v.codes =
      turned (length (all_positions es)) n (length v.codes) total width-most in
      omega (arith, length-packed (entry_bits v.b n es), w, one, two, entries-few i, codes-few)
    where
      less : (a c m : ℕ) → a ≤ c → a * m ≤ c * m
      less a c m le = grind arith

      turned : (a n c : ℕ) → a ≡ c → n ≤ 27 → a * n ≤ 27 * c
      turned a n c e le = (let k : a * n ≡ n * a = grind arith in let l : n * a ≤ 27 * a = less n 27 a le in
          omega (arith, k, l, e))

module _ (v : MultiValue) (legal : IsLegalMulti v) (none : wide_of_inner (Multi v) ≡ None) where
  not-wide : (i : ℕ) → i < v.nhash → is_power (length v.codes) ≡ true → is_wide_map v i ≡ true → ⊥
  not-wide i lt power is =
      let some : option_map (λ i. record { map = i; size = length v.codes })
      (find (is_wide_map v) (range_with_len 0 v.nhash)) ≡ None = rw power at none in
      let all = find-none (is_wide_map v) (range_with_len 0 v.nhash)
      (no-map (find (is_wide_map v) (range_with_len 0 v.nhash)) some) in
      clash (is_wide_map v i) is (all-from (λ i. is_wide_map v i ≡ false) v.nhash all i lt)
    where
      no-map : (o : Option ℕ) → ◌≡◌ {A =
          Option Wide} (option_map (λ i. record { map = i; size = length v.codes }) o) None → o ≡ None
      no-map None e = refl
      no-map (Some x) e = absurd cc

      clash : (b : Bool) → b ≡ true → b ≡ false → ⊥
      clash true e f = absurd cc
      clash false e f = absurd cc

  fits : (i : ℕ) → i < v.nhash → (k : ℕ) → length (positions v i k) < 2 ^ position_width (length v.codes)
  fits i lt k =
      let n = position_width (length v.codes) in
      elim (cases_lt (length (positions v i k)) (2 ^ n)) [
        | inl less ↦ less
        | inr more ↦
            let few = positions-few v i k in
            let held = (width-least v legal).holds in
            let full : length (positions v i k) ≡ length v.codes = omega (arith, few, more, held) in
            let is : length v.codes ≡ 2 ^ n = omega (arith, few, more, held) in
            absurd (not-wide i lt (any-from (λ k. eqb (length v.codes) (2 ^ k)) 0 64 n (omega arith)
            (omega (arith, width-most v legal)) (eq-eqb _ _ is)) (full-wide v i k full))
      ]

  map-spelled : (i : ℕ) → i < v.nhash → MapPart v i (map_bytes v i)
  unfolding number_bytes
  map-spelled i lt =
      let n = position_width (length v.codes) in
      let es = entries_of v i in
      let run = packed (entry_bits v.b n es) in (
        es,
        n,
        entries-are v i,
        width-least v legal,
        All-map (λ (e : Entry). length e.positions < 2 ^ n) (λ k. record { key = k; positions = positions v i k })
            (map_keys v i) (λ j d less. fits i lt _),
        (
          short_number n,
          number (length es) ++ vector run,
          refl,
          short-spelled n (omega (arith, width-most v legal)),
          (
            number (length es),
            vector run,
            refl,
            long-spelled (length es) (omega (arith, entries-few v legal i, codes-few v legal)),
            bytes-spelled run (omega (arith, packed-few v legal i)),
          ),
        ),
      )

  pieces : (a b c d e f g : List ℕ) → a ++ b ++ c ++ d ++ e ++ f ++ g ≡ a ++ (b ++ (c ++ (d ++ (e ++ (f ++ g)))))
  pieces a b c d e f g = simp append_assoc

  pub multi-spelled : Body (Multi v) (multi_bytes v)
  multi-spelled =
      let hd = head v.dim (length v.codes) true in
      let flat = flat_bytes v.dim v.codes in
      let maps = flat_map (map_bytes v) (range_with_len 0 v.nhash) in
      let size : length v.codes * (v.dim / 8) ≤ length v.codes * (v.dim / 8 + 16 + 64 * v.nhash) = grind arith in
      let few : length v.codes < 2 ^ 64 = omega (arith, codes-few v legal) in
      let b-fits : v.b < 2 ^ 32 = omega (arith, legal.b_most) in (
        codes "IBHm",
        hd ++ (flat ++ (short_number v.b ++ (short_number v.nhash ++ (short_number v.nflip ++ maps)))),
        pieces (codes "IBHm") hd flat (short_number v.b) (short_number v.nhash) (short_number v.nflip) maps,
        refl,
        (
          hd,
          flat ++ (short_number v.b ++ (short_number v.nhash ++ (short_number v.nflip ++ maps))),
          refl,
          head-spelled (Unit {0}) v.dim (length v.codes) true legal.dim.at_most few (λ e. tt),
          (
            flat,
            short_number v.b ++ (short_number v.nhash ++ (short_number v.nflip ++ maps)),
            refl,
            flat-spelled v.dim v.codes legal.dim.at_most legal.codes (omega (arith, size, legal.load)) few,
            (
              short_number v.b,
              short_number v.nhash ++ (short_number v.nflip ++ maps),
              refl,
              short-spelled v.b b-fits,
              (
                short_number v.nhash,
                short_number v.nflip ++ maps,
                refl,
                short-spelled v.nhash (omega (arith, legal.nhash_most)),
                (
                  short_number v.nflip,
                  maps,
                  refl,
                  short-spelled v.nflip (omega (arith, legal.nflip, legal.b_most)),
                  each-spelled (MapPart v) (map_bytes v) (range_with_len 0 v.nhash)
                      (λ j d lt. (let len = length-range_with_len 0 v.nhash in
                      map-spelled _ (let g = get_or-range_with_len 0 v.nhash j d (omega (arith, len, lt)) in
                      omega (arith, g, len, lt)))),
                ),
              ),
            ),
          ),
        ),
      )
