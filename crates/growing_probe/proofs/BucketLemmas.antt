-- Lemmas on the positions in buckets, and on the keys that a search goes through.
use Rattle.std.proofs.Common.{◌≡◌, ℕ, suc, ◌+◌, ◌*◌, ◌^◌, ◌<◌, ◌≤◌, Bool, true, false}
use Rattle.std.proofs.Common.{◌||◌, ◌&&◌, not, cond}
use Rattle.std.proofs.Common.{nat_abs, nat_eq, nat_lt, ℤ, pos, List, [], ◌∷◌, length, map, take, drop, set}
use Rattle.std.proofs.Common.{get_or}
use Rattle.std.proofs.Common.{Some, None, refl, sym, ap, ◌∙◌, arith, subst, bit_xor, inl, inr}
use Rattle.std.proofs.Common.{FitsSigned, to_z, of_z, w64}
use Rattle.std.proofs.Common.{true≢false, zero-add, get_or-set_same, get_or-set_other}
use Rattle.std.specs.List.{All, filter, list_any, position, position_or_len, range_with_len}
use Rattle.std.proofs.lemmas.Bool.{eqb-true, eq-eqb, lt-ltb}
use Rattle.std.proofs.lemmas.Bool.Decides.{eqb_tells, nat_tests}
use Rattle.std.proofs.lemmas.Int.{fits_signed_from_abs, ints, to_z-of_z}
use Rattle.std.proofs.lemmas.List.{drop-map, take_all}
use Rattle.std.proofs.lemmas.List.Elements.{All-nil, All-cons, All-head, All-tail, All-take, All-drop, All-filter}
use Rattle.std.proofs.lemmas.List.Folds.{list_any-append, list_any_at}
use Rattle.std.proofs.lemmas.List.FromFn.{get_or-range_with_len, get_or-map-range_with_len, length-range_with_len}
use Rattle.std.proofs.lemmas.List.FromFn.{length-map-range_with_len}
use Rattle.std.proofs.lemmas.List.Quantifiers.{position-Some}
use Rattle.std.proofs.lemmas.Map.Views.{any-filter_same}
use Rattle.std.proofs.lemmas.Nat.{xor_lt}
use Rattle.std.proofs.Math.Seq.{take-add}
use Rattle.bcodes.specs.Bits.{key}
use Rattle.bcodes.specs.Value.{IsPlace, MultiValue}
use Rattle.bcodes.proofs.KeyLemmas.{key_below}
use Rattle.code_pool.specs.Lists.{IsPart}
use Rattle.flip_walk.specs.Patterns.{times, with_ones}
use Rattle.flip_walk.proofs.OnceLemmas.{times-range, times-with_ones}
use Rattle.flip_walk.proofs.VisitLemmas.{times-flipped}
use Rattle.key_buckets.proofs.FirstsLemmas.{any-firsts}
use Rattle.multi_hash.specs.Maps.{all_positions, map_key, map_keys, positions}
use Rattle.multi_hash.proofs.MeetLemmas.{ones-chunk}
use Rattle.multi_hash.proofs.MetLemmas.{place_low, take-map}
use Rattle.growing_probe.specs.Met.{is_at, is_seen, chunk_dist}
use Rattle.growing_probe.proofs.AnyLemmas.{any_times, or_false}

-- ---- one position

or_true : (s : Bool) → (s || true) ≡ true
or_true true = refl
or_true false = refl

and_true : (s : Bool) → (s && true) ≡ s
and_true true = refl
and_true false = refl

pub seen_more : (seen : List Bool) (r p : ℕ) → r < length seen
    → is_seen (set seen r true) p ≡ (is_seen seen p || nat_eq p r)
seen_more seen r p low =
    elim (eqb_tells p r) [
      | inl t ↦ ap (is_seen (set seen r true)) t.1 ∙ get_or-set_same seen r true false low
          ∙ sym (ap (λ (b : Bool). is_seen seen p || b) t.0 ∙ or_true (is_seen seen p))
      | inr t ↦ get_or-set_other seen r p true false t.1
          ∙ sym (ap (λ (b : Bool). is_seen seen p || b) t.0 ∙ or_false (is_seen seen p))
    ]

-- a label that stands for itself as a number of 64 bits
pub same_label : (n : ℕ) (label : ℤ) → n ≤ 67108864 → IsPlace n label → to_z w64 (of_z w64 label) ≡ label
same_label n label few h =
    let fits : FitsSigned w64 label = fits_signed_from_abs w64 label (omega (arith, place_low n label h)) in
    to_z-of_z w64 label fits

pub label_is : (n : ℕ) (label : ℤ) → IsPlace n label → pos (nat_abs label) ≡ label
label_is n label h = let least = h.least in omega (arith, ints)

pub position_place : (n p : ℕ) → p < n → IsPlace n (pos p)
position_place n p low = record { least = omega (arith, ints); most = omega (arith, ints) }

-- ---- a part of a bucket

any_labels : (p : ℕ) (ps : List ℕ) → list_any (λ label. nat_eq p (nat_abs label)) (map pos ps)
    ≡ list_any (nat_eq p) ps
any_labels p [] = refl
any_labels p (x ∷ xs) = ap (λ (b : Bool). nat_eq p x || b) (any_labels p xs)

part_is : (at : ℕ) (ps : List ℕ) (run : List ℤ) → IsPart (map pos ps) at run
    → run ≡ map pos (take (length run) (drop at ps))
part_is at ps run h =
    h.labels ∙ ap (take (length run)) (drop-map pos at ps) ∙ take-map pos (length run) (drop at ps)

-- the positions up to the end of a part
pub any_part : (p at : ℕ) (ps : List ℕ) (run : List ℤ) → IsPart (map pos ps) at run
    → list_any (nat_eq p) (take (at + length run) ps)
    ≡ (list_any (nat_eq p) (take at ps) || list_any (λ label. nat_eq p (nat_abs label)) run)
any_part p at ps run h =
    ap (list_any (nat_eq p)) (take-add at (length run) ps)
    ∙ list_any-append (nat_eq p) (take at ps) (take (length run) (drop at ps))
    ∙ ap (λ (b : Bool). list_any (nat_eq p) (take at ps) || b)
    (sym (ap (list_any (λ label. nat_eq p (nat_abs label))) (part_is at ps run h)
    ∙ any_labels p (take (length run) (drop at ps))))

places_of : (n : ℕ) (ps : List ℕ) → All (λ p. p < n) ps → All (IsPlace n) (map pos ps)
places_of n [] h = All-nil (IsPlace n)
places_of n (p ∷ ps) h =
    All-cons (IsPlace n) (pos p) (map pos ps) (position_place n p (All-head (λ p. p < n) p ps h))
    (places_of n ps (All-tail (λ p. p < n) p ps h))

-- the labels of a part are positions
pub part_places : (n at : ℕ) (ps : List ℕ) (run : List ℤ) → IsPart (map pos ps) at run → All (λ p. p < n) ps
    → All (IsPlace n) run
part_places n at ps run h low =
    subst (All (IsPlace n)) (sym (part_is at ps run h))
    (places_of n (take (length run) (drop at ps))
    (All-take (λ p. p < n) (length run) (drop at ps) (All-drop (λ p. p < n) at ps low)))

-- ---- whole buckets

range_low : (n : ℕ) → All (λ p. p < n) (range_with_len 0 n)
range_low n k d h =
    let here : k < n = omega (arith, length-range_with_len 0 n) in
    omega (arith, get_or-range_with_len 0 n k d here)

any_range : (p n : ℕ) → p < n → list_any (nat_eq p) (range_with_len 0 n) ≡ true
any_range p n low =
    any_times p (range_with_len 0 n)
    ∙ lt-ltb 0 (times p (range_with_len 0 n)) (omega (arith, times-range p 0 n (omega arith) (omega arith)))

pub positions_low : (v : MultiValue) (i k : ℕ) → All (λ p. p < length v.codes) (positions v i k)
unfolding positions
positions_low v i k =
    All-filter (λ p. nat_eq (map_key v i p) k) (λ p. p < length v.codes) (all_positions v)
    (range_low (length v.codes))

-- a bucket has the positions of its key
pub any_positions : (v : MultiValue) (i k p : ℕ) → p < length v.codes
    → list_any (nat_eq p) (positions v i k) ≡ nat_eq (map_key v i p) k
unfolding positions
any_positions v i k p low =
    any-filter_same (nat_eq p) (λ x. nat_eq (map_key v i x) k) (nat_eq (map_key v i p) k)
    (λ x e. ap (λ (y : ℕ). nat_eq (map_key v i y) k) (sym (eqb-true p x e))) (all_positions v)
    ∙ ap (λ (b : Bool). nat_eq (map_key v i p) k && b) (any_range p (length v.codes) low)
    ∙ and_true (nat_eq (map_key v i p) k)

pub any_all : (p at : ℕ) (ps : List ℕ) → length ps ≤ at
    → list_any (nat_eq p) (take at ps) ≡ list_any (nat_eq p) ps
any_all p at ps h = ap (list_any (nat_eq p)) (take_all at ps h)

-- ---- keys

-- the key of a position has a bucket
any_key : (v : MultiValue) (i p : ℕ) → p < length v.codes
    → list_any (nat_eq (map_key v i p)) (map_keys v i) ≡ true
unfolding map_keys
any_key v i p low =
    let keys : List ℕ = map (map_key v i) (all_positions v) in
    let within : p < length keys = omega (arith, length-map-range_with_len (map_key v i) 0 (length v.codes)) in
    any-firsts (map_key v i p) keys
    ∙ list_any_at (nat_eq (map_key v i p)) keys p 0 within
    (eq-eqb (map_key v i p) (get_or keys p 0)
    (sym (get_or-map-range_with_len (map_key v i) 0 (length v.codes) p p 0 low (zero-add p))))

prefix_place : (t : ℕ → Bool) (xs : List ℕ) → nat_lt (position_or_len t xs) (length xs) ≡ list_any t xs
prefix_place t [] = refl
prefix_place t (x ∷ xs) = step (t x) (prefix_place t xs)
  where
    step : (b : Bool) → nat_lt (position_or_len t xs) (length xs) ≡ list_any t xs
        → nat_lt (cond (not b) (1 + position_or_len t xs) 0) (suc (length xs)) ≡ (b || list_any t xs)
    step true e = lt-ltb 0 (suc (length xs)) (omega arith)
    step false e = grind (arith, nat_tests) ∙ e

some_not_none : (t : Bool) (i : ℕ) → cond t (Some i) None ≡ None → t ≡ false
some_not_none true i e = cc
some_not_none false i e = refl

-- a key that no bucket has is the key of no position
pub absent_key : (v : MultiValue) (i k p : ℕ) → position (nat_eq k) (map_keys v i) ≡ None → p < length v.codes
    → nat_eq (map_key v i p) k ≡ false
absent_key v i k p none low =
    let without : list_any (nat_eq k) (map_keys v i) ≡ false = sym (prefix_place (nat_eq k) (map_keys v i))
    ∙ some_not_none (nat_lt (position_or_len (nat_eq k) (map_keys v i)) (length (map_keys v i)))
    (position_or_len (nat_eq k) (map_keys v i)) none in
    elim (eqb_tells (map_key v i p) k) [
      | inl t ↦ absurd (true≢false (sym (any_key v i p low)
          ∙ ap (λ (j : ℕ). list_any (nat_eq j) (map_keys v i)) t.1 ∙ without))
      | inr t ↦ t.0
    ]

-- the bucket that a key has is that of the key
pub present_key : (v : MultiValue) (i k place : ℕ) → position (nat_eq k) (map_keys v i) ≡ Some place
    → get_or (map_keys v i) place 0 ≡ k
present_key v i k place found =
    let at = position-Some (nat_eq k) (map_keys v i) place 0 found in
    sym (eqb-true k (get_or (map_keys v i) place 0) at.1)

pub present_low : (v : MultiValue) (i k place : ℕ) → position (nat_eq k) (map_keys v i) ≡ Some place
    → place < length (map_keys v i)
present_low v i k place found = (position-Some (nat_eq k) (map_keys v i) place 0 found).0

positive : (t : Bool) → nat_lt 0 (cond {A = ℕ} t 1 0) ≡ t
positive true = refl
positive false = refl

-- the patterns reach the keys that differ in exactly so many bits
pub any_flipped : (query_key k b flips : ℕ) → query_key < 2 ^ b → k < 2 ^ b
    → list_any (nat_eq k) (map (bit_xor query_key) (with_ones b flips)) ≡ is_at query_key flips k
any_flipped query_key k b flips low high =
    any_times k (map (bit_xor query_key) (with_ones b flips))
    ∙ ap (nat_lt 0) (times-flipped query_key k (with_ones b flips)
    ∙ times-with_ones b flips (bit_xor query_key k) (xor_lt b query_key k low high))
    ∙ positive (is_at query_key flips k)

-- so do the buckets whose keys do
pub any_by_key : (v : MultiValue) (i p query_key flips : ℕ) → p < length v.codes
    → list_any (nat_eq (map_key v i p)) (filter (is_at query_key flips) (map_keys v i))
    ≡ is_at query_key flips (map_key v i p)
any_by_key v i p query_key flips low =
    let k : ℕ = map_key v i p in
    any-filter_same (nat_eq k) (is_at query_key flips) (is_at query_key flips k)
    (λ j e. ap (is_at query_key flips) (sym (eqb-true k j e))) (map_keys v i)
    ∙ ap (λ (b : Bool). is_at query_key flips k && b) (any_key v i p low)
    ∙ and_true (is_at query_key flips k)

any_one : (k j : ℕ) (t : Bool) → list_any (nat_eq k) (cond t (j ∷ []) []) ≡ (t && nat_eq k j)
any_one k j true = or_false (nat_eq k j)
any_one k j false = refl

pub key_low : (v : MultiValue) (i p : ℕ) → map_key v i p < 2 ^ v.b
unfolding map_key
key_low v i p = key_below (get_or v.codes p []) (i * v.b) v.b

-- the keys differ in as many bits as the chunks do
pub chunk_key_is : (v : MultiValue) (q : List ℕ) (i p flips : ℕ)
    → is_at (key q (i * v.b) v.b) flips (map_key v i p) ≡ nat_eq (chunk_dist v q i p) flips
unfolding map_key
chunk_key_is v q i p flips = ap (λ (n : ℕ). nat_eq n flips) (ones-chunk (get_or v.codes p []) q i v.b)
