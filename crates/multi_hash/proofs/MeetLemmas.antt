-- The positions that a query meets under its maps are those that it probes, each once.
use Rattle.std.proofs.Common.{◌≡◌, ℕ, zero, suc, ◌+◌, ◌-◌, ◌*◌, ◌<◌, ◌≤◌, min, inl, inr, Bool, true, false, ◌||◌}
use Rattle.std.proofs.Common.{cond, nat_eq, nat_le, nat_abs, pos, List, [], ◌∷◌, ◌++◌, length, map, get_or, bit_xor}
use Rattle.std.proofs.Common.{count_ones}
use Rattle.std.proofs.Common.{refl, sym, ap, subst, ◌∙◌, arith, append-nil, append_assoc, add-zero}
use Rattle.std.specs.List.{filter, flat_map, All, sum_by, range_with_len}
use Rattle.std.specs.List.Sorted.{IsPermutation}
use Rattle.std.proofs.lemmas.Nat.{xor_comm}
use Rattle.std.proofs.lemmas.List.Elements.{All-nil, All-cons, All-head, All-tail, All-push, All-append, All-filter}
use Rattle.std.proofs.lemmas.List.Sorted.{sum_by-IsPermutation, All-permutation, IsPermutation-sym}
use Rattle.std.proofs.lemmas.List.Sums.{sum_by-cons}
use Rattle.std.proofs.lemmas.Bool.{ne_eqb}
use Rattle.std.proofs.lemmas.Bool.Decides.{eqb_tells}
use Rattle.bcodes.specs.Bits.{key, dist_between}
use Rattle.bcodes.specs.Value.{Row, MultiValue, Multi, Bare, numbered}
use Rattle.bcodes.specs.Answers.{some_chunk_near, is_probed_multi, probed_rows}
use Rattle.bcodes.proofs.NumberedLemmas.{length-numbered, get-numbered}
use Rattle.bcodes.proofs.OrderLemmas.{either}
use Rattle.bcodes.proofs.PigeonholeLemmas.{chunk_is}
use Rattle.flip_walk.specs.Patterns.{times, under}
use Rattle.flip_walk.proofs.OnceLemmas.{times-append, times-filter, times-range}
use Rattle.multi_hash.specs.Seen.{first_met, row_at}
use Rattle.multi_hash.proofs.SeenLemmas.{times-first_met, offered_rows}
use Rattle.key_buckets.proofs.XorLemmas.{ones-key_xor}

-- ---- keys of chunks

-- the keys of a chunk differ in as many bits as the codes do in the chunk
pub ones-chunk : (x q : List ℕ) (i b : ℕ)
    → count_ones (bit_xor (key q (i * b) b) (key x (i * b) b)) ≡ dist_between x q (i * b) (i * b + b)
ones-chunk x q i b =
    ap count_ones (xor_comm (key q (i * b) b) (key x (i * b) b)) ∙ ones-key_xor x q (i * b) b ∙ sym (chunk_is x q i b)

-- the key of a chunk is near where the chunk is
pub near_key : (x q : List ℕ) (i b nflip : ℕ)
    → nat_le (count_ones (bit_xor (key q (i * b) b) (key x (i * b) b))) nflip
    ≡ nat_le (dist_between x q (i * b) (i * b + b)) nflip
near_key x q i b nflip = ap (λ (n : ℕ). nat_le n nflip) (ones-chunk x q i b)

-- ---- how often a position is met

pub times-sum : (x : ℕ) (xs : List ℕ) → times x xs ≡ sum_by (λ (y : ℕ). cond {A = ℕ} (nat_eq y x) 1 0) xs
times-sum x [] = refl
times-sum x (y ∷ ys) =
    ap (λ (n : ℕ). cond (nat_eq y x) 1 0 + n) (times-sum x ys)
    ∙ sym (sum_by-cons (λ (y : ℕ). cond {A = ℕ} (nat_eq y x) 1 0) y ys)

pub times-permutation : (x : ℕ) (xs ys : List ℕ) → IsPermutation xs ys → times x xs ≡ times x ys
times-permutation x xs ys p =
    times-sum x xs ∙ sym (sum_by-IsPermutation (λ (y : ℕ). cond {A = ℕ} (nat_eq y x) 1 0) xs ys p)
    ∙ sym (times-sum x ys)

-- the list of one more number
pub flat_map-range_more : {X : Type 0} (f : ℕ → List X) (a n : ℕ)
    → flat_map f (range_with_len a (suc n)) ≡ flat_map f (range_with_len a n) ++ f (a + n)
flat_map-range_more f a zero = append-nil (f a) ∙ ap f (sym (add-zero a))
flat_map-range_more f a (suc n) =
    let at : (a + 1) + n ≡ a + suc n = omega arith in
    ap (λ l. f a ++ l) (flat_map-range_more f (a + 1) n
    ∙ ap (λ (m : ℕ). flat_map f (range_with_len (a + 1) n) ++ f m) at)
    ∙ sym (append_assoc (f a) (flat_map f (range_with_len (a + 1) n)) (f (a + suc n)))

one_or_other : (s t : Bool) (m n : ℕ) → min 1 m ≡ cond {A = ℕ} s 1 0 → n ≡ cond {A = ℕ} t 1 0
    → min 1 (m + n) ≡ cond {A = ℕ} (s || t) 1 0
one_or_other true t m n e f = omega (arith, e)
one_or_other false true m n e f = omega (arith, f)
one_or_other false false m n e f = omega (arith, e, f)

-- a position that each map meets where its chunk is near is met under some of n maps where some chunk is
pub met_is : (x q : List ℕ) (b nflip p : ℕ) (met : ℕ → List ℕ) (n : ℕ)
    → ((i : ℕ) → i < n → times p (met i) ≡ cond (nat_le (dist_between x q (i * b) (i * b + b)) nflip) 1 0)
    → min 1 (times p (flat_map met (range_with_len 0 n))) ≡ cond (some_chunk_near x q b nflip n) 1 0
met_is x q b nflip p met zero each = refl
met_is x q b nflip p met (suc n) each =
    let at : 0 + n ≡ n = omega arith in
    ap (λ (l : List ℕ). min 1 (times p l)) (flat_map-range_more met 0 n
    ∙ ap (λ (m : ℕ). flat_map met (range_with_len 0 n) ++ met m) at)
    ∙ ap (min 1) (times-append p (flat_map met (range_with_len 0 n)) (met n))
    ∙ one_or_other (some_chunk_near x q b nflip n) (nat_le (dist_between x q (n * b) (n * b + b)) nflip)
    (times p (flat_map met (range_with_len 0 n))) (times p (met n))
    (met_is x q b nflip p met n (λ i h. each i (omega arith))) (each n (omega arith))

-- ---- rows of positions

no_times : (y : ℕ) → times y [] ≤ 1
no_times y = omega arith

under_none : (codes : List (List ℕ)) (a p : ℕ) → p < a
    → under (λ (row : Row). nat_abs row.label) (numbered a codes) p ≡ []
under_none [] a p h = refl
under_none (c ∷ codes) a p h =
    let other : nat_eq p a ≡ false = ne_eqb p a (λ e. omega arith) in
    rw other (under_none codes (a + 1) p (omega arith))

-- the rows under a position are the one row there
under_one : (codes : List (List ℕ)) (a p : ℕ) → a ≤ p → p < a + length codes
    → under (λ (row : Row). nat_abs row.label) (numbered a codes) p
    ≡ record { label = pos p; code = get_or codes (p - a) [] } ∷ []
under_one [] a p least most = absurd (omega arith)
under_one (c ∷ codes) a p least most =
    let first_row : Row = record { label = pos a; code = c } in
    let later : List Row = under (λ (row : Row). nat_abs row.label) (numbered (a + 1) codes) p in
    elim (eqb_tells p a) [
      | inl e ↦
          let first : p - a ≡ 0 = omega (arith, e.1) in
          ap (λ (t : Bool). cond t (first_row ∷ later) later) e.0
          ∙ ap (λ (rows : List Row). first_row ∷ rows)
          (under_none codes (a + 1) p (omega (arith, e.1)))
          ∙ ap (λ (m : ℕ). record { label = pos m; code = c } ∷ []) (sym e.1)
          ∙ sym (ap (λ (k : ℕ). record { label = pos p; code = get_or (c ∷ codes) k [] } ∷ []) first)
      | inr n ↦
          let next : p - a ≡ suc (p - (a + 1)) = below_suc a p least n.1 in
          ap (λ (t : Bool). cond t (first_row ∷ later) later) n.0
          ∙ under_one codes (a + 1) p (above a p least n.1) (omega arith)
          ∙ sym (ap (λ (k : ℕ). record { label = pos p; code = get_or (c ∷ codes) k [] } ∷ []) next)
    ]
  where
    above : (a p : ℕ) → a ≤ p → (p ≡ a → ⊥) → a + 1 ≤ p
    above a p l ne = omega arith

    below_suc : (a p : ℕ) → a ≤ p → (p ≡ a → ⊥) → p - a ≡ suc (p - (a + 1))
    below_suc a p l ne = omega arith

rows_under : (codes : List (List ℕ)) (ps : List ℕ) → All (λ p. p < length codes) ps
    → flat_map (under (λ (row : Row). nat_abs row.label) (numbered 0 codes)) ps ≡ map (row_at codes) ps
rows_under codes [] h = refl
rows_under codes (p ∷ ps) h =
    let low : p < 0 + length codes = omega (arith, All-head (λ p. p < length codes) p ps h) in
    let at : p - 0 ≡ p = omega arith in
    ap (λ (rows : List Row). rows ++ flat_map (under (λ (row : Row). nat_abs row.label) (numbered 0 codes)) ps)
    (under_one codes 0 p (omega arith) low ∙ ap (λ (k : ℕ). record { label = pos p; code = get_or codes k [] } ∷ []) at)
    ∙ ap (λ (rows : List Row). row_at codes p ∷ rows)
    (rows_under codes ps (All-tail (λ p. p < length codes) p ps h))

pub All-first_met : (P : ℕ → Type 0) (done ps : List ℕ) → All P done → All P ps → All P (first_met done ps)
All-first_met P done [] d h = d
All-first_met P done (p ∷ ps) d h =
    let rest = All-tail P p ps h in
    elim (either (nat_eq (times p done) 0)) [
      | inl e ↦ subst (λ (t : Bool). All P (cond t (first_met (done ++ p ∷ []) ps) (first_met done ps))) (sym e)
          (All-first_met P (done ++ p ∷ []) ps (All-push P done p d (All-head P p ps h)) rest)
      | inr e ↦ subst (λ (t : Bool). All P (cond t (first_met (done ++ p ∷ []) ps) (first_met done ps))) (sym e)
          (All-first_met P done ps d rest)
    ]

All-flat : (P : ℕ → Type 0) (met : ℕ → List ℕ) (a n : ℕ) → ((i : ℕ) → a ≤ i → i < a + n → All P (met i))
    → All P (flat_map met (range_with_len a n))
All-flat P met a zero h = All-nil P
All-flat P met a (suc n) h =
    All-append P (met a) (flat_map met (range_with_len (a + 1) n)) (h a (omega arith) (omega arith))
    (All-flat P met (a + 1) n (λ i l m. h i (omega arith) (omega arith)))

-- ---- the rows that a query compares

-- the key of the code at a position differs from the query's in few bits of chunk i
abbrev pub is_near_at : MultiValue → List ℕ → ℕ → ℕ → Bool
is_near_at v q i p =
    nat_le (count_ones (bit_xor (key q (i * v.b) v.b) (key (get_or v.codes p []) (i * v.b) v.b))) v.nflip

abbrev pub near_positions : MultiValue → List ℕ → ℕ → List ℕ
near_positions v q i = filter (is_near_at v q i) (range_with_len 0 (length v.codes))

near_within : (v : MultiValue) (q : List ℕ) (i : ℕ) → All (λ p. p < length v.codes) (near_positions v q i)
near_within v q i = All-filter (is_near_at v q i) (λ p. p < length v.codes) (range_with_len 0 (length v.codes))
    (below 0 (length v.codes) (length v.codes) (omega arith))
  where
    below : (a n m : ℕ) → a + n ≤ m → All (λ p. p < m) (range_with_len a n)
    below a zero m h = All-nil (λ p. p < m)
    below a (suc n) m h =
        All-cons (λ p. p < m) a (range_with_len (a + 1) n) (omega arith)
        (below (a + 1) n m (omega arith))

module _ (v : MultiValue) (q : List ℕ) (met : ℕ → List ℕ)
    (each : (i : ℕ) → i < v.nhash → IsPermutation (met i) (near_positions v q i)) where
  all : List ℕ
  all = flat_map met (range_with_len 0 v.nhash)

  pub met_within : All (λ p. p < length v.codes) (first_met [] (flat_map met (range_with_len 0 v.nhash)))
  unfolding all
  met_within =
      let P : ℕ → Type 0 = λ p. p < length v.codes in
      All-first_met P [] all (All-nil P) (All-flat P met 0 v.nhash (λ i l m.
      All-permutation P (near_positions v q i) (met i)
      (IsPermutation-sym (met i) (near_positions v q i) (each i (omega arith))) (near_within v q i)))

  met_in : (i p : ℕ) → i < v.nhash → p < length v.codes
      → times p (met i) ≡ cond (nat_le (dist_between (get_or v.codes p []) q (i * v.b) (i * v.b + v.b)) v.nflip) 1 0
  met_in i p h low =
      let code : List ℕ = get_or v.codes p [] in
      times-permutation p (met i) (near_positions v q i) (each i h)
      ∙ times-filter (is_near_at v q i) p (range_with_len 0 (length v.codes))
      ∙ ap (λ (n : ℕ). cond (is_near_at v q i p) n 0) (times-range p 0 (length v.codes) (omega arith) (omega arith))
      ∙ ap (λ (t : Bool). cond {A = ℕ} t 1 0) (near_key code q i v.b v.nflip)

  offered : (k : ℕ) (d : Row) → k < length (numbered 0 v.codes)
      → times (nat_abs (get_or (numbered 0 v.codes) k d).label) (first_met [] all)
      ≡ cond (is_probed_multi v q (get_or (numbered 0 v.codes) k d)) 1 0
  unfolding all
  offered k d h =
      let low : k < length v.codes = omega (arith, length-numbered 0 v.codes) in
      let at : 0 + k ≡ k = omega arith in
      let row : get_or (numbered 0 v.codes) k d ≡ row_at v.codes k =
      get-numbered 0 v.codes k d [] low ∙ ap (λ (n : ℕ). record { label = pos n; code = get_or v.codes k [] }) at in
      subst (λ (r : Row). times (nat_abs r.label) (first_met [] all) ≡ cond (is_probed_multi v q r) 1 0) (sym row)
      (times-first_met k [] all no_times
      ∙ omega (arith, met_is (get_or v.codes k []) q v.b v.nflip k met v.nhash (λ i l. met_in i k l low)))

  -- the rows at the positions that are met first are those that are probed, each once
  pub met_rows : IsPermutation (map (row_at v.codes) (first_met [] (flat_map met (range_with_len 0 v.nhash))))
      (probed_rows (Bare (Multi v)) q)
  unfolding all
  met_rows = subst (λ (rows : List Row). IsPermutation rows (probed_rows (Bare (Multi v)) q))
      (rows_under v.codes (first_met [] all) met_within)
      (offered_rows (is_probed_multi v q) v.codes (first_met [] all) offered)
