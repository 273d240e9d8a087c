-- A map of a MultiHash: its fields are those of its entries, and the other way round.
use Rattle.std.proofs.Common.{◌≡◌, inl, inr, ℕ, suc, ◌+◌, ◌-◌, ◌*◌, ◌/◌, ◌^◌, ◌<◌}
use Rattle.std.proofs.Common.{◌≤◌, ℤ, pos, Bool, true, false, cond, eqb, ltb, not, ◌||◌, ◌&&◌, List, []}
use Rattle.std.proofs.Common.{◌∷◌, ◌++◌, length, map, get_or, All, None, refl, sym, ap, subst, ◌∙◌}
use Rattle.std.proofs.Common.{append_assoc, arith}
use Rattle.std.specs.Prelude.{count_by, nat_eq}
use Rattle.std.specs.Ordering.{int_eq}
use Rattle.std.specs.List.{list_any, AllPairs}
use Rattle.std.proofs.lemmas.Bool.{cases_Bool, cases_eq, cases_lt, eqb-true, eq-eqb, ne_eqb, le-ltb, not-false}
use Rattle.std.proofs.lemmas.Bool.{not_from_true, or_from}
use Rattle.std.proofs.lemmas.Bool.Decides.{Decides-int_eq}
use Rattle.std.proofs.lemmas.Nat.{pow_pos}
use Rattle.std.proofs.lemmas.List.{append-nil, length-append, length-map, map-append}
use Rattle.std.proofs.lemmas.List.Sums.{sum_by-cons}
use Rattle.std.proofs.lemmas.List.Elements.{All-nil, All-cons, All-head, All-tail, All-append, All-map}
use Rattle.bcodes.specs.Bits.{key}
use Rattle.bcodes.specs.Value.{MultiValue, IsNumbering}
use Rattle.file_parts.specs.Format.{Spells, first_refusal}
use Rattle.file_parts.specs.Fields.{number_of}
use Rattle.file_parts.proofs.Reading.{one_check}
use Rattle.bit_strings.specs.Packed.{total_width}
use Rattle.index_files.specs.Groups.{IsLeast, Entry, all_positions}
use Rattle.multi_hash.specs.Maps.{map_key}
use Rattle.index_files.specs.Canon.{position_width}
use Rattle.index_files.specs.File.{AreEntries, bits_of_entry, entry_bits, MapPart}
use Rattle.index_files.specs.HashFormat.{has_padding}
use Rattle.index_files.specs.MultiFormat.{map_run_checks, map_fields}
use Rattle.index_files.proofs.Heads.{pass_one}
use Rattle.index_files.proofs.Elements.{IsBytes, front-bytes, back-bytes}
use Rattle.index_files.proofs.FileLaws.{at_end}
use Rattle.index_files.proofs.Numbering.{IsBelow, label_count, count-same, count-other, count-append, count-cons}
use Rattle.index_files.proofs.Numbering.{below-all, below-each, numbering-found}
use Rattle.bit_strings.proofs.PackedLemmas.{At, Fits, byte_count, packed-found, packed-again}
use Rattle.index_files.proofs.Width.{width-is, width-only}
use Rattle.index_files.proofs.HashLaw.{key-below}
use Rattle.index_files.proofs.MultiRun.{NewPositions, NewEntries, code_key, Fresh, fresh-all, below-entries}
use Rattle.index_files.proofs.MultiRun.{under-entries, some-entries, keys-differ, run-found, run-again, run-width}

-- ---- numbers as labels

abbrev placed : List ℕ → List ℤ
placed xs = map (λ x. pos x) xs

test-same : (k x : ℕ) → nat_eq k x ≡ int_eq (pos k) (pos x)
test-same k x =
    elim (cases_eq k x) [
      | inl e ↦ eq-eqb k x e ∙ sym ((Decides-int_eq (pos k) (pos x)).1 (ap (λ (n : ℕ). pos n) e))
      | inr ne ↦ ne_eqb k x ne ∙ sym (other (int_eq (pos k) (pos x)) refl ne)
    ]
  where
    same : pos k ≡ pos x → k ≡ x
    same e = cc

    other : (t : Bool) → int_eq (pos k) (pos x) ≡ t → (k ≡ x → ⊥) → t ≡ false
    other true e ne = absurd (ne (same ((Decides-int_eq (pos k) (pos x)).0 e)))
    other false e ne = refl

pub count-placed : (k : ℕ) (xs : List ℕ) → count_by (nat_eq k) xs ≡ label_count k (placed xs)
count-placed k [] = refl
count-placed k (x ∷ xs) =
    let one : count_by (nat_eq k) (x ∷ xs) ≡ cond (nat_eq k x) 1 0 + count_by (nat_eq k) xs =
    sum_by-cons (λ y. cond (nat_eq k y) 1 0) x xs in
    one ∙ ap (λ t. cond t 1 0 + count_by (nat_eq k) xs) (test-same k x)
    ∙ ap (λ n. cond (int_eq (pos k) (pos x)) 1 0 + n) (count-placed k xs)
    ∙ sym (count-cons k (pos x) (placed xs))

any-end : (test : ℕ → Bool) (xs : List ℕ) (x : ℕ) → test x ≡ true
    → list_any test (xs ++ x ∷ []) ≡ true
any-end test [] x e = rw e refl
any-end test (y ∷ ys) x e = or-right (test y) (list_any test (ys ++ x ∷ [])) (any-end test ys x e)
  where
    or-right : (a c : Bool) → c ≡ true → (a || c) ≡ true
    or-right true c e = refl
    or-right false c e = e

any-more : (test : ℕ → Bool) (xs : List ℕ) (x : ℕ) → list_any test xs ≡ true
    → list_any test (xs ++ x ∷ []) ≡ true
any-more test [] x e = absurd cc
any-more test (y ∷ ys) x e = elim (cases_Bool (test y)) [
  | inl t ↦ rw t refl
  | inr f ↦ (let r : list_any test ys ≡ true = rw f at e in rw f (any-more test ys x r))
]

clash : (a : Bool) → a ≡ true → a ≡ false → ⊥
clash true e f = absurd cc
clash false e f = absurd cc

module _ (cs : List (List ℕ)) (i b : ℕ) where
  fresh-none : (k : ℕ) (met xs : List ℕ) → Fresh cs i b met xs → list_any (λ m. eqb m k) met ≡ true
      → label_count k (placed xs) ≡ 0
  fresh-none k met [] h e = refl
  fresh-none k met (x ∷ xs) (fresh, h) e =
      let differ : x ≡ k → ⊥ = λ is. clash (list_any (λ m. eqb m x) met)
      (ap (λ (y : ℕ). list_any (λ m. eqb m y) met) is ∙ e) fresh in
      count-other k x (placed xs) differ ∙ fresh-none k (met ++ x ∷ []) xs h (any-more (λ m. eqb m k) met x e)

  fresh-once : (k : ℕ) (met xs : List ℕ) → Fresh cs i b met xs → label_count k (placed xs) ≤ 1
  fresh-once k met [] h = omega arith
  fresh-once k met (x ∷ xs) (fresh, h) =
      elim (cases_eq x k) [
        | inl is ↦ (let none = fresh-none k (met ++ x ∷ []) xs h
            (any-end (λ m. eqb m k) met x (eq-eqb x k is)) in
            omega (arith, count-same k (pos x) (placed xs) (ap (λ (n : ℕ). pos n) is), none))
        | inr ne ↦ omega (arith, count-other k x (placed xs) ne, fresh-once k (met ++ x ∷ []) xs h)
      ]

  -- ---- the other way round

  -- no number comes twice
  abbrev Single : List ℕ → Type 0
  Single xs = (k : ℕ) → label_count k (placed xs) ≤ 1

  any-count : (k : ℕ) (met : List ℕ) → list_any (λ m. eqb m k) met ≡ true → 1 ≤ label_count k (placed met)
  any-count k [] e = absurd cc
  any-count k (m ∷ met) e =
      elim (cases_eq m k) [
        | inl is ↦ omega (arith, count-same k (pos m) (placed met) (ap (λ (n : ℕ). pos n) is))
        | inr ne ↦ (let f = ne_eqb m k ne in let r : list_any (λ m. eqb m k) met ≡ true = rw f at e in
            omega (arith, count-other k m (placed met) ne, any-count k met r))
      ]

  count-split : (k : ℕ) (xs ys : List ℕ)
      → label_count k (placed (xs ++ ys)) ≡ label_count k (placed xs) + label_count k (placed ys)
  count-split k xs ys = ap (label_count k) (map-append (λ (x : ℕ). pos x) xs ys)
      ∙ count-append k (placed xs) (placed ys)

  not-met : (met : List ℕ) (x : ℕ) (rest : List ℕ) → Single (met ++ x ∷ rest)
      → list_any (λ m. eqb m x) met ≡ false
  not-met met x rest single =
      elim (cases_Bool (list_any (λ m. eqb m x) met)) [
        | inl e ↦ absurd (omega (
          arith,
          single x,
          count-split x met (x ∷ rest),
          any-count x met e,
          count-same x (pos x) (placed rest) refl,
        ))
        | inr e ↦ e
      ]

  positions-from : (k : ℕ) (met ps rest : List ℕ) → Single (met ++ (ps ++ rest))
      → All (λ p. p < length cs) ps → All (λ p. code_key cs i b p ≡ k) ps → NewPositions cs i b k met ps
  positions-from k met [] rest single lt under = tt
  positions-from k met (p ∷ ps) rest single lt under =
      let move : met ++ (p ∷ (ps ++ rest)) ≡ (met ++ p ∷ []) ++ (ps ++ rest) =
      sym (append_assoc met (p ∷ []) (ps ++ rest)) in (
        All-head (λ p. p < length cs) p ps lt,
        not-met met p (ps ++ rest) single,
        All-head (λ p. code_key cs i b p ≡ k) p ps under,
        positions-from k (met ++ p ∷ []) ps rest (subst Single move single) (All-tail (λ p. p < length cs) p ps lt)
            (All-tail (λ p. code_key cs i b p ≡ k) p ps under),
      )

  all-front : (P : ℕ → Type 0) (xs ys : List ℕ) → All P (xs ++ ys) → All P xs
  all-front P [] ys h = All-nil P
  all-front P (x ∷ xs) ys h = All-cons P x xs (All-head P x (xs ++ ys) h)
      (all-front P xs ys (All-tail P x (xs ++ ys) h))

  all-back : (P : ℕ → Type 0) (xs ys : List ℕ) → All P (xs ++ ys) → All P ys
  all-back P [] ys h = h
  all-back P (x ∷ xs) ys h = all-back P xs ys (All-tail P x (xs ++ ys) h)

  entries-from : (seen met : List ℕ) (es : List Entry) → Single (met ++ all_positions es)
      → All (λ p. p < length cs) (all_positions es) → AllPairs (λ d e. d.key ≡ e.key → ⊥) es
      → All (λ e. list_any (λ j. eqb j e.key) seen ≡ false) es
      → All (λ e. 0 < length e.positions) es → All (λ e. All (λ p. code_key cs i b p ≡ e.key) e.positions) es
      → length met + length (all_positions es) ≤ length cs → NewEntries cs i b seen met es
  entries-from seen met [] single lt differ fresh some under most = tt
  entries-from seen met (e ∷ es) single lt differ fresh some under most =
      let long : length (all_positions (e ∷ es)) ≡ length e.positions + length (all_positions es) =
      length-append e.positions (all_positions es) in
      let move : met ++ (e.positions ++ all_positions es) ≡ (met ++ e.positions) ++ all_positions es =
      sym (append_assoc met e.positions (all_positions es)) in
      let F = λ (e : Entry). list_any (λ j. eqb j e.key) seen ≡ false in
      let next : All (λ d. list_any (λ j. eqb j d.key) (e.key ∷ seen) ≡ false) es =
      λ j d less. or_from _ _ (ne_eqb e.key (get_or es j d).key
      (differ 0 (suc j) d (omega arith) (omega (arith, less)))) (All-tail F e es fresh j d less) in (
        All-head F e es fresh,
        All-head (λ (e : Entry). 0 < length e.positions) e es some,
        omega (arith, long, most),
        positions-from e.key met e.positions (all_positions es) single
            (all-front (λ p. p < length cs) e.positions (all_positions es) lt)
            (All-head (λ (e : Entry). All (λ p. code_key cs i b p ≡ e.key) e.positions) e es under),
        entries-from (e.key ∷ seen) (met ++ e.positions) es (subst Single move single)
            (all-back (λ p. p < length cs) e.positions (all_positions es) lt)
            (λ x y d l less. differ (suc x) (suc y) d (omega (arith, l)) (omega (arith, less))) next
            (All-tail (λ (e : Entry). 0 < length e.positions) e es some)
            (All-tail (λ (e : Entry). All (λ p. code_key cs i b p ≡ e.key) e.positions) e es under)
            (omega (arith, length-append met e.positions, long, most)),
      )

  sizes-fit : (run : List ℕ) (n from : ℕ) (es : List Entry) → At run from (entry_bits b n es)
      → All (λ e. length e.positions < 2 ^ n) es
  sizes-fit run n from [] at = All-nil (λ e. length e.positions < 2 ^ n)
  sizes-fit run n from (e ∷ es) (k_is, (s_is, at)) =
      All-cons (λ (e : Entry). length e.positions < 2 ^ n) e es (omega (arith, s_is, key-below run (from + b) n))
      (sizes-fit run n (from + b + n + length e.positions * n) es (past e.positions (from + b + n) at))
    where
      past : (ps : List ℕ) (f : ℕ) → At run f
          (map (λ p. record { number = p; width = n }) ps ++ entry_bits b n es)
          → At run (f + length ps * n) (entry_bits b n es)
      past [] f h = (let z : f ≡ f + 0 * n = omega arith in subst (λ x. At run x (entry_bits b n es)) z h)
      past (p ∷ ps) f (here, h) = (let e : (f + n) + length ps * n ≡ f + suc (length ps) * n = grind arith in
          subst (λ x. At run x (entry_bits b n es)) e (past ps (f + n) h))

  pub all-fit : (n : ℕ) (es : List Entry) → All (λ e. e.key < 2 ^ b) es
      → All (λ e. length e.positions < 2 ^ n) es → All (λ p. p < 2 ^ n) (all_positions es)
      → All Fits (entry_bits b n es)
  all-fit n [] ks ss ps = All-nil Fits
  all-fit n (e ∷ es) ks ss ps =
      let positions = map (λ p. record { number = p; width = n }) e.positions in
      let first : All Fits (bits_of_entry b n e) =
      All-cons Fits (record { number = e.key; width = b })
      (record { number = length e.positions; width = n } ∷ positions)
      (All-head (λ (e : Entry). e.key < 2 ^ b) e es ks)
      (All-cons Fits (record { number = length e.positions; width = n }) positions
      (All-head (λ (e : Entry). length e.positions < 2 ^ n) e es ss)
      (All-map Fits (λ p. record { number = p; width = n }) e.positions
      (all-front (λ p. p < 2 ^ n) e.positions (all_positions es) ps))) in
      All-append Fits (bits_of_entry b n e) (entry_bits b n es) first
      (all-fit n es (All-tail (λ (e : Entry). e.key < 2 ^ b) e es ks)
      (All-tail (λ (e : Entry). length e.positions < 2 ^ n) e es ss)
      (all-back (λ p. p < 2 ^ n) e.positions (all_positions es) ps))

  keys-fit : (es : List Entry) → All (λ e. 0 < length e.positions) es
      → All (λ e. All (λ p. code_key cs i b p ≡ e.key) e.positions) es → All (λ e. e.key < 2 ^ b) es
  keys-fit es some under j d lt = one (get_or es j d) (some j d lt) (under j d lt)
    where
      one : (e : Entry) → 0 < length e.positions → All (λ p. code_key cs i b p ≡ e.key) e.positions
          → e.key < 2 ^ b
      one e s u = (let is = u 0 0 s in omega (arith, is, key-below (get_or cs (get_or e.positions 0 0) []) (i * b) b))

-- ---- the width of positions

pub position-width : (count : ℕ) → count < 2 ^ 64 → IsLeast (λ n. count ≤ 2 ^ n) (position_width count)
position-width count lt =
    let w = width-is (count - 1) (omega (arith, lt)) in
    record { holds = omega (arith, w.holds); least = λ m h. w.least m (omega (arith, h, pow_pos m)) }

pub position-only : (count n : ℕ) → count < 2 ^ 64 → IsLeast (λ n. count ≤ 2 ^ n) n
    → n ≡ position_width count
position-only count n lt h = width-only (count - 1) n (omega (arith, lt))
    (record { holds = omega (arith, h.holds, pow_pos n); least = λ m k. h.least m (omega (arith, k)) })

-- ---- a map

module _ (v : MultiValue) (i : ℕ) (few : length v.codes < 2 ^ 64) where
  are-found : (es : List Entry) → NewEntries v.codes i v.b [] [] es → length (all_positions es) ≡ length v.codes
      → AreEntries v i es
  unfolding map_key
  are-found es new total =
      let below = below-entries v.codes i v.b [] [] es new in
      let xs = all_positions es in
      let len : length (placed xs) ≡ length xs = length-map xs (λ (x : ℕ). pos x) in
      let places : All (IsBelow (length (placed xs))) (placed xs) =
      All-map (IsBelow (length (placed xs))) (λ (x : ℕ). pos x) xs
      (λ j d lt. record { place = get_or xs j d; is = refl; less = omega (arith, below j d lt, len, total) }) in
      let once : IsNumbering (placed xs) = numbering-found (placed xs) places
      (λ k. fresh-once v.codes i v.b k [] xs (fresh-all v.codes i v.b [] [] es new)) in
      record {
        keys = keys-differ v.codes i v.b [] [] es new;
        some = some-entries v.codes i v.b [] [] es new;
        once = λ p lt. count-placed p xs ∙ once p (omega (arith, len, total, lt));
        below = below;
        under = under-entries v.codes i v.b [] [] es new;
      }

  pub total-again : (es : List Entry) → AreEntries v i es → length (all_positions es) ≡ length v.codes
  total-again es h =
      let xs = all_positions es in
      let places : All (IsBelow (length v.codes)) (placed xs) =
      All-map (IsBelow (length v.codes)) (λ (x : ℕ). pos x) xs
      (λ j d lt. record { place = get_or xs j d; is = refl; less = h.below j d lt }) in
      let one = below-all (length v.codes) (placed xs) places in
      let two = below-each (length v.codes) (placed xs) (λ k lt. sym (count-placed k xs) ∙ h.once k lt) in
      omega (arith, one, two, length-map xs (λ (x : ℕ). pos x))

  single-again : (es : List Entry) → AreEntries v i es → (k : ℕ)
      → label_count k (placed (all_positions es)) ≤ 1
  single-again es h k = go (all_positions es) h.below (λ lt. sym (count-placed k (all_positions es)) ∙ h.once k lt)
    where
      none : (xs : List ℕ) → All (λ p. p < length v.codes) xs → length v.codes ≤ k
          → label_count k (placed xs) ≡ 0
      none [] a le = refl
      none (x ∷ xs) a le = (let lt = All-head (λ p. p < length v.codes) x xs a in
          count-other k x (placed xs) (λ e. omega (arith, e, lt, le))
          ∙ none xs (All-tail (λ p. p < length v.codes) x xs a) le)

      go : (xs : List ℕ) → All (λ p. p < length v.codes) xs
          → (k < length v.codes → label_count k (placed xs) ≡ 1) → label_count k (placed xs) ≤ 1
      go xs a f = elim (cases_lt k (length v.codes)) [
        | inl lt ↦ omega (arith, f lt)
        | inr le ↦ omega (arith, none xs a le)
      ]

  pub map-found : (bytes : List ℕ) (u : Unit {0}) → IsBytes bytes → Spells (map_fields v.codes v.b i) bytes u
      → MapPart v i bytes
  unfolding map_fields
  map-found bytes u fits (
    b1,
    r1,
    p1,
    l1,
    c1,
    (b2, r2, p2, l2, c2, (b3, r3, p3, l3, c3, (run, r4, p4, l4, c4, (none, is)))),
  ) =
      let cs = v.codes in
      let n = number_of 4 b1 in
      let buckets = number_of 8 b2 in
      let width : n ≡ position_width (length cs) = eqb-true _ _ (not-false _ (one_check _ _ c1)) in
      let size : number_of 8 b3 ≡ ((v.b + n) * buckets + length cs * n + 7) / 8 =
      eqb-true _ _ (not-false _ (one_check _ _ c3)) in
      let f = run-found cs i v.b n buckets run 0 [] [] c4 in
      let es = f.entries in
      let total : length (all_positions es) ≡ length cs = omega (arith, f.total_is) in
      let fits4 = front-bytes r3 run r4 p4 (back-bytes r2 b3 r3 p3
      (back-bytes r1 b2 r2 p2 (back-bytes bytes b1 r1 p1 fits))) in
      let w : total_width (entry_bits v.b n es) ≡ (v.b + n) * buckets + length cs * n =
      run-width cs i v.b n es ∙ ap (λ m. (v.b + n) * m + length (all_positions es) * n) f.count
      ∙ ap (λ m. (v.b + n) * buckets + m * n) total in
      let len : length run ≡ byte_count (entry_bits v.b n es) = l4 ∙ size ∙ ap (λ m. (m + 7) / 8) (sym w) in
      let zeros : key run (total_width (entry_bits v.b n es)) (8 * length run - total_width (entry_bits v.b n es))
      ≡ 0 = eqb-true _ _ (not-false _ (let z : 0 + total_width (entry_bits v.b n es)
      ≡ total_width (entry_bits v.b n es) = omega arith in
      subst (λ k. has_padding run k ≡ false) z f.zeros)) in
      let packed_is = packed-found run (entry_bits v.b n es) fits4 f.at len zeros in
      let least = subst (IsLeast (λ n. length cs ≤ 2 ^ n)) (sym width) (position-width (length cs) few) in
      let last : r3 ≡ run = at_end r3 run r4 p4 none in (
        es,
        n,
        are-found es f.new total,
        least,
        sizes-fit cs i v.b run n 0 es f.at,
        (
          b1,
          r1,
          p1,
          record { size = l1; reads = refl },
          (
            b2,
            r2,
            p2,
            record { size = l2; reads = sym f.count },
            (
              b3,
              r3,
              p3,
              record { size = l3; reads = sym l4 ∙ ap length (sym packed_is) },
              last
                  ∙ sym packed_is,
            ),
          ),
        ),
      )

  pub map-again : (bytes : List ℕ) (u : Unit {0}) → MapPart v i bytes → Spells (map_fields v.codes v.b i) bytes u
  unfolding map_fields map_key
  map-again bytes u (es, n, are, least, fit, (b1, r1, p1, n1, (b2, r2, p2, n2, (b3, r3, p3, n3, run_is)))) =
      let cs = v.codes in
      let width : n ≡ position_width (length cs) = position-only (length cs) n few least in
      let total = total-again es are in
      let new = entries-from cs i v.b [] [] es (single-again es are) are.below are.keys
      (λ j d lt. refl) are.some are.under (omega (arith, total)) in
      let positions-fit : All (λ p. p < 2 ^ n) (all_positions es) =
      λ j d lt. omega (arith, are.below j d lt, least.holds) in
      let again = packed-again (entry_bits v.b n es)
      (all-fit cs i v.b n es (keys-fit cs i v.b es are.some are.under) fit positions-fit) in
      let at : At r3 0 (entry_bits v.b n es) =
      subst (λ (x : List ℕ). At x 0 (entry_bits v.b n es)) (sym run_is) again.at in
      let w = run-width cs i v.b n es in
      let w' : total_width (entry_bits v.b n es) ≡ (v.b + n) * length es + length cs * n =
      w ∙ ap (λ m. (v.b + n) * length es + m * n) total in
      let zeros : has_padding r3 (0 + total_width (entry_bits v.b n es)) ≡ false =
      not_from_true _ (eq-eqb _ _ (let z : total_width (entry_bits v.b n es)
      ≡ 0 + total_width (entry_bits v.b n es) = omega arith in
      subst (λ k. key r3 k (8 * length r3 - k) ≡ 0) z
      (subst (λ (x : List ℕ). key x (total_width (entry_bits v.b n es))
      (8 * length x - total_width (entry_bits v.b n es)) ≡ 0) (sym run_is) again.zeros))) in
      let c4 : first_refusal (map_run_checks cs i v.b n r3 (length es) 0 [] []) ≡ None =
      run-again cs i v.b n es r3 0 [] [] at new (omega (arith, total)) zeros in
      let size : length r3 ≡ ((v.b + n) * length es + length cs * n + 7) / 8 =
      ap length run_is ∙ again.size ∙ ap (λ m. (m + 7) / 8) w' in
      let c1 = pass_one (not (eqb n (position_width (length cs)))) _
      (not_from_true _ (eq-eqb n (position_width (length cs)) width)) in
      let c2 = pass_one (ltb (length cs) (length es) || (eqb (length es) 0 && not (eqb (length cs) 0))) _
      (or_from _ _ (le-ltb (length cs) (length es) (omega (arith, entry-few es are.some, total)))
      (none-empty es (length cs) total)) in
      let c3 = pass_one (not (eqb (((v.b + n) * length es + length cs * n + 7) / 8)
      (((v.b + n) * length es + length cs * n + 7) / 8))) _
      (not_from_true _ (eq-eqb (((v.b + n) * length es + length cs * n + 7) / 8)
      (((v.b + n) * length es + length cs * n + 7) / 8) refl)) in
      let n3' : number_of 8 b3 ≡ ((v.b + n) * length es + length cs * n + 7) / 8 =
      n3.reads ∙ ap length (sym run_is) ∙ size in (
        b1,
        r1,
        p1,
        n1.size,
        rw n1.reads c1,
        rw n1.reads (
          b2,
          r2,
          p2,
          n2.size,
          rw n2.reads c2,
          rw n2.reads (b3, r3, p3, n3.size, rw n3' c3, rw n3' (r3, [], sym (append-nil r3), size, c4, (refl, refl))),
        ),
      )
    where
      entry-few : (es : List Entry) → All (λ e. 0 < length e.positions) es
          → length es ≤ length (all_positions es)
      entry-few [] h = omega arith
      entry-few (e ∷ es) h = omega (
        arith,
        length-append e.positions (all_positions es),
        entry-few es (All-tail (λ (e : Entry). 0 < length e.positions) e es h),
        All-head (λ (e : Entry). 0 < length e.positions) e es h,
      )

      none-empty : (es : List Entry) (m : ℕ) → length (all_positions es) ≡ m
          → (eqb (length es) 0 && not (eqb m 0)) ≡ false
      none-empty [] m e = (let z : m ≡ 0 = sym e in rw z refl)
      none-empty (x ∷ es) m e = (let k = ne_eqb (suc (length es)) 0 (omega arith) in rw k refl)
