-- The packed run of a map of a MultiHash: what is read is spelled so, and the other way round.
use Rattle.std.proofs.Common.{◌≡◌, ℕ, zero, suc, ◌+◌, ◌*◌, ◌<◌, ◌≤◌, Bool, true, false, eqb}
use Rattle.std.proofs.Common.{ltb, leb, not, ◌||◌, List, [], ◌∷◌, ◌++◌, length, map, get_or, All, None}
use Rattle.std.proofs.Common.{refl, sym, ap, subst, ◌∙◌, append_assoc, arith}
use Rattle.std.specs.List.{list_any, AllPairs}
use Rattle.std.proofs.lemmas.Bool.{eqb-true, eqb-false, eq-eqb, ne_eqb, ltb-false, le-ltb, leb-false, lt-leb, not-false}
use Rattle.std.proofs.lemmas.Bool.{not_from_true, or_parts, or_from}
use Rattle.std.proofs.lemmas.List.{append-nil, length-append}
use Rattle.std.proofs.lemmas.List.Kept.{AllPairs-cons}
use Rattle.std.proofs.lemmas.List.Sums.{sum_by-cons, sum_by-append}
use Rattle.std.proofs.lemmas.List.Elements.{All-nil, All-cons, All-append}
use Rattle.bcodes.specs.Bits.{key}
use Rattle.file_parts.specs.declared.reason.Reason.TheVariants as reason
use Rattle.file_parts.specs.Format.{Check, ◌⇒◌, first_refusal}
use Rattle.bit_strings.specs.Packed.{Bits, total_width}
use Rattle.index_files.specs.Groups.{Entry, all_positions}
use Rattle.index_files.specs.File.{bits_of_entry, entry_bits}
use Rattle.index_files.specs.HashFormat.{has_padding}
use Rattle.index_files.specs.MultiFormat.{numbers_in, position_checks, map_run_checks}
use Rattle.index_files.proofs.HashRun.{both-pass, pass-both, first-passes, passes-first}
use Rattle.bit_strings.proofs.PackedLemmas.{At}

-- ---- what the checks say

-- the key of the code at a position under map i
abbrev pub code_key : List (List ℕ) → ℕ → ℕ → ℕ → ℕ
code_key cs i b p = key (get_or cs p []) (i * b) b

-- positions that are new after those met, each under this key
abbrev pub NewPositions : List (List ℕ) → ℕ → ℕ → ℕ → List ℕ → List ℕ → Type 0
NewPositions cs i b k met [] = Unit {0}
NewPositions cs i b k met (p ∷ ps) = (p < length cs) × (list_any (λ m. eqb m p) met ≡ false)
    × (code_key cs i b p ≡ k) × NewPositions cs i b k (met ++ p ∷ []) ps

-- entries that are new after the keys seen and the positions met
abbrev pub NewEntries : List (List ℕ) → ℕ → ℕ → List ℕ → List ℕ → List Entry → Type 0
NewEntries cs i b seen met [] = Unit {0}
NewEntries cs i b seen met (e ∷ es) =
    (list_any (λ j. eqb j e.key) seen ≡ false) × (0 < length e.positions)
    × (length met + length e.positions ≤ length cs)
    × NewPositions cs i b e.key met e.positions × NewEntries cs i b (e.key ∷ seen) (met ++ e.positions) es

module _ (cs : List (List ℕ)) (i b : ℕ) where
  positions-new : (k : ℕ) (met ps : List ℕ) → first_refusal (position_checks cs i b k met ps) ≡ None
      → NewPositions cs i b k met ps
  positions-new k met [] h = tt
  positions-new k met (p ∷ ps) h =
      let one = first-passes (leb (length cs) p || list_any (λ m. eqb m p) met) reason.Positions
      ((not (eqb (code_key cs i b p) k) ⇒ reason.WrongBucket) ∷ position_checks cs i b k (met ++ p ∷ []) ps)
      h in
      let two = first-passes (not (eqb (code_key cs i b p) k)) reason.WrongBucket
      (position_checks cs i b k (met ++ p ∷ []) ps) one.1 in
      let parts = or_parts (leb (length cs) p) (list_any (λ m. eqb m p) met) one.0 in (
        leb-false (length cs) p parts.0,
        parts.1,
        eqb-true _ _ (not-false _ two.0),
        positions-new k (met ++ p ∷ []) ps two.1,
      )

  new-positions : (k : ℕ) (met ps : List ℕ) → NewPositions cs i b k met ps
      → first_refusal (position_checks cs i b k met ps) ≡ None
  new-positions k met [] h = refl
  new-positions k met (p ∷ ps) (lt, fresh, same, h) =
      passes-first (leb (length cs) p || list_any (λ m. eqb m p) met) reason.Positions
      ((not (eqb (code_key cs i b p) k) ⇒ reason.WrongBucket) ∷ position_checks cs i b k (met ++ p ∷ []) ps)
      (or_from _ _ (lt-leb (length cs) p lt) fresh)
      (passes-first (not (eqb (code_key cs i b p) k)) reason.WrongBucket
      (position_checks cs i b k (met ++ p ∷ []) ps) (not_from_true _ (eq-eqb _ _ same))
      (new-positions k (met ++ p ∷ []) ps h))

  -- ---- positions as packed numbers

  wide : ℕ → ℕ → Bits
  wide n p = record { number = p; width = n }

  numbers-at : (run : List ℕ) (n k from : ℕ) (rest : List Bits) → At run (from + k * n) rest
      → At run from (map (λ p. record { number = p; width = n }) (numbers_in run from n k) ++ rest)
  numbers-at run n zero from rest h = (let e : from + 0 * n ≡ from = omega arith in subst (λ f. At run f rest) e h)
  numbers-at run n (suc k) from rest h = (let e : from + suc k * n ≡ (from + n) + k * n = grind arith in
      (refl, numbers-at run n k (from + n) rest (subst (λ f. At run f rest) e h)))

  at-numbers : (run : List ℕ) (n from : ℕ) (ps : List ℕ) (rest : List Bits)
      → At run from (map (λ p. record { number = p; width = n }) ps ++ rest)
      → (numbers_in run from n (length ps) ≡ ps) × At run (from + length ps * n) rest
  at-numbers run n from [] rest h = (let e : from ≡ from + 0 * n = omega arith in
      (refl, subst (λ f. At run f rest) e h))
  at-numbers run n from (p ∷ ps) rest (here, h) =
      let ih = at-numbers run n (from + n) ps rest h in
      let e : (from + n) + length ps * n ≡ from + suc (length ps) * n = grind arith in (
        ap (λ (x : ℕ). x ∷ numbers_in run (from + n) n (length ps)) here
            ∙ ap (λ (xs : List ℕ). p ∷ xs) ih.0,
        subst (λ f. At run f rest) e ih.1,
      )

  length-numbers : (run : List ℕ) (n k from : ℕ) → length (numbers_in run from n k) ≡ k
  length-numbers run n zero from = refl
  length-numbers run n (suc k) from = ap suc (length-numbers run n k (from + n))

  -- ---- the whole run

  pub record RunFound (n buckets : ℕ) (run : List ℕ) (from : ℕ) (seen met : List ℕ) : Type 0 where
    pub entries : List Entry
    pub count : length entries ≡ buckets
    pub at : At run from (entry_bits b n entries)
    pub new : NewEntries cs i b seen met entries
    pub total_is : length met + length (all_positions entries) ≡ length cs
    pub zeros : has_padding run (from + total_width (entry_bits b n entries)) ≡ false

  entry-width : (n : ℕ) (e : Entry) (es : List Entry)
      → total_width (entry_bits b n (e ∷ es))
      ≡ (b + n + length e.positions * n) + total_width (entry_bits b n es)
  entry-width n e es =
      let positions = map (λ p. record { number = p; width = n }) e.positions in
      let one : total_width (entry_bits b n (e ∷ es))
      ≡ total_width (bits_of_entry b n e) + total_width (entry_bits b n es) =
      sum_by-append (λ (x : Bits). x.width) (bits_of_entry b n e) (entry_bits b n es) in
      let two : total_width (bits_of_entry b n e) ≡ b + (n + total_width positions) =
      sum_by-cons (λ (x : Bits). x.width) (record { number = e.key; width = b })
      (record { number = length e.positions; width = n } ∷ positions)
      ∙ ap (λ k. b + k) (sum_by-cons (λ (x : Bits). x.width)
      (record { number = length e.positions; width = n }) positions) in
      omega (arith, one, two, all-width e.positions)
    where
      all-width : (ps : List ℕ) → total_width (map (λ p. record { number = p; width = n }) ps) ≡ length ps * n
      all-width [] = omega arith
      all-width (p ∷ ps) =
          let one : total_width (map (λ p. record { number = p; width = n }) (p ∷ ps))
          ≡ n + total_width (map (λ p. record { number = p; width = n }) ps) =
          sum_by-cons (λ (x : Bits). x.width) (record { number = p; width = n })
          (map (λ p. record { number = p; width = n }) ps) in
          let two : suc (length ps) * n ≡ n + length ps * n = grind arith in
          omega (arith, one, two, all-width ps)

  pub run-width : (n : ℕ) (es : List Entry)
      → total_width (entry_bits b n es) ≡ (b + n) * length es + length (all_positions es) * n
  run-width n [] = omega arith
  run-width n (e ∷ es) =
      let all : length (all_positions (e ∷ es)) ≡ length e.positions + length (all_positions es) =
      length-append e.positions (all_positions es) in
      let two : (b + n) * suc (length es) ≡ (b + n) * length es + (b + n) = grind arith in
      let three : (length e.positions + length (all_positions es)) * n
      ≡ length e.positions * n + length (all_positions es) * n = grind arith in
      let four : length (all_positions (e ∷ es)) * n ≡ (length e.positions + length (all_positions es)) * n =
      ap (λ k. k * n) all in
      omega (arith, entry-width n e es, run-width n es, two, three, four)

  pub run-found : (n buckets : ℕ) (run : List ℕ) (from : ℕ) (seen met : List ℕ)
      → first_refusal (map_run_checks cs i b n run buckets from seen met) ≡ None
      → RunFound n buckets run from seen met
  unfolding map_run_checks
  run-found n zero run from seen met h =
      let one = first-passes (not (eqb (length met) (length cs))) reason.ListSizes
      ((has_padding run from ⇒ reason.Padding) ∷ []) h in
      let two = first-passes (has_padding run from) reason.Padding [] one.1 in
      let z : from ≡ from + 0 = omega arith in
      record {
        entries = [];
        count = refl;
        at = tt;
        new = tt;
        total_is =
            omega (arith, eqb-true _ _ (not-false (eqb (length met) (length cs)) one.0));
        zeros =
            subst (λ f. has_padding run f ≡ false) z two.0;
      }
  run-found n (suc buckets) run from seen met h =
      let k = key run from b in
      let size = key run (from + b) n in
      let ps = numbers_in run (from + b + n) n size in
      let e : Entry = record { key = k; positions = ps } in
      let rest = map_run_checks cs i b n run buckets (from + b + n + size * n) (k ∷ seen) (met ++ ps) in
      let one = first-passes (list_any (λ j. eqb j k) seen) reason.DuplicateKey
      ((eqb size 0 ⇒ reason.EmptyBucket) ∷ (ltb (length cs) (length met + size) ⇒ reason.ListSizes)
      ∷ position_checks cs i b k met ps ++ rest) h in
      let two = first-passes (eqb size 0) reason.EmptyBucket
      ((ltb (length cs) (length met + size) ⇒ reason.ListSizes) ∷ position_checks cs i b k met ps ++ rest)
      one.1 in
      let three = first-passes (ltb (length cs) (length met + size)) reason.ListSizes
      (position_checks cs i b k met ps ++ rest) two.1 in
      let four = both-pass (position_checks cs i b k met ps) rest three.1 in
      let ih = run-found n buckets run (from + b + n + size * n) (k ∷ seen) (met ++ ps) four.1 in
      let len : length ps ≡ size = length-numbers run n size (from + b + n) in
      let some : 0 < size = (let ne = eqb-false size 0 two.0 in omega (arith, ne)) in
      let le : length met + size ≤ length cs = ltb-false (length cs) (length met + size) three.0 in
      let numbers = numbers-at run n size (from + b + n) (entry_bits b n ih.entries) ih.at in
      let width : (from + b + n + size * n) + total_width (entry_bits b n ih.entries)
      ≡ from + total_width (entry_bits b n (e ∷ ih.entries)) =
      omega (arith, entry-width n e ih.entries, ap (λ k. k * n) len) in
      record {
        entries = e ∷ ih.entries;
        count = ap suc ih.count;
        at = (refl, (sym len, numbers));
        new = (one.0, omega (arith, len, some), omega (arith, len, le), positions-new k met ps four.0, ih.new);
        total_is = omega (arith, length-append ps (all_positions ih.entries), length-append met ps, ih.total_is);
        zeros = subst (λ f. has_padding run f ≡ false) width ih.zeros;
      }

  abbrev bucket_step : ℕ → List ℕ → ℕ → List ℕ → List ℕ → List Entry → ℕ → ℕ → List ℕ
      → List Check
  bucket_step n run from seen met es k size ps =
      (list_any (λ j. eqb j k) seen ⇒ reason.DuplicateKey)
      ∷ (eqb size 0 ⇒ reason.EmptyBucket)
      ∷ (ltb (length cs) (length met + size) ⇒ reason.ListSizes)
      ∷ position_checks cs i b k met ps
      ++ map_run_checks cs i b n run (length es) (from + b + n + size * n) (k ∷ seen) (met ++ ps)

  pub run-again : (n : ℕ) (es : List Entry) (run : List ℕ) (from : ℕ) (seen met : List ℕ)
      → At run from (entry_bits b n es) → NewEntries cs i b seen met es
      → length met + length (all_positions es) ≡ length cs
      → has_padding run (from + total_width (entry_bits b n es)) ≡ false
      → first_refusal (map_run_checks cs i b n run (length es) from seen met) ≡ None
  unfolding map_run_checks
  run-again n [] run from seen met at new total zeros =
      let z : from + 0 ≡ from = omega arith in
      passes-first (not (eqb (length met) (length cs))) reason.ListSizes
      ((has_padding run from ⇒ reason.Padding) ∷ [])
      (not_from_true _ (eq-eqb (length met) (length cs) (omega (arith, total))))
      (passes-first (has_padding run from) reason.Padding [] (subst (λ f. has_padding run f ≡ false) z zeros) refl)
  run-again n (e ∷ es) run from seen met (k_is, (s_is, at)) (fresh, some, le, positions, new) total zeros =
      let nums = at-numbers run n (from + b + n) e.positions (entry_bits b n es) at in
      let width : from + total_width (entry_bits b n (e ∷ es))
      ≡ (from + b + n + length e.positions * n) + total_width (entry_bits b n es) =
      omega (arith, entry-width n e es) in
      let ih = run-again n es run (from + b + n + length e.positions * n) (e.key ∷ seen)
      (met ++ e.positions) nums.1 new (omega (
        arith,
        length-append met e.positions,
        length-append e.positions (all_positions es),
        total,
      ))
      (subst (λ f. has_padding run f ≡ false) width zeros) in
      let all = pass-both (position_checks cs i b e.key met e.positions)
      (map_run_checks cs i b n run (length es) (from + b + n + length e.positions * n) (e.key ∷ seen)
      (met ++ e.positions)) (new-positions e.key met e.positions positions) ih in
      let final : first_refusal (bucket_step n run from seen met es e.key (length e.positions) e.positions) ≡ None =
      passes-first (list_any (λ j. eqb j e.key) seen) reason.DuplicateKey
      ((eqb (length e.positions) 0 ⇒ reason.EmptyBucket) ∷
      (ltb (length cs) (length met + length e.positions) ⇒ reason.ListSizes)
      ∷ position_checks cs i b e.key met e.positions
      ++ map_run_checks cs i b n run (length es) (from + b + n + length e.positions * n) (e.key ∷ seen)
      (met ++ e.positions)) fresh
      (passes-first (eqb (length e.positions) 0) reason.EmptyBucket
      ((ltb (length cs) (length met + length e.positions) ⇒ reason.ListSizes)
      ∷ position_checks cs i b e.key met e.positions
      ++ map_run_checks cs i b n run (length es) (from + b + n + length e.positions * n) (e.key ∷ seen)
      (met ++ e.positions)) (ne_eqb (length e.positions) 0 (omega (arith, some)))
      (passes-first (ltb (length cs) (length met + length e.positions)) reason.ListSizes
      (position_checks cs i b e.key met e.positions
      ++ map_run_checks cs i b n run (length es) (from + b + n + length e.positions * n) (e.key ∷ seen)
      (met ++ e.positions)) (le-ltb _ _ le) all)) in
      let size = key run (from + b) n in
      let read = numbers_in run (from + b + n) n size in
      let numbers : read ≡ e.positions = ap (numbers_in run (from + b + n) n) s_is ∙ nums.0 in
      let same : bucket_step n run from seen met es (key run from b) size read
      ≡ bucket_step n run from seen met es e.key (length e.positions) e.positions =
      ap (λ x. bucket_step n run from seen met es x size read) k_is
      ∙ ap (λ x. bucket_step n run from seen met es e.key x read) s_is
      ∙ ap (λ (x : List ℕ). bucket_step n run from seen met es e.key (length e.positions) x) numbers in
      ap first_refusal same ∙ final

  -- ---- entries that are new are the entries of the map

  -- numbers that are new after those met
  abbrev pub Fresh : List ℕ → List ℕ → Type 0
  Fresh met [] = Unit {0}
  Fresh met (x ∷ xs) = (list_any (λ m. eqb m x) met ≡ false) × Fresh (met ++ x ∷ []) xs

  fresh-append : (met xs ys : List ℕ) → Fresh met xs → Fresh (met ++ xs) ys → Fresh met (xs ++ ys)
  fresh-append met [] ys h k = subst (λ (m : List ℕ). Fresh m ys) (append-nil met) k
  fresh-append met (x ∷ xs) ys (one, h) k = (
    one,
    fresh-append (met ++ x ∷ []) xs ys h
        (subst (λ (m : List ℕ). Fresh m ys) (sym (append_assoc met (x ∷ []) xs)) k),
  )

  fresh-one : (k : ℕ) (met ps : List ℕ) → NewPositions cs i b k met ps → Fresh met ps
  fresh-one k met [] h = tt
  fresh-one k met (p ∷ ps) (lt, fresh, same, h) = (fresh, fresh-one k (met ++ p ∷ []) ps h)

  pub fresh-all : (seen met : List ℕ) (es : List Entry) → NewEntries cs i b seen met es
      → Fresh met (all_positions es)
  fresh-all seen met [] h = tt
  fresh-all seen met (e ∷ es) (fresh, some, le, positions, h) =
      fresh-append met e.positions (all_positions es) (fresh-one e.key met e.positions positions)
      (fresh-all (e.key ∷ seen) (met ++ e.positions) es h)

  below-one : (k : ℕ) (met ps : List ℕ) → NewPositions cs i b k met ps → All (λ p. p < length cs) ps
  below-one k met [] h = All-nil (λ p. p < length cs)
  below-one k met (p ∷ ps) (lt, fresh, same, h) =
      All-cons (λ p. p < length cs) p ps lt (below-one k (met ++ p ∷ []) ps h)

  under-one : (k : ℕ) (met ps : List ℕ) → NewPositions cs i b k met ps → All (λ p. code_key cs i b p ≡ k) ps
  under-one k met [] h = All-nil (λ p. code_key cs i b p ≡ k)
  under-one k met (p ∷ ps) (lt, fresh, same, h) =
      All-cons (λ p. code_key cs i b p ≡ k) p ps same (under-one k (met ++ p ∷ []) ps h)

  pub below-entries : (seen met : List ℕ) (es : List Entry) → NewEntries cs i b seen met es
      → All (λ p. p < length cs) (all_positions es)
  below-entries seen met [] h = All-nil (λ p. p < length cs)
  below-entries seen met (e ∷ es) (fresh, some, le, positions, h) =
      All-append (λ p. p < length cs) e.positions (all_positions es) (below-one e.key met e.positions positions)
      (below-entries (e.key ∷ seen) (met ++ e.positions) es h)

  pub under-entries : (seen met : List ℕ) (es : List Entry) → NewEntries cs i b seen met es
      → All (λ e. All (λ p. code_key cs i b p ≡ e.key) e.positions) es
  under-entries seen met [] h = All-nil (λ e. All (λ p. code_key cs i b p ≡ e.key) e.positions)
  under-entries seen met (e ∷ es) (fresh, some, le, positions, h) =
      All-cons (λ e. All (λ p. code_key cs i b p ≡ e.key) e.positions) e es
      (under-one e.key met e.positions positions) (under-entries (e.key ∷ seen) (met ++ e.positions) es h)

  pub some-entries : (seen met : List ℕ) (es : List Entry) → NewEntries cs i b seen met es
      → All (λ e. 0 < length e.positions) es
  some-entries seen met [] h = All-nil (λ e. 0 < length e.positions)
  some-entries seen met (e ∷ es) (fresh, some, le, positions, h) =
      All-cons (λ e. 0 < length e.positions) e es some (some-entries (e.key ∷ seen) (met ++ e.positions) es h)

  in-front : (a c : Bool) → c ≡ true → (a || c) ≡ true
  in-front true c e = refl
  in-front false c e = e

  at-front : (a c : Bool) → a ≡ true → (a || c) ≡ true
  at-front true c e = refl
  at-front false c e = absurd cc

  clash : (a : Bool) → a ≡ true → a ≡ false → ⊥
  clash true e f = absurd cc
  clash false e f = absurd cc

  avoid-entries : (k : ℕ) (seen met : List ℕ) (es : List Entry) → NewEntries cs i b seen met es
      → list_any (λ j. eqb j k) seen ≡ true → All (λ e. k ≡ e.key → ⊥) es
  avoid-entries k seen met [] h e = All-nil (λ e. k ≡ e.key → ⊥)
  avoid-entries k seen met (d ∷ es) (fresh, some, le, positions, h) e =
      All-cons (λ e. k ≡ e.key → ⊥) d es
      (λ is. clash (list_any (λ j. eqb j d.key) seen) (ap (λ (x : ℕ). list_any (λ j. eqb j x) seen) (sym is)
      ∙ e) fresh)
      (avoid-entries k (d.key ∷ seen) (met ++ d.positions) es h
      (in-front (eqb d.key k) (list_any (λ j. eqb j k) seen) e))

  pub keys-differ : (seen met : List ℕ) (es : List Entry) → NewEntries cs i b seen met es
      → AllPairs (λ d e. d.key ≡ e.key → ⊥) es
  keys-differ seen met [] h = λ x y d lt less. absurd (omega (arith, less))
  keys-differ seen met (e ∷ es) (fresh, some, le, positions, h) =
      AllPairs-cons (λ (d e : Entry). d.key ≡ e.key → ⊥) e es
      (avoid-entries e.key (e.key ∷ seen) (met ++ e.positions) es h
      (at-front (eqb e.key e.key) (list_any (λ j. eqb j e.key) seen) (eq-eqb e.key e.key refl)))
      (keys-differ (e.key ∷ seen) (met ++ e.positions) es h)
