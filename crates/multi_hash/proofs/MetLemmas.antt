-- Lemmas on the positions that a query meets.
use Rattle.std.proofs.Common.{◌≡◌, ℕ, zero, suc, ◌+◌, ◌-◌, ◌*◌, ◌<◌, ◌≤◌, ◌⊎◌, inl, inr, Bool, true, false, cond, nat_eq}
use Rattle.std.proofs.Common.{nat_abs, ℤ, pos, List, [], ◌∷◌, ◌++◌, length, take, drop, map, get_or, refl, sym, ap, ◌∙◌}
use Rattle.std.proofs.Common.{subst, arith, append-nil, append_assoc}
use Rattle.std.specs.List.{All, IsDistinct, flat_map, range_with_len}
use Rattle.std.specs.Map.{keys_of}
use Rattle.std.proofs.lemmas.Grind.{flat_map-append}
use Rattle.std.proofs.lemmas.List.{map-append, take_more}
use Rattle.std.proofs.lemmas.List.Elements.{All-take, All-drop, All-nil, All-cons, All-head, All-tail, All-append}
use Rattle.std.proofs.Math.Seq.{take-add}
use Rattle.std.proofs.lemmas.Int.{ints}
use Rattle.bcodes.specs.Value.{Row, IsPlace}
use Rattle.code_pool.specs.Lists.{IsPart, PoolLists, label_of}
use Rattle.flip_walk.specs.Patterns.{times}
use Rattle.key_buckets.specs.Keys.{key_in}
use Rattle.key_buckets.specs.Near.{looks_at}
use Rattle.key_buckets.proofs.NearLemmas.{near_known}
use Rattle.std.proofs.lemmas.Bool.{cases_lt}
use Rattle.multi_hash.specs.Inside.{IsPosition, lists_in, map_at}
use Rattle.multi_hash.specs.Meet.{asked_below, met_under, near_under, position_of, positions_on, AreNumbered}
use Rattle.multi_hash.specs.Seen.{first_met}
use Rattle.multi_hash.proofs.MeetLemmas.{flat_map-range_more}

met_step : (t : Bool) (done ps qs : List ℕ) (p : ℕ)
    → first_met (done ++ p ∷ []) (ps ++ qs) ≡ first_met (first_met (done ++ p ∷ []) ps) qs
    → first_met done (ps ++ qs) ≡ first_met (first_met done ps) qs
    → cond t (first_met (done ++ p ∷ []) (ps ++ qs)) (first_met done (ps ++ qs))
    ≡ first_met (cond t (first_met (done ++ p ∷ []) ps) (first_met done ps)) qs
met_step true done ps qs p h k = h
met_step false done ps qs p h k = k

-- the positions that are met first, and then those of more
pub first_met-append : (done ps qs : List ℕ) → first_met done (ps ++ qs) ≡ first_met (first_met done ps) qs
first_met-append done [] qs = refl
first_met-append done (p ∷ ps) qs =
    met_step (nat_eq (times p done) 0) done ps qs p (first_met-append (done ++ p ∷ []) ps qs)
    (first_met-append done ps qs)

-- a position as a label
pub place_low : (n : ℕ) (label : ℤ) → IsPlace n label → nat_abs label < n
place_low n label h = let least = h.least in let most = h.most in omega (arith, ints)

All-labels : (n : ℕ) (rows : List Row) → All (IsPosition n) rows → All (IsPlace n) (map label_of rows)
All-labels n [] h = All-nil (IsPlace n)
All-labels n (row ∷ rows) h =
    All-cons (IsPlace n) row.label (map label_of rows) (All-head (IsPosition n) row rows h)
    (All-labels n rows (All-tail (IsPosition n) row rows h))

-- the labels of a part are positions
pub places_part : (n from : ℕ) (rows : List Row) (part : List ℤ) → IsPart (map label_of rows) from part
    → All (IsPosition n) rows → All (IsPlace n) part
places_part n from rows part h all =
    subst (All (IsPlace n)) (sym h.labels)
    (All-take (IsPlace n) (length part) (drop from (map label_of rows))
    (All-drop (IsPlace n) from (map label_of rows) (All-labels n rows all)))

abs_labels : (rows : List Row) → map nat_abs (map label_of rows) ≡ map position_of rows
abs_labels [] = refl
abs_labels (row ∷ rows) = ap (λ (l : List ℕ). nat_abs row.label ∷ l) (abs_labels rows)

pub take-map : {A B : Type 0} (f : A → B) (n : ℕ) (xs : List A) → take n (map f xs) ≡ map f (take n xs)
take-map f zero xs = refl
take-map f (suc n) [] = refl
take-map f (suc n) (x ∷ xs) = ap (λ l. f x ∷ l) (take-map f n xs)

-- the positions up to the end of a part
pub part_more : (from : ℕ) (rows : List Row) (part : List ℤ) → IsPart (map label_of rows) from part
    → map position_of (take from rows) ++ map nat_abs part ≡ map position_of (take (from + length part) rows)
part_more from rows part h =
    let all : List ℤ = map label_of rows in
    ap (λ (l : List ℕ). l ++ map nat_abs part) (sym (abs_labels (take from rows))
    ∙ ap (map nat_abs) (sym (take-map label_of from rows)))
    ∙ ap (λ (l : List ℤ). map nat_abs (take from all) ++ map nat_abs l) h.labels
    ∙ sym (map-append nat_abs (take from all) (take (length part) (drop from all)))
    ∙ ap (map nat_abs) (sym (take-add from (length part) all) ∙ take-map label_of (from + length part) rows)
    ∙ abs_labels (take (from + length part) rows)

pub flat_more : (f : ℕ → List ℕ) (xs : List ℕ) (i : ℕ) → i < length xs
    → flat_map f (take (i + 1) xs) ≡ flat_map f (take i xs) ++ f (get_or xs i 0)
flat_more f [] i h = absurd (omega arith)
flat_more f (x ∷ xs) zero h = append-nil (f x)
flat_more f (x ∷ xs) (suc i) h =
    let e : suc i + 1 ≡ suc (i + 1) = omega arith in
    ap (λ (n : ℕ). flat_map f (take n (x ∷ xs))) e
    ∙ ap (λ (l : List ℕ). f x ++ l) (flat_more f xs i (omega arith))
    ∙ sym (append_assoc (f x) (flat_map f (take i xs)) (f (get_or xs i 0)))

-- ---- what is asked

pub asked_step : (maps : List (List (ℕ × ℕ))) (b nflip i : ℕ)
    → asked_below maps b nflip (i + 1) ≡ asked_below maps b nflip i + looks_at (map_at maps i) b nflip
asked_step maps b nflip i = let e : i + 1 ≡ suc i = omega arith in ap (asked_below maps b nflip) e

pub asked_within : (maps : List (List (ℕ × ℕ))) (b nflip m n : ℕ) → m ≤ n
    → asked_below maps b nflip m ≤ asked_below maps b nflip n
asked_within maps b nflip m zero h = let e : m ≡ 0 = omega arith in omega (arith, ap (asked_below maps b nflip) e)
asked_within maps b nflip m (suc n) h =
    elim (cases_lt m (suc n)) [
      | inl low ↦ omega (arith, asked_within maps b nflip m n (omega arith))
      | inr high ↦ let e : m ≡ suc n = omega arith in omega (arith, ap (asked_below maps b nflip) e)
    ]

-- the list of one more number
pub flat_map-range_next : (f : ℕ → List ℕ) (n : ℕ)
    → flat_map f (range_with_len 0 (n + 1)) ≡ flat_map f (range_with_len 0 n) ++ f n
flat_map-range_next f n =
    let e : n + 1 ≡ suc n = omega arith in
    let at : 0 + n ≡ n = omega arith in
    ap (λ (m : ℕ). flat_map f (range_with_len 0 m)) e ∙ flat_map-range_more f 0 n
    ∙ ap (λ (m : ℕ). flat_map f (range_with_len 0 n) ++ f m) at

-- the lists of all maps are there, and hold what is met map by map
pub met-near : (maps : List (List (ℕ × ℕ))) (p : PoolLists) (b nflip : ℕ) (q is : List ℕ)
    → flat_map (positions_on p) (flat_map (near_under maps b nflip q) is) ≡ flat_map (met_under maps p b nflip q) is
met-near maps p b nflip q [] = refl
met-near maps p b nflip q (i ∷ is) =
    flat_map-append (positions_on p) (near_under maps b nflip q i) (flat_map (near_under maps b nflip q) is)
    ∙ ap (λ (ps : List ℕ). met_under maps p b nflip q i ++ ps) (met-near maps p b nflip q is)

pub near_there : (maps : List (List (ℕ × ℕ))) (n b nflip : ℕ) (q : List ℕ) (m : ℕ) → AreNumbered maps n
    → ((i : ℕ) → i < m → IsDistinct nat_eq (keys_of (map_at maps i)))
    → All (λ l. l < n) (flat_map (near_under maps b nflip q) (range_with_len 0 m))
near_there maps n b nflip q zero numbered distinct = All-nil (λ l. l < n)
near_there maps n b nflip q (suc m) numbered distinct =
    let f : ℕ → List ℕ = near_under maps b nflip q in
    let e : m + 1 ≡ suc m = omega arith in
    subst (All (λ l. l < n)) (sym (flat_map-range_next f m) ∙ ap (λ (k : ℕ). flat_map f (range_with_len 0 k)) e)
    (All-append (λ l. l < n) (flat_map f (range_with_len 0 m)) (f m)
    (near_there maps n b nflip q m numbered (λ i h. distinct i (omega arith)))
    (near_known (map_at maps m) n n b nflip (key_in m b q) (numbered m) (omega arith) (distinct m (omega arith))))
