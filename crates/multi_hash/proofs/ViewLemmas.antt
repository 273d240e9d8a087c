-- What the maps show of the codes, and what a query meets there.
use Rattle.std.proofs.Common.{◌≡◌, ◌≢◌, ℕ, zero, suc, ◌+◌, ◌-◌, ◌*◌, ◌<◌, ◌≤◌, ◌^◌, inl, inr, Bool, true, false, cond}
use Rattle.std.proofs.Common.{nat_eq, nat_le, nat_lt, nat_abs, ℤ, pos, min, List, [], ◌∷◌, ◌++◌, length, take, map, get_or}
use Rattle.std.proofs.Common.{Some, refl, sym, ap, ◌∙◌, subst, arith, add-zero, bit_xor}
use Rattle.std.proofs.Common.{find, Option, None, option_map, true≢false}
use Rattle.std.specs.Int.RustNames.{count_ones}
use Rattle.std.specs.List.{All, IsDistinct, filter, flat_map, range_with_len}
use Rattle.std.specs.List.Sorted.{IsPermutation}
use Rattle.std.specs.Map.{keys_of}
use Rattle.std.proofs.lemmas.Bool.{ne_eqb, eq-eqb}
use Rattle.std.proofs.lemmas.Bool.Decides.{eqb_tells}
use Rattle.std.proofs.lemmas.List.{length-map, map-append, get_or-map}
use Rattle.std.proofs.lemmas.List.FromFn.{fill_by_all}
use Rattle.std.proofs.lemmas.List.Elements.{All-nil, All-cons, All-head, All-tail, filter_agree}
use Rattle.std.proofs.lemmas.List.Sorted.{IsPermutation-map, length_permutation}
use Rattle.bcodes.specs.declared.hit.Hit.{Hit}
use Rattle.bcodes.specs.Bits.{key}
use Rattle.bcodes.specs.Hits.{in_order}
use Rattle.bcodes.specs.Value.{Row, MultiValue, Multi, Bare, numbered}
use Rattle.bcodes.specs.Answers.{best, hit_of, hits, looked, within, probed_rows}
use Rattle.bcodes.proofs.KeyLemmas.{key_below}
use Rattle.bcodes.proofs.OrderLemmas.{in_order-permutation, filter-in_order}
use Rattle.code_pool.specs.Lists.{PoolLists, label_of}
use Rattle.flip_walk.specs.Patterns.{flips, under}
use Rattle.key_buckets.specs.Keys.{firsts, key_in, list_of}
use Rattle.key_buckets.specs.Near.{is_near, looks_at, near_lists}
use Rattle.key_buckets.specs.Parts.{IsParted}
use Rattle.key_buckets.proofs.NearLemmas.{near_visit, own_lists}
use Rattle.multi_hash.specs.Inside.{mark_of, row_key, map_at, lists_in, IsMap, AreMaps, IsMulti}
use Rattle.multi_hash.specs.Maps.{labels_at, looks_below, map_key, map_keys, positions, positions_at}
use Rattle.multi_hash.specs.Meet.{asked_below, met_under, position_of, positions_on}
use Rattle.multi_hash.specs.Seen.{first_met, row_at}
use Rattle.multi_hash.specs.Wide.{is_wide_map, wide}
use Rattle.multi_hash.proofs.WideLemmas.{find_agree, one_is_wide, power_is}
use Rattle.flip_walk.proofs.OnesLemmas.{ones-zero}
use Rattle.multi_hash.proofs.MultiLemmas.{light}
use Rattle.multi_hash.proofs.MeetLemmas.{near_positions, met_rows, met_within}

-- ---- rows under their positions, and positions alone

same_eq : (m n : ℕ) → nat_eq m n ≡ nat_eq n m
same_eq m n =
    elim (eqb_tells m n) [
      | inl t ↦ t.0 ∙ sym (eq-eqb n m (sym t.1))
      | inr t ↦ t.0 ∙ sym (ne_eqb n m (λ e. t.1 (sym e)))
    ]

-- the codes from place a on are cs
Follows : List (List ℕ) → ℕ → List (List ℕ) → Type 0
Follows codes a cs = (t : ℕ) → t < length cs → get_or codes (a + t) [] ≡ get_or cs t []

follows_next : (codes cs : List (List ℕ)) (a : ℕ) (c : List ℕ) → ((t : ℕ) → t < length (c ∷ cs)
    → get_or codes (a + t) [] ≡ get_or (c ∷ cs) t []) → (t : ℕ) → t < length cs
    → get_or codes ((a + 1) + t) [] ≡ get_or cs t []
follows_next codes cs a c h t low =
    let e : (a + 1) + t ≡ a + suc t = omega arith in
    ap (λ (n : ℕ). get_or codes n []) e ∙ h (suc t) (omega arith)

module _ (test : List ℕ → Bool) (codes : List (List ℕ)) where
  label_step : (t : Bool) (a : ℕ) (c : List ℕ) (rows : List Row) (ps : List ℕ)
      → map label_of (map mark_of rows) ≡ map pos ps
      → map label_of (map mark_of (cond t (record { label = pos a; code = c } ∷ rows) rows)) ≡ map pos (cond t (a ∷ ps) ps)
  label_step true a c rows ps h = ap (λ (l : List ℤ). pos a ∷ l) h
  label_step false a c rows ps h = h

  position_step : (t : Bool) (a : ℕ) (c : List ℕ) (rows : List Row) (ps : List ℕ)
      → map position_of (map mark_of rows) ≡ ps
      → map position_of (map mark_of (cond t (record { label = pos a; code = c } ∷ rows) rows)) ≡ cond t (a ∷ ps) ps
  position_step true a c rows ps h = ap (λ (l : List ℕ). a ∷ l) h
  position_step false a c rows ps h = h

  first_test : (a : ℕ) (c : List ℕ) (cs : List (List ℕ)) → ((t : ℕ) → t < length (c ∷ cs)
      → get_or codes (a + t) [] ≡ get_or (c ∷ cs) t []) → test (get_or codes a []) ≡ test c
  first_test a c cs h = ap test (ap (λ (n : ℕ). get_or codes n []) (sym (add-zero a)) ∙ h 0 (omega arith))

  labels_from_place : (a : ℕ) (cs : List (List ℕ)) → ((t : ℕ) → t < length cs
      → get_or codes (a + t) [] ≡ get_or cs t [])
      → map label_of (map mark_of (filter (λ (row : Row). test row.code) (numbered a cs)))
      ≡ map pos (filter (λ p. test (get_or codes p [])) (range_with_len a (length cs)))
  labels_from_place a [] h = refl
  labels_from_place a (c ∷ cs) h =
      let rows : List Row = filter (λ (row : Row). test row.code) (numbered (a + 1) cs) in
      let ps : List ℕ = filter (λ p. test (get_or codes p [])) (range_with_len (a + 1) (length cs)) in
      label_step (test c) a c rows ps (labels_from_place (a + 1) cs (follows_next codes cs a c h))
      ∙ ap (λ (t : Bool). map pos (cond t (a ∷ ps) ps)) (sym (first_test a c cs h))

  positions_from_place : (a : ℕ) (cs : List (List ℕ)) → ((t : ℕ) → t < length cs
      → get_or codes (a + t) [] ≡ get_or cs t [])
      → map position_of (map mark_of (filter (λ (row : Row). test row.code) (numbered a cs)))
      ≡ filter (λ p. test (get_or codes p [])) (range_with_len a (length cs))
  positions_from_place a [] h = refl
  positions_from_place a (c ∷ cs) h =
      let rows : List Row = filter (λ (row : Row). test row.code) (numbered (a + 1) cs) in
      let ps : List ℕ = filter (λ p. test (get_or codes p [])) (range_with_len (a + 1) (length cs)) in
      position_step (test c) a c rows ps (positions_from_place (a + 1) cs (follows_next codes cs a c h))
      ∙ ap (λ (t : Bool). cond t (a ∷ ps) ps) (sym (first_test a c cs h))

  from_start : (t : ℕ) → t < length codes → get_or codes (0 + t) [] ≡ get_or codes t []
  from_start t low = let e : 0 + t ≡ t = omega arith in ap (λ (n : ℕ). get_or codes n []) e

  pub labels_are : map label_of (map mark_of (filter (λ (row : Row). test row.code) (numbered 0 codes)))
      ≡ map pos (filter (λ p. test (get_or codes p [])) (range_with_len 0 (length codes)))
  labels_are = labels_from_place 0 codes from_start

  pub positions_are : map position_of (map mark_of (filter (λ (row : Row). test row.code) (numbered 0 codes)))
      ≡ filter (λ p. test (get_or codes p [])) (range_with_len 0 (length codes))
  positions_are = positions_from_place 0 codes from_start

-- ---- the views

abbrev pub value_in : (dim b nflip : ℕ) (codes : List (List ℕ)) (maps : List (List (ℕ × ℕ))) → MultiValue
value_in dim b nflip codes maps = record { dim = dim; nhash = length maps; b = b; nflip = nflip; codes = codes }

module _ (dim b nflip used : ℕ) (codes : List (List ℕ)) (maps : List (List (ℕ × ℕ))) (p : PoolLists)
    (h : IsMulti dim b nflip used codes maps p) where
  abbrev v : MultiValue
  v = value_in dim b nflip codes maps

  all_keys : (i : ℕ) → map (key_in i b) codes ≡ map (map_key v i) (range_with_len 0 (length codes))
  unfolding map_key
  all_keys i = fill_by_all (map_key v i) (map (key_in i b) codes) (length codes) 0 (length-map codes (key_in i b))
      (λ k low. get_or-map (key_in i b) codes k [] 0 low)

  pub keys_are : (i : ℕ) → i < length maps → keys_of (map_at maps i) ≡ map_keys v i
  unfolding map_keys
  keys_are i low = (h.maps_are.each i low).keys ∙ ap firsts (all_keys i)

  pub keys_count : (i : ℕ) → i < length maps → length (map_at maps i) ≡ length (map_keys v i)
  keys_count i low = sym (length-map (map_at maps i) (λ (e : ℕ × ℕ). e.0)) ∙ ap length (keys_are i low)

  -- where there are codes, the maps with one key alone are those in which one bucket has all codes
  pub one_key_is_wide : 0 < length codes → (i : ℕ) → i < length maps
      → nat_eq (length (map_at maps i)) 1 ≡ is_wide_map v i
  one_key_is_wide some i low =
      ap (λ (n : ℕ). nat_eq n 1) (sym (length-map (map_at maps i) (λ (e : ℕ × ℕ). e.0))
      ∙ ap length (h.maps_are.each i low).keys)
      ∙ wide_of codes some refl
    where
      wide_of : (cs : List (List ℕ)) → 0 < length cs → codes ≡ cs
          → nat_eq (length (firsts (map (key_in i b) codes))) 1 ≡ is_wide_map v i
      wide_of [] some e = absurd (omega arith)
      wide_of (c ∷ cs) some e = one_is_wide v i c cs e

  few_codes : length codes < 2 ^ 64
  few_codes = let few = (light dim (length maps) (length codes) h.load).1 in omega arith

  -- what a walk over the maps finds
  abbrev first_found : Option ℕ
  first_found = find (λ i. nat_eq (length (map_at maps i)) 1) (range_with_len 0 (length maps))

  pub wide_none : nat_eq (count_ones (length codes)) 1 ≡ false → None ≡ wide (Bare (Multi v))
  unfolding wide
  wide_none e =
      ap (λ (t : Bool). cond t (option_map (λ i. record { map = i; size = length codes })
      (find (is_wide_map v) (range_with_len 0 (length maps)))) None) (sym e ∙ power_is (length codes) few_codes)

  pub wide_found : nat_eq (count_ones (length codes)) 1 ≡ true
      → option_map (λ i. record { map = i; size = length codes }) first_found ≡ wide (Bare (Multi v))
  unfolding wide
  wide_found e =
      let some : 0 < length codes = some_codes (length codes) e in
      ap (option_map (λ i. record { map = i; size = length codes }))
      (find_agree (λ i. nat_eq (length (map_at maps i)) 1) (is_wide_map v) 0 (length maps)
      (λ i low high. one_key_is_wide some i (omega arith)))
      ∙ ap (λ (t : Bool). cond t (option_map (λ i. record { map = i; size = length codes })
      (find (is_wide_map v) (range_with_len 0 (length maps)))) None) (sym e ∙ power_is (length codes) few_codes)
    where
      some_codes : (n : ℕ) → nat_eq (count_ones n) 1 ≡ true → 0 < n
      some_codes zero f = absurd (true≢false (sym f ∙ ap (λ (m : ℕ). nat_eq m 1) ones-zero))
      some_codes (suc n) f = omega arith

  -- the key and the list at a place of a map
  module _ (i place : ℕ) (e : ℕ × ℕ) (low : i < length maps) (distinct : IsDistinct nat_eq (keys_of (map_at maps i)))
      (inside : place < length (map_at maps i)) (is : e ≡ get_or (map_at maps i) place (0, 0)) where
    found : list_of (map_at maps i) e.0 ≡ Some e.1
    found = subst (λ (f : ℕ × ℕ). list_of (map_at maps i) f.0 ≡ Some f.1) (sym is)
        (own_lists (map_at maps i) distinct place (0, 0) inside)

    pub place_key : e.0 ≡ get_or (map_keys v i) place 0
    place_key = ap (λ (f : ℕ × ℕ). f.0) is
        ∙ sym (get_or-map (λ (f : ℕ × ℕ). f.0) (map_at maps i) place (0, 0) 0 inside)
        ∙ ap (λ (ks : List ℕ). get_or ks place 0) (keys_are i low)

    pub place_known : e.1 < length p.lists
    place_known = omega (arith, h.maps_are.below i e.0 e.1 found, h.shared.used_most)

    labels_of_key : map label_of (lists_in p e.1) ≡ map pos (positions v i e.0)
    unfolding positions map_key
    labels_of_key = ap (map label_of) ((h.maps_are.each i low).parts e.0 e.1 found)
        ∙ labels_are (λ code. nat_eq e.0 (key_in i b code)) codes
        ∙ ap (map pos) (filter_agree (λ q. nat_eq e.0 (key_in i b (get_or codes q [])))
        (λ q. nat_eq (key_in i b (get_or codes q [])) e.0)
        (λ q. same_eq e.0 (key_in i b (get_or codes q []))) (range_with_len 0 (length codes)))

    pub place_labels : map label_of (lists_in p e.1) ≡ labels_at v i place
    place_labels = labels_of_key ∙ ap (λ (k : ℕ). map pos (positions v i k)) place_key

    pub place_count : length (lists_in p e.1) ≡ length (positions_at v i place)
    place_count = sym (length-map (lists_in p e.1) label_of) ∙ ap length place_labels
        ∙ length-map (positions_at v i place) pos

  -- ---- a query

  pub asked_is : (n : ℕ) → n ≤ length maps → asked_below maps b nflip n ≡ looks_below v n
  asked_is zero low = refl
  asked_is (suc n) low = omega (
    arith,
    asked_is n (omega arith),
    ap (min (length (flips b nflip))) (keys_count n (omega arith)),
  )

  module _ (q : List ℕ) (distinct : (i : ℕ) → i < length maps → IsDistinct nat_eq (keys_of (map_at maps i))) where
    known_rows : (i a : ℕ) (cs : List (List ℕ)) → All (λ code. (l : ℕ) × (list_of (map_at maps i) (key_in i b code) ≡ Some l)) cs
        → All (λ (row : Row). (l : ℕ) × (list_of (map_at maps i) (row_key i b row) ≡ Some l)) (numbered a cs)
    known_rows i a [] k = All-nil (λ (row : Row). (l : ℕ) × (list_of (map_at maps i) (row_key i b row) ≡ Some l))
    known_rows i a (c ∷ cs) k =
        All-cons (λ (row : Row). (l : ℕ) × (list_of (map_at maps i) (row_key i b row) ≡ Some l))
        (record { label = pos a; code = c }) (numbered (a + 1) cs)
        (All-head (λ code. (l : ℕ) × (list_of (map_at maps i) (key_in i b code) ≡ Some l)) c cs k)
        (known_rows i (a + 1) cs (All-tail (λ code. (l : ℕ) × (list_of (map_at maps i) (key_in i b code) ≡ Some l)) c cs k))

    parted : (i : ℕ) → i < length maps → IsParted mark_of (row_key i b) (map_at maps i) (lists_in p) (numbered 0 codes)
    parted i low = record {
      known = known_rows i 0 codes (h.maps_are.each i low).known;
      parts = (h.maps_are.each i low).parts;
    }

    flat_positions : (ls : List ℕ) → flat_map (positions_on p) ls ≡ map position_of (flat_map (lists_in p) ls)
    flat_positions [] = refl
    flat_positions (l ∷ ls) = ap (λ (ps : List ℕ). positions_on p l ++ ps) (flat_positions ls)
        ∙ sym (map-append position_of (lists_in p l) (flat_map (lists_in p) ls))

    near_is : (i : ℕ) → i < v.nhash → IsPermutation (met_under maps p b nflip q i) (near_positions v q i)
    near_is i low =
        let ns : List ℕ = near_lists (map_at maps i) b nflip (key_in i b q) in
        subst (λ (ps : List ℕ). IsPermutation ps (near_positions v q i)) (sym (flat_positions ns))
        (subst (IsPermutation (map position_of (flat_map (lists_in p) ns)))
        (positions_are (λ code. is_near (key_in i b q) nflip (key_in i b code)) codes)
        (IsPermutation-map position_of _ _ (near_visit mark_of (row_key i b) (map_at maps i) (lists_in p)
        (numbered 0 codes) (parted i low) b nflip (key_in i b q) (key_below q (i * b) b)
        (λ k d j. key_below (get_or (numbered 0 codes) k d).code (i * b) b) (distinct i low))))

    abbrev met : List ℕ
    met = first_met [] (flat_map (met_under maps p b nflip q) (range_with_len 0 (length maps)))

    pub met_known : All (λ k. k < length codes) met
    met_known = met_within v q (met_under maps p b nflip q) near_is

    met_is : IsPermutation (map (row_at codes) met) (probed_rows (Bare (Multi v)) q)
    met_is = met_rows v q (met_under maps p b nflip q) near_is

    pub best_is : (k : ℕ) → take k (in_order (map (hit_of q) (map (row_at codes) met))) ≡ best (Bare (Multi v)) q k
    unfolding best hits
    best_is k = ap (take k) (sym (in_order-permutation _ _ (IsPermutation-map (hit_of q) _ _ met_is)))

    pub within_is : (radius : ℕ)
        → in_order (filter (λ (g : Hit). nat_lt g.distance radius) (map (hit_of q) (map (row_at codes) met)))
        ≡ within (Bare (Multi v)) q radius
    unfolding within hits
    within_is radius =
        sym (filter-in_order (λ (g : Hit). nat_lt g.distance radius) (map (hit_of q) (map (row_at codes) met)))
        ∙ ap (filter (λ (g : Hit). nat_lt g.distance radius))
        (sym (in_order-permutation _ _ (IsPermutation-map (hit_of q) _ _ met_is)))

    pub looked_is : length met ≡ looked (Bare (Multi v)) q
    unfolding looked
    looked_is = omega (arith, length_permutation _ _ met_is, length-map met (row_at codes))
