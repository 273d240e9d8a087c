-- Lemmas on the nearest centroid.
use Rattle.std.proofs.Common.{◌≡◌, ℕ, zero, suc, ◌+◌, ◌-◌, ◌<◌, ◌≤◌, ◌⊎◌, inl, inr, min, true, false}
use Rattle.std.proofs.Common.{nat_abs, ℤ, pos, List, [], ◌∷◌, length, take, drop, map, get_or}
use Rattle.std.proofs.Common.{refl, sym, ap, ◌∙◌, subst, arith}
use Rattle.std.specs.List.{All}
use Rattle.std.proofs.lemmas.Bool.{lt-ltb, le-ltb, eq-eqb, ne_eqb, cases_lt}
use Rattle.std.proofs.lemmas.List.{get_or-map, get_or-take, get_or-drop, length-map, take-map, drop-map}
use Rattle.std.proofs.lemmas.List.Elements.{All-nil, All-cons, All-head}
use Rattle.bcodes.specs.declared.hit.Hit.{Hit}
use Rattle.bcodes.specs.Bits.{dist}
use Rattle.bcodes.specs.Hits.{is_above, insert_hit, no_hit}
use Rattle.bcodes.specs.Value.{Row, numbered}
use Rattle.bcodes.specs.Answers.{hit_of, ranked_rows}
use Rattle.bcodes.specs.Chunks.{chunks_of}
use Rattle.bcodes.proofs.ChunkLemmas.{length-chunks_of}
use Rattle.bcodes.proofs.OrderLemmas.{length-in_order}
use Rattle.bcodes.proofs.NumberedLemmas.{length-numbered}
use Rattle.code_pool.specs.Lists.{IsRun, run_rows}
use Rattle.hit_lists.specs.Labelled.{hits_of}
use Rattle.list_scan.proofs.RunLemmas.{distances_of, hits_of-rows}
use Rattle.ivf_index.specs.Near.{IsFirstLeast, nearest_by}
use Rattle.bcodes.proofs.RankedLemmas.{All-in_order}

-- how far codes are from a query
abbrev pub distances : List ℕ → List (List ℕ) → List ℕ
distances q codes = map (λ code. dist code q) codes

-- ---- the first hit in order

above_farther : (a b : Hit) → b.distance < a.distance → is_above a b ≡ true
unfolding is_above
above_farther a b h = rw (
  le-ltb a.distance b.distance (omega arith),
  ne_eqb a.distance b.distance (λ e. absurd (omega (arith, e))),
) refl

not_above : (d e i m : ℕ) → d ≤ e → i < m
    → is_above (record { distance = d; label = pos i }) (record { distance = e; label = pos m }) ≡ false
unfolding is_above
not_above d e i m h low = elim (cases_lt d e) [
  | inl less ↦ rw (lt-ltb d e less) refl
  | inr high ↦ let same : d ≡ e = omega arith in rw (same, le-ltb e e (omega arith), eq-eqb e e refl, lt-ltb i m low) refl
]

insert_first : (h d : Hit) (l : List Hit) → All (λ g. is_above h g ≡ false) l → get_or (insert_hit h l) 0 d ≡ h
insert_first h d [] all = refl
insert_first h d (g ∷ gs) all = rw (All-head (λ g. is_above h g ≡ false) g gs all) refl

insert_behind : (h d : Hit) (l : List Hit) → 0 < length l → is_above h (get_or l 0 d) ≡ true
    → get_or (insert_hit h l) 0 d ≡ get_or l 0 d
insert_behind h d [] some above = absurd (omega arith)
insert_behind h d (g ∷ gs) some above = rw above refl

none_nearer : (q c : List ℕ) (i m : ℕ) (cs : List (List ℕ)) → i < m
    → ((j : ℕ) → j < length cs → dist c q ≤ dist (get_or cs j []) q)
    → All (λ g. is_above (hit_of q (record { label = pos i; code = c })) g ≡ false) (map (hit_of q) (numbered m cs))
none_nearer q c i m [] low far = All-nil (λ g. is_above (hit_of q (record { label = pos i; code = c })) g ≡ false)
none_nearer q c i m (x ∷ xs) low far =
    All-cons (λ g. is_above (hit_of q (record { label = pos i; code = c })) g ≡ false)
    (hit_of q (record { label = pos m; code = x })) (map (hit_of q) (numbered (m + 1) xs))
    (not_above (dist c q) (dist x q) i m (far 0 (omega arith)) low)
    (none_nearer q c i (m + 1) xs (omega arith) (λ j h. far (suc j) (omega arith)))

first_is : (q : List ℕ) (cs : List (List ℕ)) (i at : ℕ) (d : Hit) → at < length cs
    → ((j : ℕ) → j < length cs → dist (get_or cs at []) q ≤ dist (get_or cs j []) q)
    → ((j : ℕ) → j < at → dist (get_or cs at []) q < dist (get_or cs j []) q)
    → get_or (ranked_rows q (numbered i cs)) 0 d
    ≡ record { distance = dist (get_or cs at []) q; label = pos (i + at) }
first_is q [] i at d low least first = absurd (omega arith)
first_is q (c ∷ cs) i zero d low least first =
    let h : Hit = hit_of q (record { label = pos i; code = c }) in
    insert_first h d (ranked_rows q (numbered (i + 1) cs))
    (All-in_order (λ g. is_above h g ≡ false) (map (hit_of q) (numbered (i + 1) cs))
    (none_nearer q c i (i + 1) cs (omega arith) (λ j k. least (suc j) (omega arith))))
    ∙ ap (λ (n : ℕ). record { distance = dist c q; label = pos n }) (omega arith)
first_is q (c ∷ cs) i (suc at) d low least first =
    let h : Hit = hit_of q (record { label = pos i; code = c }) in
    let rest : List Hit = ranked_rows q (numbered (i + 1) cs) in
    let some : 0 < length rest = omega (
      arith,
      length-in_order (map (hit_of q) (numbered (i + 1) cs)),
      length-map (numbered (i + 1) cs) (hit_of q),
      length-numbered (i + 1) cs,
    ) in
    let head = first_is q cs (i + 1) at d (omega arith) (λ j k. least (suc j) (omega arith))
    (λ j k. first (suc j) (omega arith)) in
    let above : is_above h (get_or rest 0 d) ≡ true = above_farther h (get_or rest 0 d)
    (omega (arith, first 0 (omega arith), ap (λ (g : Hit). g.distance) head)) in
    insert_behind h d rest some above ∙ head
    ∙ ap (λ (n : ℕ). record { distance = dist (get_or cs at []) q; label = pos n }) (omega arith)

-- the place of the first of the least distances is the number of the nearest centroid
pub nearest_is : (q : List ℕ) (cs : List (List ℕ)) (at value : ℕ) (d : Hit)
    → IsFirstLeast (distances q cs) (length cs) at value → nearest_by cs q ≡ at
nearest_is q cs at value d h =
    let all : List Hit = ranked_rows q (numbered 0 cs) in
    let some : 0 < length all = omega (
      arith,
      h.within,
      length-in_order (map (hit_of q) (numbered 0 cs)),
      length-map (numbered 0 cs) (hit_of q),
      length-numbered 0 cs,
    ) in
    let far : (j : ℕ) → j < length cs → get_or (distances q cs) j 0 ≡ dist (get_or cs j []) q = λ j k. get_or-map
    (λ (code : List ℕ). dist code q) cs j [] 0 k in
    get_or-map (λ (g : Hit). nat_abs g.label) all 0 d 0 some
    ∙ (ap (λ (g : Hit). nat_abs g.label) (first_is q cs 0 at d h.within
    (λ j k. omega (arith, h.is, h.least j k, far at h.within, far j k))
    (λ j k. let inside : j < length cs = omega (arith, h.within) in
    omega (arith, h.is, h.first j k, far at h.within, far j inside))) ∙ omega arith)

-- ---- the distances of a run

distances_hits : (ls : List ℤ) (ds : List ℕ) → length ls ≡ length ds → map (λ (h : Hit). h.distance) (hits_of ls ds) ≡ ds
distances_hits [] [] e = refl
distances_hits [] (d ∷ ds) e = absurd (omega arith)
distances_hits (l ∷ ls) [] e = absurd (omega arith)
distances_hits (l ∷ ls) (d ∷ ds) e = ap (λ (xs : List ℕ). d ∷ xs) (distances_hits ls ds (omega arith))

distances_rows : (q : List ℕ) (rows : List Row) → map (λ (h : Hit). h.distance) (map (hit_of q) rows)
    ≡ map (λ (row : Row). dist row.code q) rows
distances_rows q [] = refl
distances_rows q (row ∷ rows) = ap (λ (xs : List ℕ). dist row.code q ∷ xs) (distances_rows q rows)

distances_numbered : (q : List ℕ) (i : ℕ) (cs : List (List ℕ)) → map (λ (row : Row). dist row.code q) (numbered i cs)
    ≡ distances q cs
distances_numbered q i [] = refl
distances_numbered q i (c ∷ cs) = ap (λ (xs : List ℕ). dist c q ∷ xs) (distances_numbered q (i + 1) cs)

pub run_distances : (q : List ℕ) (cs : List (List ℕ)) (from size : ℕ) (ls : List ℤ) (bytes : List ℕ)
    → IsRun (numbered 0 cs) from size ls bytes
    → distances_of q size (length ls) bytes ≡ take (length ls) (drop from (distances q cs))
run_distances q cs from size ls bytes run =
    let f : Row → ℕ = λ row. dist row.code q in
    let same : length ls ≡ length (distances_of q size (length ls) bytes)
    = sym (length-map (chunks_of size (length ls) bytes) (λ (code : List ℕ). dist code q)
    ∙ length-chunks_of size (length ls) bytes) in
    sym (distances_hits ls (distances_of q size (length ls) bytes) same)
    ∙ ap (map (λ (h : Hit). h.distance)) (hits_of-rows q size ls bytes ∙ ap (map (hit_of q)) run.rows)
    ∙ distances_rows q (take (length ls) (drop from (numbered 0 cs)))
    ∙ sym (take-map f (length ls) (drop from (numbered 0 cs)))
    ∙ ap (take (length ls)) (sym (drop-map f from (numbered 0 cs)) ∙ ap (drop from) (distances_numbered q 0 cs))

-- ---- the nearest so far

-- none of the first n distances was looked at, or the first of their least stands at a place
abbrev pub IsSoFar : List ℕ → ℕ → ℕ → ℕ → ℕ → Type 0
IsSoFar ds bits n place value = ((n ≡ 0) × (bits < value)) ⊎ IsFirstLeast ds n place value

-- the place in a run of the first of its least distances
pub record IsLeastOf (part : List ℕ) (first : ℕ) : Type 0 where
  pub within : first < length part
  pub least : (i : ℕ) → i < length part → get_or part first 0 ≤ get_or part i 0
  pub before : (i : ℕ) → i < first → get_or part first 0 < get_or part i 0

module _ (ds part : List ℕ) (bits from n first place value : ℕ) (so_far : IsSoFar ds bits from place value)
    (is : part ≡ take n (drop from ds)) (count : length part ≡ n) (l : IsLeastOf part first) where
  at : (i : ℕ) → i < n → get_or part i 0 ≡ get_or ds (from + i) 0
  at i h = ap (λ (xs : List ℕ). get_or xs i 0) is ∙ get_or-take n (drop from ds) i 0 h ∙ get_or-drop from ds i 0

  inside : first < n
  inside = omega (arith, l.within, count)

  -- those before are no nearer
  old : (i : ℕ) → i < from → value ≤ get_or ds i 0
  old i h = elim so_far [ inl none ↦ absurd (omega (arith, none.0)) | inr some ↦ some.least i h ]

  new : (i : ℕ) → from ≤ i → i < from + n → get_or part first 0 ≤ get_or ds i 0
  new i h low =
      let k : i - from < n = omega arith in
      let e : from + (i - from) ≡ i = omega arith in
      omega (arith, l.least (i - from) (omega (arith, count)), at (i - from) k, ap (λ (m : ℕ). get_or ds m 0) e)

  new_before : (i : ℕ) → from ≤ i → i < from + first → get_or part first 0 < get_or ds i 0
  new_before i h low =
      let k : i - from < n = omega (arith, inside) in
      let e : from + (i - from) ≡ i = omega arith in
      omega (arith, l.before (i - from) (omega arith), at (i - from) k, ap (λ (m : ℕ). get_or ds m 0) e)

  pub least_turns : get_or part first 0 < value → IsFirstLeast ds (from + n) (from + first) (get_or part first 0)
  least_turns less = record {
    within = omega (arith, inside);
    is = at first inside;
    least = λ i h. elim (cases_lt i from) [ inl low ↦ omega (arith, old i low) | inr high ↦ new i high h ];
    first = λ i h. elim (cases_lt i from) [ inl low ↦ omega (arith, old i low) | inr high ↦ new_before i high h ];
  }

  pub least_stays : (get_or part first 0 < value → ⊥) → get_or part first 0 ≤ bits
      → IsFirstLeast ds (from + n) place value
  least_stays farther small = elim so_far [
    | inl none ↦ absurd (farther (omega (arith, none.1)))
    | inr some ↦ record {
      within = omega (arith, some.within);
      is = some.is;
      least = λ i h. elim (cases_lt i from) [ inl low ↦ old i low | inr high ↦ at_most i high h ];
      first = some.first;
    }
  ]
    where
      at_most : (i : ℕ) → from ≤ i → i < from + n → value ≤ get_or ds i 0
      at_most i high h = elim
          (cases_lt (get_or part first 0) value) [
            | inl less ↦ absurd (farther less)
            | inr more ↦ omega
                (arith, new i high h)
          ]

pub nearest_end : (q : List ℕ) (cs : List (List ℕ)) (bits n place value : ℕ)
    → IsSoFar (distances q cs) bits n place value → n ≡ length cs → 1 ≤ length cs
    → (nearest_by cs q ≡ place) × (place < length cs)
nearest_end q cs bits n place value so_far e some = elim so_far [
  | inl none ↦ absurd (omega (arith, none.0))
  | inr h ↦
      let all : IsFirstLeast (distances q cs) (length cs) place value = subst
      (λ (m : ℕ). IsFirstLeast (distances q cs) m place value) e h in
      (nearest_is q cs place value no_hit all, all.within)
]

-- a run fits room for the longest
pub run_fits : (cs : List (List ℕ)) (from size room : ℕ) (ls : List ℤ) (bytes : List ℕ)
    → IsRun (numbered 0 cs) from size ls bytes → min (length cs) run_rows ≤ room → length ls ≤ room
run_fits cs from size room ls bytes run h = omega (arith, run.most, run.within, length-numbered 0 cs)

pub run_within : (cs : List (List ℕ)) (from size : ℕ) (ls : List ℤ) (bytes : List ℕ)
    → IsRun (numbered 0 cs) from size ls bytes → from + length ls ≤ length cs
run_within cs from size ls bytes run = omega (arith, run.within, length-numbered 0 cs)
