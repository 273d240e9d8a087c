-- A marked answer is that of a full scan.
use Rattle.std.proofs.Common.{◌≡◌, ℕ, ◌+◌, ◌-◌, ◌*◌, ◌/◌, ◌<◌, ◌≤◌, Bool, true, false, ◌||◌, ◌⊎◌, inl, inr, nat_le}
use Rattle.std.proofs.Common.{nat_lt, ℤ}
use Rattle.std.proofs.Common.{List, [], length, take, map, refl, sym, ap, ◌∙◌, arith, get_or}
use Rattle.std.specs.List.{filter, list_all}
use Rattle.std.proofs.lemmas.Bool.{leb-true, le-leb, ltb-true, eq-eqb}
use Rattle.std.proofs.lemmas.Bool.Decides.{nat_tests}
use Rattle.std.proofs.lemmas.List.{length-map, get_or-map}
use Rattle.bcodes.specs.declared.hit.Hit.{Hit}
use Rattle.bcodes.specs.Bits.{dist_between}
use Rattle.bcodes.specs.Hits.{no_hit}
use Rattle.bcodes.specs.Value.{Row, ListRow, HashValue, MultiValue, Inner, Flat, Ivf, Hash, Multi, IndexValue, Bare}
use Rattle.bcodes.specs.Value.{IdMap, inner_of, row_of, numbered, rows_of_inner}
use Rattle.bcodes.specs.Value.{IsLegal, IsLegalInner, IsLegalHash, IsLegalMulti}
use Rattle.bcodes.specs.Answers.{best, within, hits, scan_best, scan_within, ranked_rows, outer, relabelled}
use Rattle.bcodes.specs.Answers.{probed_rows_inner, bound_of_inner}
use Rattle.bcodes.specs.Answers.{is_probed_ivf, is_probed_hash, is_probed_multi}
use Rattle.bcodes.specs.Marks.{range_mark, search_mark, is_full_below, probes_all_inner}
use Rattle.bcodes.proofs.BitLemmas.{differing-le_part}
use Rattle.bcodes.proofs.LegalLemmas.{legal_inner}
use Rattle.bcodes.proofs.NumberedLemmas.{length-numbered, get-numbered}
use Rattle.bcodes.proofs.PigeonholeLemmas.{near_chunk}
use Rattle.bcodes.proofs.ScanLemmas.{IsCloseKept, close_hits, close_first, filter-all, filter-none, is_full_below-true}

some_of : (s t : Bool) → (s || t) ≡ true → (s ≡ true) ⊎ (t ≡ true)
some_of true t e = inl refl
some_of false t e = inr e

or-true : (s : Bool) → (s || true) ≡ true
or-true true = refl
or-true false = refl

-- ---- rows below the bound are probed

close_hash : (v : HashValue) (q : List ℕ) (radius : ℕ) → IsLegalHash v → radius ≤ v.nflip + 1
    → IsCloseKept q (is_probed_hash v q) radius v.rows
close_hash v q radius legal small k d h less =
    let code : List ℕ = (get_or v.rows k d).code in
    let within : v.b - 0 ≤ 8 * length code = omega (
      arith,
      (legal.rows k d h).code.size,
      legal.b_within,
      legal.dim.whole_bytes,
    ) in
    le-leb (dist_between code q 0 v.b) v.nflip
    (omega (arith, differing-le_part code q 0 (v.b - 0) (8 * length code) within))

close_multi : (v : MultiValue) (q : List ℕ) (radius : ℕ) → IsLegalMulti v → radius ≤ v.nhash * (v.nflip + 1)
    → IsCloseKept q (is_probed_multi v q) radius (numbered 0 v.codes)
close_multi v q radius legal small k d h less =
    let low : k < length v.codes = omega (arith, length-numbered 0 v.codes) in
    let is : (get_or (numbered 0 v.codes) k d).code ≡ get_or v.codes k [] = ap (λ (row : Row). row.code)
    (get-numbered 0 v.codes k d [] low) in
    let size : length (get_or (numbered 0 v.codes) k d).code ≡ v.dim / 8 = ap length is ∙ (legal.codes k [] low).size in
    near_chunk v (get_or (numbered 0 v.codes) k d).code q legal size (omega (arith, less))

-- ---- range answers

abbrev inside : ℕ → List Hit → List Hit
inside radius hs = filter (λ (h : Hit). nat_lt h.distance radius) hs

lt_none : (n radius : ℕ) → radius ≤ 0 → nat_lt n radius ≡ false
lt_none n radius h = grind (arith, nat_tests)

inside_none : (radius : ℕ) (hs : List Hit) → radius ≤ 0 → inside radius hs ≡ []
inside_none radius hs h = filter-none (λ (h : Hit). nat_lt h.distance radius) hs (λ x. lt_none x.distance radius h)

inner_within : (v : Inner) (q : List ℕ) (radius : ℕ) → IsLegalInner v
    → (probes_all_inner v q || nat_le radius (bound_of_inner v)) ≡ true
    → inside radius (ranked_rows q (probed_rows_inner v q)) ≡ inside radius (ranked_rows q (rows_of_inner v))
inner_within (Flat v) q radius legal mark = refl
inner_within (Ivf v) q radius legal mark =
    elim (some_of (list_all (is_probed_ivf v q) v.rows) (nat_le radius 0) mark) [
      | inl all ↦ ap (λ (rows : List ListRow). inside radius (ranked_rows q (map row_of rows)))
          (filter-all (is_probed_ivf v q) v.rows all)
      | inr small ↦
          let none : radius ≤ 0 = leb-true radius 0 small in
          inside_none radius (ranked_rows q (probed_rows_inner (Ivf v) q)) none
          ∙ sym (inside_none radius (ranked_rows q (rows_of_inner (Ivf v))) none)
    ]
inner_within (Hash v) q radius legal mark =
    elim (some_of (list_all (is_probed_hash v q) v.rows) (nat_le radius (v.nflip + 1)) mark) [
      | inl all ↦ ap (λ (rows : List Row). inside radius (ranked_rows q rows))
          (filter-all (is_probed_hash v q) v.rows all)
      | inr small ↦ close_hits q (is_probed_hash v q) radius v.rows
          (close_hash v q radius legal (leb-true radius (v.nflip + 1) small))
    ]
inner_within (Multi v) q radius legal mark =
    elim (some_of (list_all (is_probed_multi v q) (numbered 0 v.codes)) (nat_le radius (v.nhash * (v.nflip + 1))) mark) [
      | inl all ↦ ap (λ (rows : List Row). inside radius (ranked_rows q rows))
          (filter-all (is_probed_multi v q) (numbered 0 v.codes) all)
      | inr small ↦ close_hits q (is_probed_multi v q) radius (numbered 0 v.codes)
          (close_multi v q radius legal (leb-true radius (v.nhash * (v.nflip + 1)) small))
    ]

pub marked_within : (v : IndexValue) (q : List ℕ) (radius : ℕ) → IsLegal v → range_mark v q radius ≡ true
    → within v q radius ≡ scan_within v q radius
unfolding within scan_within hits
marked_within v q radius legal mark = ap (relabelled v) (inner_within (inner_of v) q radius (legal_inner v legal) mark)

-- ---- search answers

lt_zero : (n : ℕ) → nat_lt n 0 ≡ true → ⊥
lt_zero n e = omega (arith, ltb-true n 0 e)

inner_best : (v : Inner) (q : List ℕ) (k : ℕ) → IsLegalInner v
    → (probes_all_inner v q || is_full_below (take k (ranked_rows q (probed_rows_inner v q))) k (bound_of_inner v)) ≡ true
    → take k (ranked_rows q (probed_rows_inner v q)) ≡ take k (ranked_rows q (rows_of_inner v))
inner_best (Flat v) q k legal mark = refl
inner_best (Ivf v) q k legal mark =
    elim (some_of (list_all (is_probed_ivf v q) v.rows)
    (is_full_below (take k (ranked_rows q (probed_rows_inner (Ivf v) q))) k 0) mark) [
      | inl all ↦ ap (λ (rows : List ListRow). take k (ranked_rows q (map row_of rows)))
          (filter-all (is_probed_ivf v q) v.rows all)
      | inr full ↦
          let is = is_full_below-true (take k (ranked_rows q (probed_rows_inner (Ivf v) q))) k 0 full in
          absurd (lt_zero (get_or (take k (ranked_rows q (probed_rows_inner (Ivf v) q))) (k - 1) no_hit).distance
          is.below)
    ]
inner_best (Hash v) q k legal mark =
    elim (some_of (list_all (is_probed_hash v q) v.rows)
    (is_full_below (take k (ranked_rows q (filter (is_probed_hash v q) v.rows))) k (v.nflip + 1)) mark) [
      | inl all ↦ ap (λ (rows : List Row). take k (ranked_rows q rows)) (filter-all (is_probed_hash v q) v.rows all)
      | inr full ↦ close_first q (is_probed_hash v q) (v.nflip + 1) k v.rows
          (close_hash v q (v.nflip + 1) legal (omega arith)) full
    ]
inner_best (Multi v) q k legal mark =
    elim (some_of (list_all (is_probed_multi v q) (numbered 0 v.codes))
    (is_full_below (take k (ranked_rows q (filter (is_probed_multi v q) (numbered 0 v.codes)))) k
    (v.nhash * (v.nflip + 1))) mark) [
      | inl all ↦ ap (λ (rows : List Row). take k (ranked_rows q rows))
          (filter-all (is_probed_multi v q) (numbered 0 v.codes) all)
      | inr full ↦ close_first q (is_probed_multi v q) (v.nhash * (v.nflip + 1)) k (numbered 0 v.codes)
          (close_multi v q (v.nhash * (v.nflip + 1)) legal (omega arith)) full
    ]

-- outer ids change no distance
full_relabelled : (ids : List ℤ) (hs : List Hit) (k bound : ℕ) → is_full_below (map (outer ids) hs) k bound ≡ true
    → is_full_below hs k bound ≡ true
full_relabelled ids hs k bound full =
    let is = is_full_below-true (map (outer ids) hs) k bound full in
    let long : length hs ≡ k = sym (length-map hs (outer ids)) ∙ is.full in
    let low : k - 1 < length hs = omega (arith, is.some) in
    let same : (get_or (map (outer ids) hs) (k - 1) no_hit).distance ≡ (get_or hs (k - 1) no_hit).distance
    = ap (λ (h : Hit). h.distance) (get_or-map (outer ids) hs (k - 1) no_hit no_hit low) in
    let below : nat_lt (get_or hs (k - 1) no_hit).distance bound ≡ true = rw same at is.below in
    rw (le-leb 1 k is.some, eq-eqb (length hs) k long, below) refl

marked_inside : (v : IndexValue) (q : List ℕ) (k : ℕ) → search_mark v q k ≡ true
    → (probes_all_inner (inner_of v) q || is_full_below (take k (ranked_rows q (probed_rows_inner (inner_of v) q))) k
    (bound_of_inner (inner_of v))) ≡ true
unfolding best hits
marked_inside (Bare v) q k mark = mark
marked_inside (IdMap name v ids) q k mark =
    let found : List Hit = take k (ranked_rows q (probed_rows_inner v q)) in
    elim (some_of (probes_all_inner v q) (is_full_below (map (outer ids) found) k (bound_of_inner v)) mark) [
      | inl all ↦ rw all refl
      | inr full ↦ rw (full_relabelled ids found k (bound_of_inner v) full) (or-true (probes_all_inner v q))
    ]

pub marked_best : (v : IndexValue) (q : List ℕ) (k : ℕ) → IsLegal v → search_mark v q k ≡ true
    → best v q k ≡ scan_best v q k
unfolding best scan_best hits
marked_best v q k legal mark = ap (relabelled v)
    (inner_best (inner_of v) q k (legal_inner v legal) (marked_inside v q k mark))
