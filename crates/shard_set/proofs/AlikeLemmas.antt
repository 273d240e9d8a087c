-- Lemmas on plain Flat and plain MultiHash that differ in their codes at most.
use Rattle.std.proofs.Common.{◌≡◌, ℕ, ◌+◌, ◌<◌, ◌≤◌, pos, Bool, true, false, ◌&&◌}
use Rattle.std.proofs.Common.{true≢false, eqb}
use Rattle.std.proofs.Common.{List, [], ◌∷◌, ◌++◌, length, map, refl, sym, ap, ◌∙◌, arith, subst}
use Rattle.std.proofs.Common.{length-append, inl, inr}
use Rattle.std.specs.List.{All, filter, list_all}
use Rattle.std.proofs.lemmas.Bool.{eqb-true, eq-eqb, and_from}
use Rattle.std.proofs.lemmas.Int.{ints}
use Rattle.std.proofs.lemmas.List.Elements.{filter-append}
use Rattle.std.proofs.lemmas.List.Folds.{list_all-append}
use Rattle.bcodes.specs.Ranges.{load_limit}
use Rattle.bcodes.specs.Settings.{needs_ids}
use Rattle.bcodes.specs.Value.{Row, CodeList, MultiValue, Flat, Ivf, Hash, Multi, IndexValue, Bare, IdMap, inner_of}
use Rattle.bcodes.specs.Value.{IsCode, IsLegal, IsPlace, count_of, dim_of, is_trained, load_of, numbered, rows_of}
use Rattle.bcodes.specs.Value.{weight}
use Rattle.bcodes.specs.Answers.{bound_of, fixed_of, is_probed_multi, probed_rows, some_chunk_near}
use Rattle.bcodes.proofs.NumberedLemmas.{length-numbered, numbered-append, get-numbered}
use Rattle.bcodes.proofs.OrderLemmas.{either}
use Rattle.shard_set.specs.Joined.{is_alike, are_alike, with_codes_inner, codes_of, moved}
use Rattle.shard_set.specs.Shards.{IsShard}

-- the value with other codes
abbrev pub with_codes : List (List ℕ) → IndexValue → IndexValue
with_codes codes v = Bare (with_codes_inner codes (inner_of v))

pub both_true : (s t : Bool) → (s && t) ≡ true → (s ≡ true) × (t ≡ true)
both_true true t e = (refl, e)
both_true false t e = absurd (true≢false (sym e))

codes-numbered : (i : ℕ) (cs : List (List ℕ)) → map (λ (row : Row). row.code) (numbered i cs) ≡ cs
codes-numbered i [] = refl
codes-numbered i (c ∷ cs) = ap (λ (ds : List (List ℕ)). c ∷ ds) (codes-numbered (i + 1) cs)

-- ---- one is the other with its own codes

flat_is : (v w : CodeList) → v.dim ≡ w.dim
    → Flat w ≡ Flat (record v { codes = map (λ (row : Row). row.code) (numbered 0 w.codes) })
flat_is v w e =
    ap (λ (d : ℕ). Flat (record { dim = d; codes = w.codes })) (sym e)
    ∙ ap (λ (cs : List (List ℕ)). Flat (record v { codes = cs })) (sym (codes-numbered 0 w.codes))

multi_is : (v w : MultiValue) → v.dim ≡ w.dim → v.nhash ≡ w.nhash → v.b ≡ w.b → v.nflip ≡ w.nflip
    → Multi w ≡ Multi (record v { codes = map (λ (row : Row). row.code) (numbered 0 w.codes) })
multi_is v w d n b f =
    ap (λ (x : ℕ). Multi (record w { dim = x })) (sym d)
    ∙ ap (λ (x : ℕ). Multi (record w { dim = v.dim; nhash = x })) (sym n)
    ∙ ap (λ (x : ℕ). Multi (record w { dim = v.dim; nhash = v.nhash; b = x })) (sym b)
    ∙ ap (λ (x : ℕ). Multi (record v { nflip = x; codes = w.codes })) (sym f)
    ∙ ap (λ (cs : List (List ℕ)). Multi (record v { codes = cs })) (sym (codes-numbered 0 w.codes))

multi_alike : (v w : MultiValue) → is_alike (Bare (Multi v)) (Bare (Multi w)) ≡ true
    → Multi w ≡ Multi (record v { codes = map (λ (row : Row). row.code) (numbered 0 w.codes) })
multi_alike v w e =
    let three : Bool = (eqb v.dim w.dim && eqb v.nhash w.nhash) && eqb v.b w.b in
    let f = both_true three (eqb v.nflip w.nflip) e in
    let b = both_true (eqb v.dim w.dim && eqb v.nhash w.nhash) (eqb v.b w.b) f.0 in
    let n = both_true (eqb v.dim w.dim) (eqb v.nhash w.nhash) b.0 in
    multi_is v w (eqb-true v.dim w.dim n.0) (eqb-true v.nhash w.nhash n.1) (eqb-true v.b w.b b.1)
    (eqb-true v.nflip w.nflip f.1)

pub alike_is : (v w : IndexValue) → is_alike v w ≡ true → w ≡ with_codes (codes_of w) v
alike_is (Bare (Flat v)) (Bare (Flat w)) e = ap Bare (flat_is v w (eqb-true v.dim w.dim e))
alike_is (Bare (Flat v)) (Bare (Ivf w)) e = absurd (true≢false (sym e))
alike_is (Bare (Flat v)) (Bare (Hash w)) e = absurd (true≢false (sym e))
alike_is (Bare (Flat v)) (Bare (Multi w)) e = absurd (true≢false (sym e))
alike_is (Bare (Flat v)) (IdMap name w ids) e = absurd (true≢false (sym e))
alike_is (Bare (Ivf v)) (Bare w) e = absurd (true≢false (sym e))
alike_is (Bare (Ivf v)) (IdMap name w ids) e = absurd (true≢false (sym e))
alike_is (Bare (Hash v)) (Bare w) e = absurd (true≢false (sym e))
alike_is (Bare (Hash v)) (IdMap name w ids) e = absurd (true≢false (sym e))
alike_is (Bare (Multi v)) (Bare (Flat w)) e = absurd (true≢false (sym e))
alike_is (Bare (Multi v)) (Bare (Ivf w)) e = absurd (true≢false (sym e))
alike_is (Bare (Multi v)) (Bare (Hash w)) e = absurd (true≢false (sym e))
alike_is (Bare (Multi v)) (Bare (Multi w)) e = ap Bare (multi_alike v w e)
alike_is (Bare (Multi v)) (IdMap name w ids) e = absurd (true≢false (sym e))
alike_is (IdMap name v ids) w e = absurd (true≢false (sym e))

-- ---- a Flat or a MultiHash by its codes

moved-numbered : (n i : ℕ) (cs : List (List ℕ)) → map (moved n) (numbered i cs) ≡ numbered (i + n) cs
moved-numbered n i [] = refl
moved-numbered n i (c ∷ cs) =
    ap (λ (rows : List Row). record { label = pos (i + n); code = c } ∷ rows) (moved-numbered n (i + 1) cs
    ∙ ap (λ (m : ℕ). numbered m cs) (omega arith))

numbered_parts : (cs ds : List (List ℕ)) → numbered 0 (cs ++ ds) ≡ numbered 0 cs ++ map (moved (length cs))
    (numbered 0 ds)
numbered_parts cs ds = numbered-append 0 cs ds
    ∙ ap (λ (rows : List Row). numbered 0 cs ++ rows) (sym (moved-numbered (length cs) 0 ds))

filter-moved : (v : MultiValue) (q : List ℕ) (n : ℕ) (rows : List Row)
    → filter (is_probed_multi v q) (map (moved n) rows) ≡ map (moved n) (filter (is_probed_multi v q) rows)
filter-moved v q n [] = refl
filter-moved v q n (row ∷ rows) =
    elim (either (some_chunk_near row.code q v.b v.nflip v.nhash)) [
      | inl p ↦ rw p (ap (λ (rs : List Row). moved n row ∷ rs) (filter-moved v q n rows))
      | inr p ↦ rw p (filter-moved v q n rows)
    ]

-- a query meets the rows of a part as it does alone
pub probed_parts : (v : IndexValue) (cs ds : List (List ℕ)) (q : List ℕ) → is_alike v v ≡ true
    → probed_rows (with_codes (cs ++ ds) v) q
    ≡ probed_rows (with_codes cs v) q ++ map (moved (length cs)) (probed_rows (with_codes ds v) q)
probed_parts (Bare (Flat v)) cs ds q e = numbered_parts cs ds
probed_parts (Bare (Ivf v)) cs ds q e = absurd (true≢false (sym e))
probed_parts (Bare (Hash v)) cs ds q e = absurd (true≢false (sym e))
probed_parts (Bare (Multi v)) cs ds q e =
    ap (filter (is_probed_multi v q)) (numbered_parts cs ds)
    ∙ filter-append (is_probed_multi v q) (numbered 0 cs) (map (moved (length cs)) (numbered 0 ds))
    ∙ ap (λ (rows : List Row). filter (is_probed_multi v q) (numbered 0 cs) ++ rows)
    (filter-moved v q (length cs) (numbered 0 ds))
probed_parts (IdMap name v ids) cs ds q e = absurd (true≢false (sym e))

pub probed_none : (v : IndexValue) (q : List ℕ) → is_alike v v ≡ true → probed_rows (with_codes [] v) q ≡ []
probed_none (Bare (Flat v)) q e = refl
probed_none (Bare (Ivf v)) q e = absurd (true≢false (sym e))
probed_none (Bare (Hash v)) q e = absurd (true≢false (sym e))
probed_none (Bare (Multi v)) q e = refl
probed_none (IdMap name v ids) q e = absurd (true≢false (sym e))

pub count_with : (v : IndexValue) (cs : List (List ℕ)) → is_alike v v ≡ true
    → count_of (with_codes cs v) ≡ length cs
count_with (Bare (Flat v)) cs e = refl
count_with (Bare (Ivf v)) cs e = absurd (true≢false (sym e))
count_with (Bare (Hash v)) cs e = absurd (true≢false (sym e))
count_with (Bare (Multi v)) cs e = refl
count_with (IdMap name v ids) cs e = absurd (true≢false (sym e))

pub bound_with : (v : IndexValue) (cs : List (List ℕ)) → bound_of (with_codes cs v) ≡ bound_of v
bound_with (Bare (Flat v)) cs = refl
bound_with (Bare (Ivf v)) cs = refl
bound_with (Bare (Hash v)) cs = refl
bound_with (Bare (Multi v)) cs = refl
bound_with (IdMap name (Flat v) ids) cs = refl
bound_with (IdMap name (Ivf v) ids) cs = refl
bound_with (IdMap name (Hash v) ids) cs = refl
bound_with (IdMap name (Multi v) ids) cs = refl

pub fixed_with : (v : IndexValue) (cs : List (List ℕ)) → is_alike v v ≡ true → fixed_of (with_codes cs v) ≡ 0
fixed_with (Bare (Flat v)) cs e = refl
fixed_with (Bare (Ivf v)) cs e = absurd (true≢false (sym e))
fixed_with (Bare (Hash v)) cs e = absurd (true≢false (sym e))
fixed_with (Bare (Multi v)) cs e = refl
fixed_with (IdMap name v ids) cs e = absurd (true≢false (sym e))

weight_parts : (d maps m n k : ℕ) → k ≡ m + n → weight d maps k 0 ≡ weight d maps m 0 + weight d maps n 0
weight_parts d maps m n k e = rw e (grind arith)

pub load_parts : (v : IndexValue) (cs ds : List (List ℕ)) → is_alike v v ≡ true
    → load_of (with_codes (cs ++ ds) v) ≡ load_of (with_codes cs v) + load_of (with_codes ds v)
load_parts (Bare (Flat v)) cs ds e = weight_parts v.dim 0 (length cs) (length ds) (length (cs ++ ds))
    (length-append cs ds)
load_parts (Bare (Ivf v)) cs ds e = absurd (true≢false (sym e))
load_parts (Bare (Hash v)) cs ds e = absurd (true≢false (sym e))
load_parts (Bare (Multi v)) cs ds e =
    weight_parts v.dim v.nhash (length cs) (length ds) (length (cs ++ ds)) (length-append cs ds)
load_parts (IdMap name v ids) cs ds e = absurd (true≢false (sym e))

weight_none : (d maps : ℕ) → weight d maps 0 0 ≡ 0
weight_none d maps = grind arith

pub load_none : (v : IndexValue) → is_alike v v ≡ true → load_of (with_codes [] v) ≡ 0
load_none (Bare (Flat v)) e = weight_none v.dim 0
load_none (Bare (Ivf v)) e = absurd (true≢false (sym e))
load_none (Bare (Hash v)) e = absurd (true≢false (sym e))
load_none (Bare (Multi v)) e = weight_none v.dim v.nhash
load_none (IdMap name v ids) e = absurd (true≢false (sym e))

pub legal_with : (v : IndexValue) (cs : List (List ℕ)) → is_alike v v ≡ true → IsLegal v
    → All (IsCode (dim_of v)) cs
    → load_of (with_codes cs v) ≤ load_limit → IsLegal (with_codes cs v)
legal_with (Bare (Flat v)) cs e legal codes load = record { dim = legal.dim; codes = codes; load = load }
legal_with (Bare (Ivf v)) cs e legal codes load = absurd (true≢false (sym e))
legal_with (Bare (Hash v)) cs e legal codes load = absurd (true≢false (sym e))
legal_with (Bare (Multi v)) cs e legal codes load = record {
  dim = legal.dim;
  nhash_least = legal.nhash_least;
  nhash_most = legal.nhash_most;
  b_least = legal.b_least;
  b_most = legal.b_most;
  within = legal.within;
  nflip = legal.nflip;
  codes = codes;
  load = load;
}
legal_with (IdMap name v ids) cs e legal codes load = absurd (true≢false (sym e))

pub legal_codes : (v : IndexValue) → is_alike v v ≡ true → IsLegal v → All (IsCode (dim_of v)) (codes_of v)
legal_codes (Bare (Flat v)) e legal = rw (codes-numbered 0 v.codes) legal.codes
legal_codes (Bare (Ivf v)) e legal = absurd (true≢false (sym e))
legal_codes (Bare (Hash v)) e legal = absurd (true≢false (sym e))
legal_codes (Bare (Multi v)) e legal = rw (codes-numbered 0 v.codes) legal.codes
legal_codes (IdMap name v ids) e legal = absurd (true≢false (sym e))

pub dim_with : (v : IndexValue) (cs : List (List ℕ)) → dim_of (with_codes cs v) ≡ dim_of v
dim_with (Bare (Flat v)) cs = refl
dim_with (Bare (Ivf v)) cs = refl
dim_with (Bare (Hash v)) cs = refl
dim_with (Bare (Multi v)) cs = refl
dim_with (IdMap name (Flat v) ids) cs = refl
dim_with (IdMap name (Ivf v) ids) cs = refl
dim_with (IdMap name (Hash v) ids) cs = refl
dim_with (IdMap name (Multi v) ids) cs = refl

-- ---- what a shard has to be

pub numbered_places : (cs : List (List ℕ)) → All (λ (row : Row). IsPlace (length cs) row.label) (numbered 0 cs)
numbered_places cs = λ k d low.
    let here : k < length cs = omega (arith, low, length-numbered 0 cs) in
    let is = ap (λ (row : Row). row.label) (get-numbered 0 cs k d [] here) in
    rw is (record { least = omega (arith, ints); most = omega (arith, ints, here) })

places_alike : (v : IndexValue) → is_alike v v ≡ true
    → All (λ (row : Row). IsPlace (count_of v) row.label) (rows_of v)
places_alike (Bare (Flat v)) e = numbered_places v.codes
places_alike (Bare (Ivf v)) e = absurd (true≢false (sym e))
places_alike (Bare (Hash v)) e = absurd (true≢false (sym e))
places_alike (Bare (Multi v)) e = numbered_places v.codes
places_alike (IdMap name v ids) e = absurd (true≢false (sym e))

trained_alike : (v : IndexValue) → is_alike v v ≡ true → is_trained v ≡ true
trained_alike (Bare (Flat v)) e = refl
trained_alike (Bare (Ivf v)) e = absurd (true≢false (sym e))
trained_alike (Bare (Hash v)) e = absurd (true≢false (sym e))
trained_alike (Bare (Multi v)) e = refl
trained_alike (IdMap name v ids) e = absurd (true≢false (sym e))

bare_alike : (v : IndexValue) → is_alike v v ≡ true → needs_ids v ≡ false
bare_alike (Bare v) e = refl
bare_alike (IdMap name v ids) e = absurd (true≢false (sym e))

-- ---- one more that is alike

same_numbers : (v : MultiValue) → is_alike (Bare (Multi v)) (Bare (Multi v)) ≡ true
same_numbers v = rw (
  eq-eqb v.dim v.dim refl,
  eq-eqb v.nhash v.nhash refl,
  eq-eqb v.b v.b refl,
  eq-eqb v.nflip v.nflip
      refl,
) refl

alike_forms : (v : IndexValue) (cs ds : List (List ℕ)) → is_alike v v ≡ true
    → is_alike (with_codes cs v) (with_codes ds v) ≡ true
alike_forms (Bare (Flat v)) cs ds e = eq-eqb v.dim v.dim refl
alike_forms (Bare (Ivf v)) cs ds e = absurd (true≢false (sym e))
alike_forms (Bare (Hash v)) cs ds e = absurd (true≢false (sym e))
alike_forms (Bare (Multi v)) cs ds e = same_numbers v
alike_forms (IdMap name v ids) cs ds e = absurd (true≢false (sym e))

pub alike_self : (v w : IndexValue) → is_alike v v ≡ true → is_alike v w ≡ true → is_alike w w ≡ true
alike_self v w self to = subst (λ (u : IndexValue). is_alike u u ≡ true) (sym (alike_is v w to))
    (alike_forms v (codes_of w) (codes_of w) self)

pub alike_back : (v w : IndexValue) → is_alike v v ≡ true → is_alike v w ≡ true → is_alike w v ≡ true
alike_back v w self to =
    subst (λ (u : IndexValue). is_alike u v ≡ true) (sym (alike_is v w to))
    (subst (λ (u : IndexValue). is_alike (with_codes (codes_of w) v) u ≡ true) (sym (alike_is v v self))
    (alike_forms v (codes_of w) (codes_of v) self))

-- of a list that is alike, and of another that is alike to each of it
pub are_alike_push : (vs : List IndexValue) (v : IndexValue) → are_alike vs ≡ true → is_alike v v ≡ true
    → list_all (is_alike v) vs ≡ true → are_alike (vs ++ v ∷ []) ≡ true
are_alike_push [] v all self each = rw self refl
are_alike_push (w ∷ vs) v all self each =
    let to : is_alike v w ≡ true = (both_true (is_alike v w) _ each).0 in
    let back = alike_back v w self to in
    list_all-append (is_alike w) (w ∷ vs) (v ∷ [])
    ∙ and_from (list_all (is_alike w) (w ∷ vs)) (list_all (is_alike w) (v ∷ [])) all (rw back refl)

pub shard_alike : (v : IndexValue) → IsLegal v → is_alike v v ≡ true → IsShard v
shard_alike v legal e = record {
  legal = legal;
  trained = trained_alike v e;
  bare = bare_alike v e;
  places = places_alike v e;
}
