-- Several indexes that are alike answer as one.
use Rattle.std.proofs.Common.{◌≡◌, ℕ, ◌+◌, ◌≤◌, true, false, true≢false, Option, Some, None}
use Rattle.std.proofs.Common.{unwrap_or}
use Rattle.std.proofs.Common.{List, [], ◌∷◌, ◌++◌, length, map, take, nat_lt, sum_by, refl, sym, ap}
use Rattle.std.proofs.Common.{◌∙◌, arith, subst, length-append}
use Rattle.std.specs.List.{All, filter, flat_map, list_all}
use Rattle.std.specs.Option.{is_some}
use Rattle.std.proofs.lemmas.List.{length-map}
use Rattle.std.proofs.lemmas.List.Elements.{All-head, All-tail, All-nil, All-append}
use Rattle.std.proofs.lemmas.List.Sums.{sum_by-cons}
use Rattle.bcodes.specs.declared.hit.Hit.{Hit}
use Rattle.bcodes.specs.Ranges.{load_limit}
use Rattle.bcodes.specs.Settings.{needs_ids}
use Rattle.bcodes.specs.Value.{Row, IndexValue, Bare, IdMap, IsCode, IsLegal, count_of, dim_of, load_of}
use Rattle.bcodes.specs.Answers.{best, bound_of, fixed_of, hits, looked, probed_rows, ranked_rows, within}
use Rattle.bcodes.specs.Marks.{AreNumbers}
use Rattle.shard_set.specs.Joined.{is_alike, are_alike, codes_of, joined, joined_best, joined_count, joined_hits}
use Rattle.shard_set.specs.Joined.{joined_looked, joined_rows, joined_within, moved}
use Rattle.shard_set.proofs.AlikeLemmas.{with_codes, both_true, alike_is, probed_parts, probed_none, count_with}
use Rattle.shard_set.proofs.AlikeLemmas.{bound_with}
use Rattle.shard_set.proofs.AlikeLemmas.{fixed_with, alike_self, load_parts, load_none, legal_with, legal_codes}
use Rattle.shard_set.proofs.AlikeLemmas.{dim_with}

-- the one index of some that are alike to v
abbrev one : IndexValue → List IndexValue → IndexValue
one v vs = with_codes (flat_map codes_of vs) v

-- ---- the parts of one that is alike to v

count_codes : (v w : IndexValue) → is_alike v v ≡ true → is_alike v w ≡ true
    → count_of w ≡ length (codes_of w)
count_codes v w self to = ap count_of (alike_is v w to) ∙ count_with v (codes_of w) self

fixed_none : (v w : IndexValue) → is_alike v v ≡ true → is_alike v w ≡ true → fixed_of w ≡ 0
fixed_none v w self to = ap fixed_of (alike_is v w to) ∙ fixed_with v (codes_of w) self

looked_codes : (v w : IndexValue) (q : List ℕ) → is_alike v v ≡ true → is_alike v w ≡ true
    → looked w q ≡ length (probed_rows w q)
unfolding looked
looked_codes v w q self to = omega (arith, fixed_none v w self to)

-- ---- all of them

rows_one : (v : IndexValue) (vs : List IndexValue) (q : List ℕ) → is_alike v v ≡ true
    → list_all (is_alike v) vs ≡ true
    → joined_rows vs q ≡ probed_rows (one v vs) q
rows_one v [] q self all = sym (probed_none v q self)
rows_one v (w ∷ vs) q self all =
    let t = both_true (is_alike v w) (list_all (is_alike v) vs) all in
    let rest = flat_map codes_of vs in
    ap (λ (rows : List Row). probed_rows w q ++ map (moved (count_of w)) rows) (rows_one v vs q self t.1)
    ∙ ap (λ (n : ℕ). probed_rows w q ++ map (moved n) (probed_rows (with_codes rest v) q))
    (count_codes v w self t.0)
    ∙ ap (λ (u : IndexValue). probed_rows u q ++ map (moved (length (codes_of w)))
    (probed_rows (with_codes rest v) q))
    (alike_is v w t.0)
    ∙ sym (probed_parts v (codes_of w) rest q self)

looked_rows : (v : IndexValue) (vs : List IndexValue) (q : List ℕ) → is_alike v v ≡ true
    → list_all (is_alike v) vs ≡ true → joined_looked vs q ≡ length (joined_rows vs q)
looked_rows v [] q self all = refl
looked_rows v (w ∷ vs) q self all =
    let t = both_true (is_alike v w) (list_all (is_alike v) vs) all in
    let cons = sum_by-cons (λ (u : IndexValue). looked u q) w vs in
    let here = looked_codes v w q self t.0 in
    let rest = looked_rows v vs q self t.1 in
    let parts = length-append (probed_rows w q) (map (moved (count_of w)) (joined_rows vs q)) in
    let more = length-map (joined_rows vs q) (moved (count_of w)) in
    omega (arith, cons, here, rest, parts, more)

looked_one : (v : IndexValue) (vs : List IndexValue) (q : List ℕ) → is_alike v v ≡ true
    → list_all (is_alike v) vs ≡ true → joined_looked vs q ≡ looked (one v vs) q
unfolding looked
looked_one v vs q self all =
    let rows = ap length (rows_one v vs q self all) in
    omega (arith, looked_rows v vs q self all, rows, fixed_with v (flat_map codes_of vs) self)

count_one : (v : IndexValue) (vs : List IndexValue) → is_alike v v ≡ true → list_all (is_alike v) vs ≡ true
    → joined_count vs ≡ length (flat_map codes_of vs)
count_one v [] self all = refl
count_one v (w ∷ vs) self all =
    let t = both_true (is_alike v w) (list_all (is_alike v) vs) all in
    omega (
      arith,
      sum_by-cons count_of w vs,
      count_codes v w self t.0,
      count_one v vs self t.1,
      length-append (codes_of w) (flat_map codes_of vs),
    )

load_one : (v : IndexValue) (vs : List IndexValue) → is_alike v v ≡ true → list_all (is_alike v) vs ≡ true
    → load_of (one v vs) ≡ sum_by load_of vs
load_one v [] self all = load_none v self
load_one v (w ∷ vs) self all =
    let t = both_true (is_alike v w) (list_all (is_alike v) vs) all in
    load_parts v (codes_of w) (flat_map codes_of vs) self
    ∙ ap (λ (u : IndexValue). load_of u + load_of (one v vs)) (sym (alike_is v w t.0))
    ∙ ap (λ (n : ℕ). load_of w + n) (load_one v vs self t.1)
    ∙ sym (sum_by-cons load_of w vs)

codes_one : (v : IndexValue) (vs : List IndexValue) → is_alike v v ≡ true → list_all (is_alike v) vs ≡ true
    → All IsLegal vs → All (IsCode (dim_of v)) (flat_map codes_of vs)
codes_one v [] self all legal = All-nil (IsCode (dim_of v))
codes_one v (w ∷ vs) self all legal =
    let t = both_true (is_alike v w) (list_all (is_alike v) vs) all in
    let dims : dim_of w ≡ dim_of v = ap dim_of (alike_is v w t.0) ∙ dim_with v (codes_of w) in
    All-append (IsCode (dim_of v)) (codes_of w) (flat_map codes_of vs)
    (subst (λ (d : ℕ). All (IsCode d) (codes_of w)) dims
    (legal_codes w (alike_self v w self t.0) (All-head IsLegal w vs legal)))
    (codes_one v vs self t.1 (All-tail IsLegal w vs legal))

-- ---- the joined value

some_none : (v : IndexValue) → joined [] ≡ Some v → ⊥
unfolding joined
some_none v e = true≢false (sym (ap is_some e))

some_is : (v w : IndexValue) → Some v ≡ Some w → v ≡ w
some_is v w e = ap (λ (o : Option IndexValue). unwrap_or o v) e

joined_is : (v w : IndexValue) (vs : List IndexValue) → joined (w ∷ vs) ≡ Some v → v ≡ one w (w ∷ vs)
unfolding joined
joined_is v w vs e = sym (some_is (one w (w ∷ vs)) v e)

-- what the first of some that are alike is, with the rest
self_of : (w : IndexValue) (vs : List IndexValue) → are_alike (w ∷ vs) ≡ true → is_alike w w ≡ true
self_of w vs all = (both_true (is_alike w w) (list_all (is_alike w) vs) all).0

pub joined_hits_are : (vs : List IndexValue) (v : IndexValue) (q : List ℕ) → are_alike vs ≡ true
    → joined vs ≡ Some v
    → joined_hits vs q ≡ hits v q
unfolding joined_hits hits
joined_hits_are [] v q all is = absurd (some_none v is)
joined_hits_are (w ∷ vs) v q all is =
    ap (ranked_rows q) (rows_one w (w ∷ vs) q (self_of w vs all) all)
    ∙ ap (λ (u : IndexValue). ranked_rows q (probed_rows u q)) (sym (joined_is v w vs is))

-- a joined value has no outer ids
joined_bare : (vs : List IndexValue) (v : IndexValue) → joined vs ≡ Some v → needs_ids v ≡ false
joined_bare [] v is = absurd (some_none v is)
joined_bare (w ∷ vs) v is = ap needs_ids (joined_is v w vs is)

bare_best : (v : IndexValue) (q : List ℕ) (k : ℕ) → needs_ids v ≡ false → take k (hits v q) ≡ best v q k
unfolding best
bare_best (Bare v) q k bare = refl
bare_best (IdMap name v ids) q k bare = absurd (true≢false bare)

bare_within : (v : IndexValue) (q : List ℕ) (radius : ℕ) → needs_ids v ≡ false
    → filter (λ (h : Hit). nat_lt h.distance radius) (hits v q) ≡ within v q radius
unfolding within
bare_within (Bare v) q radius bare = refl
bare_within (IdMap name v ids) q radius bare = absurd (true≢false bare)

pub joined_best_is : (vs : List IndexValue) (v : IndexValue) (q : List ℕ) (k : ℕ) → are_alike vs ≡ true
    → joined vs ≡ Some v → joined_best vs q k ≡ best v q k
unfolding joined_best
joined_best_is vs v q k all is = ap (take k) (joined_hits_are vs v q all is) ∙ bare_best v q k (joined_bare vs v is)

pub joined_within_is : (vs : List IndexValue) (v : IndexValue) (q : List ℕ) (radius : ℕ) → are_alike vs ≡ true
    → joined vs ≡ Some v → joined_within vs q radius ≡ within v q radius
unfolding joined_within
joined_within_is vs v q radius all is =
    ap (filter (λ (h : Hit). nat_lt h.distance radius)) (joined_hits_are vs v q all is)
    ∙ bare_within v q radius (joined_bare vs v is)

pub joined_numbers : (w : IndexValue) (vs : List IndexValue) (v : IndexValue) (q : List ℕ)
    → are_alike (w ∷ vs) ≡ true
    → joined (w ∷ vs) ≡ Some v
    → AreNumbers v q (joined_looked (w ∷ vs) q) 0 (joined_count (w ∷ vs)) (bound_of w)
joined_numbers w vs v q all is =
    let self = self_of w vs all in
    let codes = flat_map codes_of (w ∷ vs) in
    let one_is = joined_is v w vs is in
    record {
      lent = looked_one w (w ∷ vs) q self all ∙ ap (λ (u : IndexValue). looked u q) (sym one_is);
      fixed = sym (ap fixed_of one_is ∙ fixed_with w codes self);
      count = count_one w (w ∷ vs) self all ∙ sym (ap count_of one_is ∙ count_with w codes self);
      bound = sym (ap bound_of one_is ∙ bound_with w codes);
    }

pub joined_load : (vs : List IndexValue) (v : IndexValue) → are_alike vs ≡ true → joined vs ≡ Some v
    → load_of v ≡ sum_by load_of vs
joined_load [] v all is = absurd (some_none v is)
joined_load (w ∷ vs) v all is = ap load_of (joined_is v w vs is) ∙ load_one w (w ∷ vs) (self_of w vs all) all

pub joined_legal : (vs : List IndexValue) (v : IndexValue) → are_alike vs ≡ true → joined vs ≡ Some v
    → All IsLegal vs
    → sum_by load_of vs ≤ load_limit → IsLegal v
joined_legal [] v all is legal load = absurd (some_none v is)
joined_legal (w ∷ vs) v all is legal load =
    let self = self_of w vs all in
    let codes = flat_map codes_of (w ∷ vs) in
    let light : load_of (one w (w ∷ vs)) ≤ load_limit = omega (arith, load_one w (w ∷ vs) self all, load) in
    subst IsLegal (sym (joined_is v w vs is))
    (legal_with w codes self (All-head IsLegal w vs legal) (codes_one w (w ∷ vs) self all legal) light)

pub joined_dim : (w : IndexValue) (vs : List IndexValue) (v : IndexValue) → joined (w ∷ vs) ≡ Some v
    → dim_of v ≡ dim_of w
joined_dim w vs v is = ap dim_of (joined_is v w vs is) ∙ dim_with w (flat_map codes_of (w ∷ vs))

pub joined_none : joined [] ≡ None
unfolding joined
joined_none = refl

pub joined_some : (w : IndexValue) (vs : List IndexValue) → is_some (joined (w ∷ vs)) ≡ true
unfolding joined
joined_some w vs = refl
