-- What an index weighs, by its numbers.
use Rattle.std.proofs.Common.{◌≡◌, ℕ, suc, ◌+◌, ◌≤◌, ℤ, IsSome, true≢false, List, [], ◌∷◌, length, refl, sym, ap, ◌∙◌, arith}
use Rattle.std.proofs.Common.{length-append, subst}
use Rattle.bcodes.specs.Ranges.{load_limit}
use Rattle.bcodes.specs.Value.{Row, Inner, Flat, Ivf, Hash, Multi, IndexValue, Bare, IdMap, inner_of, weight, numbered}
use Rattle.bcodes.specs.Value.{dim_of, dim_of_inner, count_of, count_of_inner, load_of, load_of_inner, IsLegal, IsLegalInner}
use Rattle.bcodes.specs.Settings.{ivf_in, ivf_in_inner}
use Rattle.bcodes.specs.Answers.{added_inner, after_add, after_centroids, given_inner, paired}
use Rattle.bcodes.proofs.LegalLemmas.{legal_inner}
use Rattle.bcodes.proofs.NumberedLemmas.{length-numbered}
use Rattle.id_map.proofs.RowLemmas.{count_added, light}
use Rattle.factory_text.specs.declared.spec.Spec.{Spec}
use Rattle.any_index.specs.Specs.{kind_of, maps_of, held_inner, held_of, spec_of}

-- the load of an index with so many rows and centroids
abbrev pub load_with : Inner → ℕ → ℕ → ℕ
load_with v rows centroids = weight (dim_of_inner v) (maps_of (kind_of v)) rows centroids

load_is : (v : Inner) → load_of_inner v ≡ load_with v (count_of_inner v) (held_inner v)
load_is (Flat v) = refl
load_is (Ivf v) = refl
load_is (Hash v) = refl
load_is (Multi v) = refl

with_added : (v : Inner) (added : List Row) (rows : ℕ)
    → load_with (added_inner v added) rows (held_inner (added_inner v added)) ≡ load_with v rows (held_inner v)
with_added (Flat v) added rows = refl
with_added (Ivf v) added rows = refl
with_added (Hash v) added rows = refl
with_added (Multi v) added rows = refl

load_added : (v : Inner) (added : List Row)
    → load_of_inner (added_inner v added) ≡ load_with v (count_of_inner v + length added) (held_inner v)
load_added v added =
    load_is (added_inner v added)
    ∙ ap (λ (rows : ℕ). load_with (added_inner v added) rows (held_inner (added_inner v added))) (count_added v added)
    ∙ with_added v added (count_of_inner v + length added)

length-paired : (ls : List ℤ) (cs : List (List ℕ)) → length ls ≡ length cs → length (paired ls cs) ≡ length cs
length-paired [] [] h = refl
length-paired [] (c ∷ cs) h = absurd (omega arith)
length-paired (l ∷ ls) [] h = refl
length-paired (l ∷ ls) (c ∷ cs) h = ap suc (length-paired ls cs (omega arith))

-- the load after an add
pub load_after_add : (v : IndexValue) (ls : List ℤ) (cs : List (List ℕ)) → length ls ≡ length cs
    → load_of (after_add v ls cs) ≡ load_with (inner_of v) (count_of v + length cs) (held_of v)
unfolding after_add
load_after_add (Bare v) ls cs same =
    load_added v (paired ls cs)
    ∙ ap (λ (n : ℕ). load_with v (count_of_inner v + n) (held_inner v)) (length-paired ls cs same)
load_after_add (IdMap name v ids) ls cs same =
    load_added v (numbered (count_of_inner v) cs)
    ∙ ap (λ (n : ℕ). load_with v (count_of_inner v + n) (held_inner v)) (length-numbered (count_of_inner v) cs)

pub few_after_add : (v : IndexValue) (ls : List ℤ) (cs : List (List ℕ)) → length ls ≡ length cs
    → load_of (after_add v ls cs) ≤ load_limit → count_of v + length cs ≤ 67108864
few_after_add v ls cs same h =
    light (dim_of v) (maps_of (kind_of (inner_of v))) (count_of v + length cs) (held_of v)
    (subst (λ (n : ℕ). n ≤ load_limit) (load_after_add v ls cs same) h)

load_given : (v : Inner) (cs : List (List ℕ)) → IsSome (ivf_in_inner v)
    → load_of_inner (given_inner v cs) ≡ load_with v (count_of_inner v) (held_inner v + length cs)
load_given (Flat v) cs h = absurd (true≢false (sym h))
load_given (Ivf v) cs h = ap (λ (n : ℕ). load_with (Ivf v) (length v.rows) n) (length-append v.centroids cs)
load_given (Hash v) cs h = absurd (true≢false (sym h))
load_given (Multi v) cs h = absurd (true≢false (sym h))

-- the load after centroids were given to an IVF
pub load_after_centroids : (v : IndexValue) (cs : List (List ℕ)) → IsSome (ivf_in v)
    → load_of (after_centroids v cs) ≡ load_with (inner_of v) (count_of v) (held_of v + length cs)
unfolding after_centroids
load_after_centroids (Bare v) cs h = load_given v cs h
load_after_centroids (IdMap name v ids) cs h = load_given v cs h

-- ---- the numbers that the code weighs

held_inner-le : (v : Inner) → IsLegalInner v → held_inner v ≤ 4194304
held_inner-le (Flat v) h = omega arith
held_inner-le (Ivf v) h = omega (arith, h.held, h.nlist_most)
held_inner-le (Hash v) h = omega arith
held_inner-le (Multi v) h = omega arith

pub held-le : (v : IndexValue) → IsLegal v → held_of v ≤ 4194304
held-le v h = held_inner-le (inner_of v) (legal_inner v h)

pub weighed : (v : IndexValue) (s : Spec) (d rows centroids : ℕ) → d ≡ dim_of v → s ≡ spec_of v
    → weight d (maps_of s.kind) rows centroids ≡ load_with (inner_of v) rows centroids
weighed v s d rows centroids dim spec =
    ap (λ (n : ℕ). weight n (maps_of s.kind) rows centroids) dim
    ∙ ap (λ (t : Spec). weight (dim_of v) (maps_of t.kind) rows centroids) spec

-- an add or centroids that were weighed before are within the limit on the load
pub light_add : (v : IndexValue) (ls : List ℤ) (cs : List (List ℕ)) (n : ℕ) → length ls ≡ length cs → n ≡ length cs
    → load_with (inner_of v) (count_of v + n) (held_of v + 0) ≤ load_limit → load_of (after_add v ls cs) ≤ load_limit
light_add v ls cs n same long light =
    let none : held_of v + 0 ≡ held_of v = omega arith in
    rw (load_after_add v ls cs same, ← long) (rw none at light)

pub light_centroids : (v : IndexValue) (cs : List (List ℕ)) (n : ℕ) → IsSome (ivf_in v) → n ≡ length cs
    → load_with (inner_of v) (count_of v + 0) (held_of v + n) ≤ load_limit
    → load_of (after_centroids v cs) ≤ load_limit
light_centroids v cs n is_ivf long light =
    let none : count_of v + 0 ≡ count_of v = omega arith in
    rw (load_after_centroids v cs is_ivf, ← long) (rw none at light)
