-- Lemmas on the hits of an index under outer ids.
use Rattle.std.proofs.Common.{◌≡◌, ℕ, zero, suc, ◌<◌, ℤ, List, [], ◌∷◌, ◌++◌, length, get_or, set, take, drop, map, nat_lt}
use Rattle.std.proofs.Common.{refl, sym, ap, ◌∙◌, arith, subst, inl, inr}
use Rattle.std.specs.List.{All, filter}
use Rattle.std.proofs.lemmas.List.Elements.{All-nil, All-cons, All-head, All-tail, All-filter, All-map, All-take}
use Rattle.bcodes.specs.declared.hit.Hit.{Hit}
use Rattle.bcodes.specs.declared.map_name.MapName.{MapName}
use Rattle.bcodes.specs.Hits.{in_order, insert_hit, is_above}
use Rattle.bcodes.specs.Value.{Row, ListRow, Inner, Flat, Ivf, Hash, Multi, IndexValue, Bare, IdMap, inner_of}
use Rattle.bcodes.specs.Value.{IsPlace, count_of, numbered, row_of, rows_of_inner}
use Rattle.bcodes.specs.Answers.{best, within, looked, hits, hit_of, outer, ranked_rows, probed_rows_inner}
use Rattle.bcodes.specs.Answers.{is_probed_ivf, is_probed_hash, is_probed_multi}
use Rattle.bcodes.proofs.RankedLemmas.{All-best, All-within}
use Rattle.bcodes.proofs.FormLemmas.{best_map, looked_map}
use Rattle.id_map.specs.Inside.{IsMapped}
use Rattle.id_map.proofs.RowLemmas.{bare_is}

-- ---- answers and numbers read

within_map : (name : MapName) (v : Inner) (ids : List ℤ) (q : List ℕ) (radius : ℕ)
    → within (IdMap name v ids) q radius ≡ map (outer ids) (within (Bare v) q radius)
unfolding within hits
within_map name v ids q radius = refl

pub best_mapped : (name : MapName) (v : IndexValue) (ids : List ℤ) (q : List ℕ) (k : ℕ) → IsMapped v ids
    → map (outer ids) (best v q k) ≡ best (IdMap name (inner_of v) ids) q k
best_mapped name v ids q k kept =
    ap (λ (w : IndexValue). map (outer ids) (best w q k)) (bare_is v kept.bare)
    ∙ sym (best_map name (inner_of v) ids q k)

pub within_mapped : (name : MapName) (v : IndexValue) (ids : List ℤ) (q : List ℕ) (radius : ℕ) → IsMapped v ids
    → map (outer ids) (within v q radius) ≡ within (IdMap name (inner_of v) ids) q radius
within_mapped name v ids q radius kept =
    ap (λ (w : IndexValue). map (outer ids) (within w q radius)) (bare_is v kept.bare)
    ∙ sym (within_map name (inner_of v) ids q radius)

pub looked_mapped : (name : MapName) (v : IndexValue) (ids : List ℤ) (q : List ℕ) → IsMapped v ids
    → looked v q ≡ looked (IdMap name (inner_of v) ids) q
looked_mapped name v ids q kept =
    ap (λ (w : IndexValue). looked w q) (bare_is v kept.bare) ∙ sym (looked_map name (inner_of v) ids q)

pub best_places : (v : IndexValue) (ids : List ℤ) (q : List ℕ) (k : ℕ) → IsMapped v ids
    → All (λ (h : Hit). IsPlace (length ids) h.label) (best v q k)
best_places v ids q k kept =
    rw kept.count
    (subst (λ (w : IndexValue). All (λ (h : Hit). IsPlace (count_of v) h.label) (best w q k)) (sym (bare_is v kept.bare))
    (All-best (IsPlace (count_of v)) (Bare (inner_of v)) q k refl kept.labels))

pub within_places : (v : IndexValue) (ids : List ℤ) (q : List ℕ) (radius : ℕ) → IsMapped v ids
    → All (λ (h : Hit). IsPlace (length ids) h.label) (within v q radius)
within_places v ids q radius kept =
    rw kept.count
    (subst (λ (w : IndexValue). All (λ (h : Hit). IsPlace (count_of v) h.label) (within w q radius))
    (sym (bare_is v kept.bare))
    (All-within (IsPlace (count_of v)) (Bare (inner_of v)) q radius refl kept.labels))

-- ---- a list of hits of which the first i have their ids

abbrev pub half : (Hit → Hit) → List Hit → ℕ → List Hit
half f old i = map f (take i old) ++ drop i old

pub get-half : (f : Hit → Hit) (old : List Hit) (i : ℕ) (d : Hit) → get_or (half f old i) i d ≡ get_or old i d
get-half f [] zero d = refl
get-half f [] (suc i) d = refl
get-half f (h ∷ old) zero d = refl
get-half f (h ∷ old) (suc i) d = get-half f old i d

pub set-half : (f : Hit → Hit) (old : List Hit) (i : ℕ) (d : Hit) → i < length old
    → set (half f old i) i (f (get_or old i d)) ≡ half f old (suc i)
set-half f [] i d h = absurd (omega arith)
set-half f (h ∷ old) zero d low = refl
set-half f (h ∷ old) (suc i) d low = ap (λ (l : List Hit). f h ∷ l) (set-half f old i d (omega arith))
