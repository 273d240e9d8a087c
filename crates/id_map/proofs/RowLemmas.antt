-- Lemmas on the rows of an index under outer ids.
use Rattle.std.proofs.Common.{◌≡◌, ℕ, ◌+◌, ◌*◌, ◌/◌, ◌<◌, ◌≤◌, ℤ, pos, FitsSigned, w64, false, true≢false}
use Rattle.std.proofs.Common.{List, [], ◌∷◌, ◌++◌, length, get_or, map, refl, sym, ap, ◌∙◌, arith, subst, zero-add, length-append}
use Rattle.std.proofs.lemmas.Int.{ints}
use Rattle.std.proofs.lemmas.List.{length-map, map-append}
use Rattle.std.proofs.lemmas.List.Elements.{All-append}
use Rattle.std.specs.List.{All}
use Rattle.bcodes.specs.declared.map_name.MapName.{MapName}
use Rattle.bcodes.specs.Ranges.{load_limit}
use Rattle.bcodes.specs.Value.{Row, IvfValue, Inner, Flat, Ivf, Hash, Multi, IndexValue, Bare, IdMap, inner_of}
use Rattle.bcodes.specs.Value.{IsPlace, count_of, count_of_inner, load_of, load_of_inner, rows_of, rows_of_inner, row_of}
use Rattle.bcodes.specs.Value.{numbered, labels_from, weight}
use Rattle.bcodes.specs.Settings.{needs_ids}
use Rattle.bcodes.specs.Answers.{added_inner, after_add, onto_nearest, paired}
use Rattle.bcodes.proofs.NumberedLemmas.{length-numbered, numbered-append, get-numbered}
use Rattle.id_map.specs.Inside.{IsMapped}

-- ---- an index without outer ids

pub bare_is : (v : IndexValue) → needs_ids v ≡ false → v ≡ Bare (inner_of v)
bare_is (Bare v) h = refl
bare_is (IdMap name v ids) h = absurd (true≢false h)

length-rows : (v : Inner) → length (rows_of_inner v) ≡ count_of_inner v
length-rows (Flat v) = length-numbered 0 v.codes
length-rows (Ivf v) = length-map v.rows row_of
length-rows (Hash v) = refl
length-rows (Multi v) = length-numbered 0 v.codes

-- what holds of each row of an index that has none
pub All-no_rows : (P : Row → Type 0) (v : IndexValue) → count_of v ≡ 0 → All P (rows_of v)
All-no_rows P v none = λ k d h. absurd (omega (arith, none, length-rows (inner_of v), h))

-- ---- rows that are added under the positions that follow

paired_numbered : (i : ℕ) (cs : List (List ℕ)) → paired (labels_from i (length cs)) cs ≡ numbered i cs
paired_numbered i [] = refl
paired_numbered i (c ∷ cs) = ap (λ (rows : List Row). record { label = pos i; code = c } ∷ rows)
    (paired_numbered (i + 1) cs)

codes-numbered : (i : ℕ) (cs : List (List ℕ)) → map (λ (row : Row). row.code) (numbered i cs) ≡ cs
codes-numbered i [] = refl
codes-numbered i (c ∷ cs) = ap (λ (ds : List (List ℕ)). c ∷ ds) (codes-numbered (i + 1) cs)

row_of-onto : (v : IvfValue) (rows : List Row) → map row_of (map (onto_nearest v) rows) ≡ rows
row_of-onto v [] = refl
row_of-onto v (row ∷ rows) = ap (λ (rs : List Row). row ∷ rs) (row_of-onto v rows)

numbered_added : (cs ds : List (List ℕ))
    → numbered 0 (cs ++ map (λ (row : Row). row.code) (numbered (length cs) ds))
    ≡ numbered 0 cs ++ numbered (length cs) ds
numbered_added cs ds =
    ap (λ (es : List (List ℕ)). numbered 0 (cs ++ es)) (codes-numbered (length cs) ds)
    ∙ numbered-append 0 cs ds
    ∙ ap (λ (n : ℕ). numbered 0 cs ++ numbered n ds) (zero-add (length cs))

rows_added : (v : Inner) (cs : List (List ℕ))
    → rows_of_inner (added_inner v (numbered (count_of_inner v) cs))
    ≡ rows_of_inner v ++ numbered (count_of_inner v) cs
rows_added (Flat v) cs = numbered_added v.codes cs
rows_added (Ivf v) cs =
    map-append row_of v.rows (map (onto_nearest v) (numbered (length v.rows) cs))
    ∙ ap (λ (rs : List Row). map row_of v.rows ++ rs) (row_of-onto v (numbered (length v.rows) cs))
rows_added (Hash v) cs = refl
rows_added (Multi v) cs = numbered_added v.codes cs

pub count_added : (v : Inner) (rows : List Row) → count_of_inner (added_inner v rows) ≡ count_of_inner v + length rows
count_added (Flat v) rows = omega (
  arith,
  length-append v.codes (map (λ (row : Row). row.code) rows),
  length-map rows (λ (row : Row). row.code),
)
count_added (Ivf v) rows = omega (
  arith,
  length-append v.rows (map (onto_nearest v) rows),
  length-map rows (onto_nearest v),
)
count_added (Hash v) rows = length-append v.rows rows
count_added (Multi v) rows = omega (
  arith,
  length-append v.codes (map (λ (row : Row). row.code) rows),
  length-map rows (λ (row : Row). row.code),
)

pub after_add_bare : (v : Inner) (cs : List (List ℕ))
    → after_add (Bare v) (labels_from (count_of_inner v) (length cs)) cs
    ≡ Bare (added_inner v (numbered (count_of_inner v) cs))
unfolding after_add
after_add_bare v cs = ap (λ (rows : List Row). Bare (added_inner v rows)) (paired_numbered (count_of_inner v) cs)

pub after_add_map : (name : MapName) (v : Inner) (ids more : List ℤ) (cs : List (List ℕ))
    → after_add (IdMap name v ids) more cs
    ≡ IdMap name (added_inner v (numbered (count_of_inner v) cs)) (ids ++ more)
unfolding after_add
after_add_map name v ids more cs = refl

-- ---- how many

-- the rows of an index within the limit on the load
pub light : (d m n c : ℕ) → weight d m n c ≤ 1073741824 → n ≤ 67108864
light d m n c h =
    let k : n * 16 ≤ n * (d / 8 + 16 + 64 * m) = grind arith in
    omega arith

pub light_inner : (v : Inner) → load_of_inner v ≤ load_limit → count_of_inner v ≤ 67108864
light_inner (Flat v) h = light v.dim 0 (length v.codes) 0 h
light_inner (Ivf v) h = light v.dim 0 (length v.rows) (length v.centroids) h
light_inner (Hash v) h = light v.dim 1 (length v.rows) 0 h
light_inner (Multi v) h = light v.dim v.nhash (length v.codes) 0 h

-- where the rows after an add are within the limit on the load, so are their numbers
few_inner : (v : Inner) (cs : List (List ℕ))
    → load_of_inner (added_inner v (numbered (count_of_inner v) cs)) ≤ load_limit
    → count_of_inner v + length cs ≤ 67108864
few_inner v cs h = omega (
  arith,
  light_inner (added_inner v (numbered (count_of_inner v) cs)) h,
  count_added v (numbered (count_of_inner v) cs),
  length-numbered (count_of_inner v) cs,
)

pub placed_labels : (ls : List ℤ) (from n i m : ℕ) → ls ≡ labels_from from n → from ≡ i → n ≡ m → ls ≡ labels_from i m
placed_labels ls from n i m is start long = is ∙ ap (λ (k : ℕ). labels_from k n) start
    ∙ ap (λ (k : ℕ). labels_from i k) long

-- the load after an add, of the index under outer ids and of the one inside
pub load_added : (name : MapName) (v : IndexValue) (ids more : List ℤ) (cs : List (List ℕ)) → needs_ids v ≡ false
    → load_of (after_add (IdMap name (inner_of v) ids) more cs) ≤ load_limit
    → load_of (after_add v (labels_from (count_of v) (length cs)) cs) ≤ load_limit
load_added name (Bare v) ids more cs bare h = rw (after_add_bare v cs) (rw (after_add_map name v ids more cs) at h)
load_added name (IdMap n v old) ids more cs bare h = absurd (true≢false bare)

pub few_added : (name : MapName) (v : Inner) (ids more : List ℤ) (cs : List (List ℕ))
    → load_of (after_add (IdMap name v ids) more cs) ≤ load_limit → count_of_inner v + length cs ≤ 67108864
few_added name v ids more cs h = few_inner v cs (rw (after_add_map name v ids more cs) at h)

-- ---- labels that are places

place_more : (m n : ℕ) (label : ℤ) → m ≤ n → IsPlace m label → IsPlace n label
place_more m n label h p =
    let least = p.least in
    let most = p.most in
    record { least = least; most = omega (arith, ints) }

pub All-numbered : (i n : ℕ) (cs : List (List ℕ)) → i + length cs ≤ n
    → All (λ (row : Row). IsPlace n row.label) (numbered i cs)
All-numbered i n cs h = λ k d low.
    let here : k < length cs = omega (arith, low, length-numbered i cs) in
    subst (λ (row : Row). IsPlace n row.label) (sym (get-numbered i cs k d [] here))
    (record { least = omega (arith, ints); most = omega (arith, ints, here, h) })

places_added : (v : Inner) (cs : List (List ℕ))
    → All (λ (row : Row). IsPlace (count_of_inner v) row.label) (rows_of_inner v)
    → let w = added_inner v (numbered (count_of_inner v) cs) in
    All (λ (row : Row). IsPlace (count_of_inner w) row.label) (rows_of_inner w)
places_added v cs old =
    let n : ℕ = count_of_inner (added_inner v (numbered (count_of_inner v) cs)) in
    let more : n ≡ count_of_inner v + length cs = omega (
      arith,
      count_added v (numbered (count_of_inner v) cs),
      length-numbered (count_of_inner v) cs,
    ) in
    subst (All (λ (row : Row). IsPlace n row.label)) (sym (rows_added v cs))
    (All-append (λ (row : Row). IsPlace n row.label) (rows_of_inner v) (numbered (count_of_inner v) cs)
    (λ k d low. place_more (count_of_inner v) n (get_or (rows_of_inner v) k d).label (omega arith) (old k d low))
    (All-numbered (count_of_inner v) n cs (omega arith)))

-- ---- an add keeps what an index under outer ids keeps

bare_added : (v : Inner) (ids more : List ℤ) (cs : List (List ℕ)) → IsMapped (Bare v) ids
    → All (FitsSigned w64) more → length more ≡ length cs
    → IsMapped (Bare (added_inner v (numbered (count_of_inner v) cs))) (ids ++ more)
bare_added v ids more cs kept fit same = record {
  bare = refl;
  count = omega (
    arith,
    length-append ids more,
    kept.count,
    same,
    count_added v (numbered (count_of_inner v) cs),
    length-numbered (count_of_inner v) cs,
  );
  fit = All-append (FitsSigned w64) ids more kept.fit fit;
  labels = places_added v cs kept.labels;
}

-- the value inside after an add, and the ids that it goes with
pub record IsAdded (v w : IndexValue) (ids more : List ℤ) (cs : List (List ℕ)) : Type 0 where
  pub is : w ≡ Bare (added_inner (inner_of v) (numbered (count_of v) cs))
  pub kept : IsMapped w (ids ++ more)

pub added : (v w : IndexValue) (ids more : List ℤ) (cs : List (List ℕ)) → IsMapped v ids
    → All (FitsSigned w64) more → length more ≡ length cs
    → w ≡ after_add v (labels_from (count_of v) (length cs)) cs → IsAdded v w ids more cs
added (Bare v) w ids more cs kept fit same is =
    let e : w ≡ Bare (added_inner v (numbered (count_of_inner v) cs)) = is ∙ after_add_bare v cs in
    record { is = e; kept = subst (λ (u : IndexValue). IsMapped u (ids ++ more)) (sym e) (bare_added v ids more cs kept fit same) }
added (IdMap name v old) w ids more cs kept fit same is = absurd (true≢false kept.bare)
