-- An index stays legal where rows or centroids are added, or a setting is changed.
use Rattle.std.proofs.Common.{◌≡◌, ℕ, zero, suc, ◌+◌, ◌^◌, ◌<◌, ◌≤◌, ℤ, pos, FitsSigned, w64, nat_abs}
use Rattle.std.proofs.Common.{Bool, true, false, not, List, [], ◌∷◌, ◌++◌, length, map, Some}
use Rattle.std.proofs.Common.{refl, sym, ap, ◌∙◌, subst, arith, length-append}
use Rattle.std.specs.List.{All}
use Rattle.std.proofs.lemmas.Bool.{leb-true}
use Rattle.std.proofs.lemmas.Int.{ints}
use Rattle.std.proofs.lemmas.List.{length-map, get_or-map, map-append}
use Rattle.std.proofs.lemmas.List.Elements.{All-nil, All-cons, All-head, All-tail, All-append}
use Rattle.bcodes.specs.declared.hit.Hit.{Hit}
use Rattle.bcodes.specs.Ranges.{load_limit}
use Rattle.bcodes.specs.Hits.{no_hit}
use Rattle.bcodes.specs.Value.{Row, ListRow, IvfValue, Inner, Flat, Ivf, Hash, Multi, IndexValue, Bare, IdMap}
use Rattle.bcodes.specs.Value.{IsCode, IsRow, IsListRow, IsNumbering, IsLegal, IsLegalInner, IsLegalIvf}
use Rattle.bcodes.specs.Value.{dim_of, dim_of_inner, count_of, count_of_inner, numbered}
use Rattle.bcodes.specs.Value.{labels_from, is_trained, is_trained_inner, takes_ids, takes_ids_inner}
use Rattle.bcodes.specs.Value.{load_of, load_of_inner}
use Rattle.bcodes.specs.Settings.{ivf_in, with_ivf, key_bits, with_nflip, with_nflip_inner}
use Rattle.bcodes.specs.Answers.{added_inner, after_add, after_centroids, nearest, onto_nearest, paired}
use Rattle.bcodes.specs.Answers.{hit_of, ranked_rows}
use Rattle.bcodes.proofs.OrderLemmas.{length-in_order}
use Rattle.bcodes.proofs.NumberedLemmas.{length-numbered}
use Rattle.id_map.proofs.RowLemmas.{added as mapped_rows, few_added, after_add_bare}
use Rattle.ivf_index.proofs.NearLemmas.{ranked_are}
use Rattle.ivf_index.proofs.NumberingLemmas.{numbering_grown}
use Rattle.row_lists.proofs.PutLemmas.{length-paired}
use Rattle.ivf_index.proofs.AddLemmas.{labels-paired}

-- ---- rows that are added

codes_of_rows : (d : ℕ) (rows : List Row) → All (IsRow d) rows → All (IsCode d) (map (λ (row : Row). row.code) rows)
codes_of_rows d [] h = All-nil (IsCode d)
codes_of_rows d (row ∷ rows) h = All-cons (IsCode d) row.code (map (λ (row : Row). row.code) rows)
    (All-head (IsRow d) row rows h).code (codes_of_rows d rows (All-tail (IsRow d) row rows h))

-- the nearest centroid is one of them
nearest-lt : (v : IvfValue) (x : List ℕ) → 0 < length v.centroids → nearest v x < length v.centroids
nearest-lt v x some =
    let ranked : List Hit = ranked_rows x (numbered 0 v.centroids) in
    let long : 0 < length ranked = omega (
      arith,
      some,
      length-in_order (map (hit_of x) (numbered 0 v.centroids)),
      length-map (numbered 0 v.centroids) (hit_of x),
      length-numbered 0 v.centroids,
    ) in
    subst (λ n. n < length v.centroids) (sym (get_or-map (λ (h : Hit). nat_abs h.label) ranked 0 no_hit 0 long))
    (ranked_are x v.centroids 0 no_hit long).below

onto_rows : (v : IvfValue) (rows : List Row) → 0 < length v.centroids → length v.centroids ≤ v.nlist
    → All (IsRow v.dim) rows → All (IsListRow v.dim v.nlist) (map (onto_nearest v) rows)
onto_rows v [] some held h = All-nil (IsListRow v.dim v.nlist)
onto_rows v (row ∷ rows) some held h =
    let first = All-head (IsRow v.dim) row rows h in
    let near = nearest-lt v row.code some in
    let this : IsListRow v.dim v.nlist (onto_nearest v row) =
    record { label = first.label; code = first.code; list = omega arith } in
    All-cons (IsListRow v.dim v.nlist) (onto_nearest v row) (map (onto_nearest v) rows) this
    (onto_rows v rows some held (All-tail (IsRow v.dim) row rows h))

onto_labels : (v : IvfValue) (rows : List Row)
    → map (λ (row : ListRow). row.label) (map (onto_nearest v) rows) ≡ map (λ (row : Row). row.label) rows
onto_labels v [] = refl
onto_labels v (row ∷ rows) = ap (λ (ls : List ℤ). row.label ∷ ls) (onto_labels v rows)

labels_added : (v : IvfValue) (rows : List Row)
    → map (λ (row : Row). row.label) rows ≡ labels_from (length v.rows) (length rows)
    → map (λ (row : ListRow). row.label) (v.rows ++ map (onto_nearest v) rows)
    ≡ map (λ (row : ListRow). row.label) v.rows
    ++ labels_from (length (map (λ (row : ListRow). row.label) v.rows)) (length rows)
labels_added v rows places =
    map-append (λ (row : ListRow). row.label) v.rows (map (onto_nearest v) rows)
    ∙ ap (λ (ls : List ℤ). map (λ (row : ListRow). row.label) v.rows ++ ls)
    (onto_labels v rows ∙ places
    ∙ ap (λ (n : ℕ). labels_from n (length rows)) (sym (length-map v.rows (λ (row : ListRow). row.label))))

-- the rows go to the end, under labels that the index takes
legal_added : (v : Inner) (rows : List Row) → IsLegalInner v → All (IsRow (dim_of_inner v)) rows
    → is_trained_inner v ≡ true
    → (takes_ids_inner v ≡ false
    → map (λ (row : Row). row.label) rows ≡ labels_from (count_of_inner v) (length rows))
    → load_of_inner (added_inner v rows) ≤ load_limit → IsLegalInner (added_inner v rows)
legal_added (Flat v) rows legal these trained places light = record {
  dim = legal.dim;
  codes = All-append (IsCode v.dim) v.codes (map (λ (row : Row). row.code) rows) legal.codes
      (codes_of_rows v.dim rows these);
  load = light;
}
legal_added (Ivf v) rows legal these trained places light =
    let all : v.nlist ≤ length v.centroids = leb-true v.nlist (length v.centroids) trained in
    let some : 0 < length v.centroids = omega (arith, all, legal.nlist_least) in
    record {
      dim = legal.dim;
      nlist_least = legal.nlist_least;
      nlist_most = legal.nlist_most;
      nprobe_least = legal.nprobe_least;
      nprobe_most = legal.nprobe_most;
      max_codes = legal.max_codes;
      centroids = legal.centroids;
      held = legal.held;
      rows = All-append (IsListRow v.dim v.nlist) v.rows (map (onto_nearest v) rows) legal.rows
          (onto_rows v rows some legal.held these);
      filled = λ _. omega (arith, all, legal.held);
      direct = λ on. subst IsNumbering (sym (labels_added v rows (places (ap not on))))
          (numbering_grown (map (λ (row : ListRow). row.label) v.rows) (length rows) (legal.direct on));
      load = light;
    }
legal_added (Hash v) rows legal these trained places light = record {
  dim = legal.dim;
  b_least = legal.b_least;
  b_most = legal.b_most;
  b_within = legal.b_within;
  nflip = legal.nflip;
  rows = All-append (IsRow v.dim) v.rows rows legal.rows these;
  load = light;
}
legal_added (Multi v) rows legal these trained places light = record {
  dim = legal.dim;
  nhash_least = legal.nhash_least;
  nhash_most = legal.nhash_most;
  b_least = legal.b_least;
  b_most = legal.b_most;
  within = legal.within;
  nflip = legal.nflip;
  codes = All-append (IsCode v.dim) v.codes (map (λ (row : Row). row.code) rows) legal.codes
      (codes_of_rows v.dim rows these);
  load = light;
}

-- ---- labels

pub labels_fit : (i n : ℕ) → i + n ≤ 67108864 → All (FitsSigned w64) (labels_from i n)
labels_fit i zero h = All-nil (FitsSigned w64)
labels_fit i (suc n) h = All-cons (FitsSigned w64) (pos i) (labels_from (i + 1) n) (omega (arith, ints))
    (labels_fit (i + 1) n (omega arith))

rows_paired : (d : ℕ) (labels : List ℤ) (added : List (List ℕ)) → length labels ≡ length added
    → All (FitsSigned w64) labels → All (IsCode d) added → All (IsRow d) (paired labels added)
rows_paired d [] [] same fits codes = All-nil (IsRow d)
rows_paired d [] (c ∷ cs) same fits codes = absurd (omega arith)
rows_paired d (l ∷ ls) [] same fits codes = All-nil (IsRow d)
rows_paired d (l ∷ ls) (c ∷ cs) same fits codes = All-cons (IsRow d) (record { label = l; code = c }) (paired ls cs)
    (record { label = All-head (FitsSigned w64) l ls fits; code = All-head (IsCode d) c cs codes })
    (rows_paired d ls cs (omega arith) (All-tail (FitsSigned w64) l ls fits) (All-tail (IsCode d) c cs codes))

rows_numbered : (d i : ℕ) (added : List (List ℕ)) → i + length added ≤ 67108864 → All (IsCode d) added
    → All (IsRow d) (numbered i added)
rows_numbered d i [] few codes = All-nil (IsRow d)
rows_numbered d i (c ∷ cs) few codes = All-cons (IsRow d) (record { label = pos i; code = c }) (numbered (i + 1) cs)
    (record { label = omega (arith, ints); code = All-head (IsCode d) c cs codes })
    (rows_numbered d (i + 1) cs (omega arith) (All-tail (IsCode d) c cs codes))

labels_numbered : (i : ℕ) (added : List (List ℕ))
    → map (λ (row : Row). row.label) (numbered i added) ≡ labels_from i (length (numbered i added))
labels_numbered i [] = refl
labels_numbered i (c ∷ cs) = ap (λ (ls : List ℤ). pos i ∷ ls) (labels_numbered (i + 1) cs)

-- ---- an add, and centroids

pub legal_after_add : (v : IndexValue) (labels : List ℤ) (added : List (List ℕ)) → IsLegal v
    → All (FitsSigned w64) labels → All (IsCode (dim_of v)) added → length labels ≡ length added
    → is_trained v ≡ true
    → (takes_ids v ≡ false → labels ≡ labels_from (count_of v) (length added))
    → load_of (after_add v labels added) ≤ load_limit → IsLegal (after_add v labels added)
unfolding after_add
legal_after_add (Bare v) labels added legal fits codes same trained places weighs =
    legal_added v (paired labels added) legal (rows_paired (dim_of_inner v) labels added same fits codes) trained
    (λ chosen. labels-paired labels added same ∙ places chosen
    ∙ ap (λ (n : ℕ). labels_from (count_of_inner v) n) (sym (length-paired labels added same))) weighs
legal_after_add (IdMap name v ids) labels added legal fits codes same trained places weighs =
    let few : count_of_inner v + length added ≤ 67108864 = few_added name v ids labels added weighs in
    let kept = (mapped_rows (Bare v) (Bare (added_inner v (numbered (count_of_inner v) added))) ids labels added
    (record { bare = refl; count = legal.count; fit = legal.ids; labels = legal.labels }) fits same
    (sym (after_add_bare v added))).kept in
    record {
      inner = legal_added v (numbered (count_of_inner v) added) legal.inner
          (rows_numbered (dim_of_inner v) (count_of_inner v) added few codes) trained
          (λ _. labels_numbered (count_of_inner v) added) weighs;
      ids = kept.fit;
      count = kept.count;
      labels = kept.labels;
    }

legal_given : (v : IvfValue) (more : List (List ℕ)) → IsLegalIvf v → All (IsCode v.dim) more
    → length v.centroids + length more ≤ v.nlist
    → load_of_inner (Ivf (record v { centroids = v.centroids ++ more })) ≤ load_limit
    → IsLegalIvf (record v { centroids = v.centroids ++ more })
legal_given v more legal codes few weighs = record {
  dim = legal.dim;
  nlist_least = legal.nlist_least;
  nlist_most = legal.nlist_most;
  nprobe_least = legal.nprobe_least;
  nprobe_most = legal.nprobe_most;
  max_codes = legal.max_codes;
  centroids = All-append (IsCode v.dim) v.centroids more legal.centroids codes;
  held = omega (arith, length-append v.centroids more);
  rows = legal.rows;
  filled = λ some. omega (arith, length-append v.centroids more, legal.filled some);
  direct = legal.direct;
  load = weighs;
}

pub same_ivf : (v w : IvfValue) → Some v ≡ Some w → v ≡ w
same_ivf v w is = cc

pub legal_after_centroids : (v : IndexValue) (ivf : IvfValue) (more : List (List ℕ)) → IsLegal v → ivf_in v ≡ Some ivf
    → All (IsCode (dim_of v)) more → length ivf.centroids + length more ≤ ivf.nlist
    → load_of (after_centroids v more) ≤ load_limit → IsLegal (after_centroids v more)
unfolding after_centroids
legal_after_centroids (Bare (Flat v)) ivf more legal is codes few weighs = absurd cc
legal_after_centroids (Bare (Hash v)) ivf more legal is codes few weighs = absurd cc
legal_after_centroids (Bare (Multi v)) ivf more legal is codes few weighs = absurd cc
legal_after_centroids (IdMap name (Flat v) ids) ivf more legal is codes few weighs = absurd cc
legal_after_centroids (IdMap name (Hash v) ids) ivf more legal is codes few weighs = absurd cc
legal_after_centroids (IdMap name (Multi v) ids) ivf more legal is codes few weighs = absurd cc
legal_after_centroids (Bare (Ivf v)) ivf more legal is codes few weighs =
    legal_given v more legal codes
    (subst (λ (u : IvfValue). length u.centroids + length more ≤ u.nlist) (sym (same_ivf v ivf is)) few) weighs
legal_after_centroids (IdMap name (Ivf v) ids) ivf more legal is codes few weighs = record {
  inner = legal_given v more legal.inner codes
      (subst (λ (u : IvfValue). length u.centroids + length more ≤ u.nlist) (sym (same_ivf v ivf is)) few) weighs;
  ids = legal.ids;
  count = legal.count;
  labels = legal.labels;
}

-- ---- settings

pub legal_ivf_in : (v : IndexValue) (ivf : IvfValue) → IsLegal v → ivf_in v ≡ Some ivf → IsLegalIvf ivf
legal_ivf_in (Bare (Flat v)) ivf legal is = absurd cc
legal_ivf_in (Bare (Hash v)) ivf legal is = absurd cc
legal_ivf_in (Bare (Multi v)) ivf legal is = absurd cc
legal_ivf_in (IdMap name (Flat v) ids) ivf legal is = absurd cc
legal_ivf_in (IdMap name (Hash v) ids) ivf legal is = absurd cc
legal_ivf_in (IdMap name (Multi v) ids) ivf legal is = absurd cc
legal_ivf_in (Bare (Ivf v)) ivf legal is = subst IsLegalIvf (same_ivf v ivf is) legal
legal_ivf_in (IdMap name (Ivf v) ids) ivf legal is = subst IsLegalIvf (same_ivf v ivf is) legal.inner

-- another IVF with the same rows
pub legal_with_ivf : (v : IndexValue) (ivf w : IvfValue) → IsLegal v → ivf_in v ≡ Some ivf → IsLegalIvf w
    → w.rows ≡ ivf.rows → IsLegal (with_ivf w v)
legal_with_ivf (Bare v) ivf w legal is new rows = new
legal_with_ivf (IdMap name (Flat v) ids) ivf w legal is new rows = absurd cc
legal_with_ivf (IdMap name (Hash v) ids) ivf w legal is new rows = absurd cc
legal_with_ivf (IdMap name (Multi v) ids) ivf w legal is new rows = absurd cc
legal_with_ivf (IdMap name (Ivf v) ids) ivf w legal is new rows =
    let same : w.rows ≡ v.rows = rows ∙ ap (λ (u : IvfValue). u.rows) (sym (same_ivf v ivf is)) in
    record { inner = new; ids = legal.ids; count = rw same legal.count; labels = rw same legal.labels }

pub legal_nprobe : (v : IvfValue) (n : ℕ) → IsLegalIvf v → 1 ≤ n → n < 2 ^ 63 → IsLegalIvf (record v { nprobe = n })
legal_nprobe v n l least most = record {
  dim = l.dim;
  nlist_least = l.nlist_least;
  nlist_most = l.nlist_most;
  nprobe_least = least;
  nprobe_most = most;
  max_codes = l.max_codes;
  centroids = l.centroids;
  held = l.held;
  rows = l.rows;
  filled = l.filled;
  direct = l.direct;
  load = l.load;
}

pub legal_max_codes : (v : IvfValue) (n : ℕ) → IsLegalIvf v → n < 2 ^ 63 → IsLegalIvf (record v { max_codes = n })
legal_max_codes v n l most = record {
  dim = l.dim;
  nlist_least = l.nlist_least;
  nlist_most = l.nlist_most;
  nprobe_least = l.nprobe_least;
  nprobe_most = l.nprobe_most;
  max_codes = most;
  centroids = l.centroids;
  held = l.held;
  rows = l.rows;
  filled = l.filled;
  direct = l.direct;
  load = l.load;
}

pub legal_direct : (v : IvfValue) (on : Bool) → IsLegalIvf v
    → (on ≡ true → IsNumbering (map (λ (row : ListRow). row.label) v.rows)) → IsLegalIvf (record v { direct = on })
legal_direct v on l numbers = record {
  dim = l.dim;
  nlist_least = l.nlist_least;
  nlist_most = l.nlist_most;
  nprobe_least = l.nprobe_least;
  nprobe_most = l.nprobe_most;
  max_codes = l.max_codes;
  centroids = l.centroids;
  held = l.held;
  rows = l.rows;
  filled = l.filled;
  direct = numbers;
  load = l.load;
}

same_bits : (m n : ℕ) → Some m ≡ Some n → m ≡ n
same_bits m n is = cc

legal_nflip : (v : Inner) (n bits : ℕ) → IsLegalInner v → key_bits (Bare v) ≡ Some bits → n ≤ bits
    → IsLegalInner (with_nflip_inner n v)
legal_nflip (Flat v) n bits legal is few = absurd cc
legal_nflip (Ivf v) n bits legal is few = absurd cc
legal_nflip (Hash v) n bits legal is few = record {
  dim = legal.dim;
  b_least = legal.b_least;
  b_most = legal.b_most;
  b_within = legal.b_within;
  nflip = omega (arith, same_bits v.b bits is);
  rows = legal.rows;
  load = legal.load;
}
legal_nflip (Multi v) n bits legal is few = record {
  dim = legal.dim;
  nhash_least = legal.nhash_least;
  nhash_most = legal.nhash_most;
  b_least = legal.b_least;
  b_most = legal.b_most;
  within = legal.within;
  nflip = omega (arith, same_bits v.b bits is);
  codes = legal.codes;
  load = legal.load;
}

pub legal_with_nflip : (v : IndexValue) (n bits : ℕ) → IsLegal v → key_bits v ≡ Some bits → n ≤ bits
    → IsLegal (with_nflip n v)
legal_with_nflip (Bare v) n bits legal is few = legal_nflip v n bits legal is few
legal_with_nflip (IdMap name (Flat v) ids) n bits legal is few = absurd cc
legal_with_nflip (IdMap name (Ivf v) ids) n bits legal is few = absurd cc
legal_with_nflip (IdMap name (Hash v) ids) n bits legal is few = record {
  inner = legal_nflip (Hash v) n bits legal.inner is few;
  ids = legal.ids;
  count = legal.count;
  labels = legal.labels;
}
legal_with_nflip (IdMap name (Multi v) ids) n bits legal is few = record {
  inner = legal_nflip (Multi v) n bits legal.inner is few;
  ids = legal.ids;
  count = legal.count;
  labels = legal.labels;
}
