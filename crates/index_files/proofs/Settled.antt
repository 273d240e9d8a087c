-- Rows in groups are the same rows: a settled value is legal, and settled once for all.
use Rattle.std.proofs.Common.{◌≡◌, inl, inr, ℕ, zero, suc, ◌+◌, ◌*◌, ◌<◌, ◌≤◌, pos, Bool}
use Rattle.std.proofs.Common.{true, false, cond, eqb, not, List, [], ◌∷◌, length, map, get_or, All, refl, sym, ap}
use Rattle.std.proofs.Common.{subst, ◌∙◌, arith}
use Rattle.std.specs.Prelude.{count_by, nat_eq, nat_lt, sum_by}
use Rattle.std.specs.Ordering.{int_eq}
use Rattle.std.specs.List.{flat_map, filter, range_with_len}
use Rattle.std.proofs.lemmas.Bool.{cases_Bool, cases_eq, eq-eqb, ne_eqb, lt-ltb}
use Rattle.std.proofs.lemmas.List.{length-map}
use Rattle.std.proofs.lemmas.List.Folds.{flat_map-map}
use Rattle.std.proofs.lemmas.List.Sums.{sum_by-cons, sum_by-append}
use Rattle.std.proofs.lemmas.List.Elements.{All-nil, All-cons, All-head, All-tail, All-append, All-filter, All-map}
use Rattle.bcodes.specs.Ranges.{load_limit}
use Rattle.bcodes.specs.Value.{Row, ListRow, IvfValue, HashValue, Inner, Flat, Ivf, Hash, Multi, IndexValue, Bare}
use Rattle.bcodes.specs.Value.{IdMap, IsListRow, IsRow, IsPlace, IsLegalIvf, IsLegalHash, IsLegalInner, IsLegal, row_of}
use Rattle.bcodes.specs.Value.{rows_of_inner, count_of_inner, dim_of_inner, weight}
use Rattle.key_buckets.specs.Keys.{firsts}
use Rattle.index_files.specs.Groups.{concat, on_list, filled, by_list, by_key}
use Rattle.hash_index.specs.Keys.{hash_keys, key_of}
use Rattle.index_files.specs.File.{settled_inner, settled}
use Rattle.index_files.proofs.ListGroups.{rows_at, own-rows, filled-is, together}
use Rattle.index_files.proofs.HashGroups.{in_bucket, bucket_size, own-buckets, together-keys, keys-are, keys-new}
use Rattle.index_files.proofs.HashGroups.{buckets-keyed}
use Rattle.index_files.proofs.IvfAgain.{size_at, rising-filled, are-filled, all-unmap}
use Rattle.index_files.proofs.Numbering.{labels, label_count}

-- ---- sums over groups

pub eqb-turn : (a b : ℕ) → eqb a b ≡ eqb b a
eqb-turn a b =
    elim (cases_eq a b) [
      | inl e ↦ eq-eqb a b e ∙ sym (eq-eqb b a (sym e))
      | inr ne ↦ ne_eqb a b ne ∙ sym (ne_eqb b a (λ e. ne (sym e)))
    ]

pub count-cons : (n k : ℕ) (ks : List ℕ)
    → count_by (nat_eq n) (k ∷ ks) ≡ cond (eqb k n) 1 0 + count_by (nat_eq n) ks
count-cons n k ks =
    sum_by-cons (λ j. cond (nat_eq n j) 1 0) k ks
    ∙ ap (λ (b : Bool). cond b 1 0 + count_by (nat_eq n) ks) (eqb-turn n k)

module _ {X : Type 0} (c : X → ℕ) where
  abbrev pub members : List X → ℕ → List X
  members xs k = filter (λ x. eqb k (c x)) xs

  pub all-grouped : (P : X → Type 0) (xs : List X) (ks : List ℕ) → All P xs → All P (flat_map (members xs) ks)
  all-grouped P xs [] h = All-nil P
  all-grouped P xs (k ∷ ks) h = All-append P (members xs k) (flat_map (members xs) ks)
      (All-filter (λ x. eqb k (c x)) P xs h) (all-grouped P xs ks h)

  sum-flat : (g : X → ℕ) (xs : List X) (ks : List ℕ)
      → sum_by g (flat_map (members xs) ks) ≡ sum_by (λ k. sum_by g (members xs k)) ks
  sum-flat g xs [] = refl
  sum-flat g xs (k ∷ ks) = sum_by-append g (members xs k) (flat_map (members xs) ks)
      ∙ ap (λ n. sum_by g (members xs k) + n) (sum-flat g xs ks)
      ∙ sym (sum_by-cons (λ k. sum_by g (members xs k)) k ks)

  sum-none : (g : X → ℕ) (ks : List ℕ) → sum_by (λ k. sum_by g (members [] k)) ks ≡ 0
  sum-none g [] = refl
  sum-none g (k ∷ ks) = (let one : sum_by (λ k. sum_by g (members [] k)) (k ∷ ks)
      ≡ 0 + sum_by (λ k. sum_by g (members [] k)) ks = sum_by-cons (λ k. sum_by g (members [] k)) k ks in
      omega (arith, one, sum-none g ks))

  sum-step : (g : X → ℕ) (x : X) (xs : List X) (ks : List ℕ)
      → sum_by (λ k. sum_by g (members (x ∷ xs) k)) ks
      ≡ count_by (nat_eq (c x)) ks * g x + sum_by (λ k. sum_by g (members xs k)) ks
  sum-step g x xs [] = omega arith
  sum-step g x xs (k ∷ ks) =
      let here = sum_by-cons (λ k. sum_by g (members (x ∷ xs) k)) k ks in
      let rest = sum_by-cons (λ k. sum_by g (members xs k)) k ks in
      let count : count_by (nat_eq (c x)) (k ∷ ks) ≡ cond (eqb k (c x)) 1 0 + count_by (nat_eq (c x)) ks =
      count-cons (c x) k ks in
      let n = count_by (nat_eq (c x)) ks in
      elim (cases_Bool (eqb k (c x))) [
        | inl e ↦
            let one : sum_by g (members (x ∷ xs) k) ≡ g x + sum_by g (members xs k) =
            rw e (sum_by-cons g x (members xs k)) in
            let more : count_by (nat_eq (c x)) (k ∷ ks) ≡ 1 + n = count ∙ rw e refl in
            let times : count_by (nat_eq (c x)) (k ∷ ks) * g x ≡ g x + n * g x =
            ap (λ m. m * g x) more ∙ grind arith in
            omega (arith, here, rest, one, times, sum-step g x xs ks)
        | inr e ↦
            let one : sum_by g (members (x ∷ xs) k) ≡ sum_by g (members xs k) = rw e refl in
            let more : count_by (nat_eq (c x)) (k ∷ ks) ≡ n = count ∙ rw e (omega arith) in
            let times : count_by (nat_eq (c x)) (k ∷ ks) * g x ≡ n * g x = ap (λ m. m * g x) more in
            omega (arith, here, rest, one, times, sum-step g x xs ks)
      ]

  -- where each element has its group once, the groups together have the same sum
  pub grouped-sum : (g : X → ℕ) (xs : List X) (ks : List ℕ) → All (λ x. count_by (nat_eq (c x)) ks ≡ 1) xs
      → sum_by g (flat_map (members xs) ks) ≡ sum_by g xs
  grouped-sum g xs ks h = sum-flat g xs ks ∙ go xs h
    where
      go : (xs : List X) → All (λ x. count_by (nat_eq (c x)) ks ≡ 1) xs
          → sum_by (λ k. sum_by g (members xs k)) ks ≡ sum_by g xs
      go [] h = sum-none g ks
      go (x ∷ xs) h =
          let one = All-head (λ x. count_by (nat_eq (c x)) ks ≡ 1) x xs h in
          let times : count_by (nat_eq (c x)) ks * g x ≡ g x = ap (λ m. m * g x) one ∙ omega arith in
          omega (
            arith,
            sum-step g x xs ks,
            times,
            go xs (All-tail (λ x. count_by (nat_eq (c x)) ks ≡ 1) x xs h),
            sum_by-cons g x xs,
          )

  length-sum : (xs : List X) → length xs ≡ sum_by (λ x. 1) xs
  length-sum [] = refl
  length-sum (x ∷ xs) = omega (arith, sum_by-cons (λ (x : X). 1) x xs, length-sum xs)

  pub grouped-length : (xs : List X) (ks : List ℕ) → All (λ x. count_by (nat_eq (c x)) ks ≡ 1) xs
      → length (flat_map (members xs) ks) ≡ length xs
  grouped-length xs ks h = length-sum (flat_map (members xs) ks) ∙ grouped-sum (λ x. 1) xs ks h
      ∙ sym (length-sum xs)

  -- each element's group has an element
  pub some-member : (xs : List X) → All (λ x. 0 < length (members xs (c x))) xs
  some-member [] = All-nil (λ x. 0 < length (members [] (c x)))
  some-member (x ∷ xs) =
      let here : 0 < length (members (x ∷ xs) (c x)) = (let e = eq-eqb (c x) (c x) refl in rw e (omega arith)) in
      let more = some-member xs in
      All-cons (λ y. 0 < length (members (x ∷ xs) (c y))) x xs here
      (λ i d lt. grow (c (get_or xs i d)) (more i d lt))
    where
      grow : (k : ℕ) → 0 < length (members xs k) → 0 < length (members (x ∷ xs) k)
      grow k h = elim (cases_Bool (eqb k (c x))) [ inl e ↦ rw e (omega arith) | inr e ↦ rw e h ]

  -- an element's group stands once among the groups by first appearance
  pub first-once : (xs : List X) → All (λ x. count_by (nat_eq (c x)) (firsts (map c xs)) ≡ 1) xs
  first-once [] = All-nil (λ x. count_by (nat_eq (c x)) [] ≡ 1)
  first-once (x ∷ xs) =
      All-cons (λ y. count_by (nat_eq (c y)) (firsts (map c (x ∷ xs))) ≡ 1) x xs (own (c x) refl)
      (λ i d lt. other (c (get_or xs i d)) (first-once xs i d lt))
    where
      k : ℕ
      k = c x

      rest : List ℕ
      rest = firsts (map c xs)

      cut-none : (ys : List ℕ) → count_by (nat_eq k) (filter (λ j. not (eqb j k)) ys) ≡ 0
      cut-none [] = refl
      cut-none (y ∷ ys) =
          elim (cases_eq y k) [
            | inl e ↦ (let t = eq-eqb y k e in rw t (cut-none ys))
            | inr ne ↦ (let f = ne_eqb y k ne in let g = ne_eqb k y (λ e. ne (sym e)) in
                rw f (sum_by-cons (λ j. cond (nat_eq k j) 1 0) y (filter (λ j. not (eqb j k)) ys)
                ∙ rw g (omega (arith, cut-none ys))))
          ]

      cut-keeps : (j : ℕ) (ys : List ℕ) → (j ≡ k → ⊥)
          → count_by (nat_eq j) (filter (λ i. not (eqb i k)) ys) ≡ count_by (nat_eq j) ys
      cut-keeps j [] ne = refl
      cut-keeps j (y ∷ ys) ne =
          let all = sum_by-cons (λ i. cond (nat_eq j i) 1 0) y ys in
          elim (cases_eq y k) [
            | inl e ↦ (let t = eq-eqb y k e in let g = ne_eqb j y (λ f. ne (f ∙ e)) in
                rw t (cut-keeps j ys ne ∙ sym (all ∙ rw g (omega arith))))
            | inr no_k ↦ (let f = ne_eqb y k no_k in
                rw f (sum_by-cons (λ i. cond (nat_eq j i) 1 0) y (filter (λ i. not (eqb i k)) ys)
                ∙ ap (λ n. cond (nat_eq j y) 1 0 + n) (cut-keeps j ys ne) ∙ sym all))
          ]

      own : (j : ℕ) → j ≡ k → count_by (nat_eq j) (k ∷ filter (λ i. not (eqb i k)) rest) ≡ 1
      own j e = (let t = eq-eqb k k refl in subst
          (λ i. count_by (nat_eq i) (k ∷ filter (λ i. not (eqb i k)) rest) ≡ 1) (sym e)
          (sum_by-cons (λ i. cond (nat_eq k i) 1 0) k (filter (λ i. not (eqb i k)) rest)
          ∙ rw t (omega (arith, cut-none rest))))

      other : (j : ℕ) → count_by (nat_eq j) rest ≡ 1
          → count_by (nat_eq j) (k ∷ filter (λ i. not (eqb i k)) rest) ≡ 1
      other j h =
          elim (cases_eq j k) [
            | inl e ↦ own j e
            | inr ne ↦ (let f = ne_eqb j k ne in sum_by-cons (λ i. cond (nat_eq j i) 1 0) k
                (filter (λ i. not (eqb i k)) rest) ∙ rw f (omega (arith, cut-keeps j rest ne, h)))
          ]

-- ---- numbers that pass a test stand once among those from a on

pub from-none : (l a n : ℕ) → l < a → count_by (nat_eq l) (range_with_len a n) ≡ 0
from-none l a zero lt = refl
from-none l a (suc n) lt = (let f = ne_eqb l a (λ e. omega (arith, e, lt)) in
    sum_by-cons (λ j. cond (nat_eq l j) 1 0) a (range_with_len (a + 1) n)
    ∙ rw f (omega (arith, from-none l (a + 1) n (omega (arith, lt)))))

pub from-once : (l a n : ℕ) → a ≤ l → l < a + n → count_by (nat_eq l) (range_with_len a n) ≡ 1
from-once l a zero le lt = absurd (omega (arith, le, lt))
from-once l a (suc n) le lt =
    elim (cases_eq l a) [
      | inl e ↦ (let t = eq-eqb l a e in sum_by-cons (λ j. cond (nat_eq l j) 1 0) a (range_with_len (a + 1) n)
          ∙ rw t (omega (arith, from-none l (a + 1) n (omega (arith, e)))))
      | inr ne ↦ (let f = ne_eqb l a ne in sum_by-cons (λ j. cond (nat_eq l j) 1 0) a (range_with_len (a + 1) n)
          ∙ rw f (omega (arith, from-once l (a + 1) n (omega (arith, le, ne)) (omega (arith, lt)))))
    ]

filter-count : (test : ℕ → Bool) (l : ℕ) (xs : List ℕ) → test l ≡ true
    → count_by (nat_eq l) (filter test xs) ≡ count_by (nat_eq l) xs
filter-count test l [] e = refl
filter-count test l (x ∷ xs) e =
    let all = sum_by-cons (λ j. cond (nat_eq l j) 1 0) x xs in
    elim (cases_Bool (test x)) [
      | inl t ↦ rw t (sum_by-cons (λ j. cond (nat_eq l j) 1 0) x (filter test xs)
          ∙ ap (λ n. cond (nat_eq l x) 1 0 + n) (filter-count test l xs e) ∙ sym all)
      | inr f ↦
          let ne : l ≡ x → ⊥ = λ is. clash (test x) (ap test (sym is) ∙ e) f in
          let g = ne_eqb l x ne in
          rw f (filter-count test l xs e ∙ sym (all ∙ rw g (omega arith)))
    ]
  where
    clash : (b : Bool) → b ≡ true → b ≡ false → ⊥
    clash true e f = absurd cc
    clash false e f = absurd cc

-- ---- IVF

pub list-once : (v : IvfValue) → All (λ row. row.list < v.nlist) v.rows
    → All (λ row. count_by (nat_eq row.list) (filled v) ≡ 1) v.rows
unfolding filled on_list
list-once v h i d lt =
    let row = get_or v.rows i d in
    let some = lt-ltb 0 _ (some-member (λ (row : ListRow). row.list) v.rows i d lt) in
    filter-count (λ list. nat_lt 0 (length (rows_at v.rows list))) row.list (range_with_len 0 v.nlist) some
    ∙ from-once row.list 0 v.nlist (omega arith) (omega (arith, h i d lt))

ivf-length : (v : IvfValue) → All (λ row. row.list < v.nlist) v.rows → length (by_list v) ≡ length v.rows
unfolding on_list
ivf-length v h = grouped-length (λ (row : ListRow). row.list) v.rows (filled v) (list-once v h)

label-sum : (k : ℕ) (rows : List ListRow)
    → label_count k (labels rows) ≡ sum_by (λ row. cond (int_eq (pos k) row.label) 1 0) rows
label-sum k [] = refl
label-sum k (row ∷ rows) = sum_by-cons (λ z. cond (int_eq (pos k) z) 1 0) row.label (labels rows)
    ∙ ap (λ n. cond (int_eq (pos k) row.label) 1 0 + n) (label-sum k rows)
    ∙ sym (sum_by-cons (λ (row : ListRow). cond (int_eq (pos k) row.label) 1 0) row rows)

ivf-labels : (v : IvfValue) (k : ℕ) → All (λ row. row.list < v.nlist) v.rows
    → label_count k (labels (by_list v)) ≡ label_count k (labels v.rows)
unfolding on_list
ivf-labels v k h = label-sum k (flat_map (rows_at v.rows) (filled v))
    ∙ grouped-sum (λ (row : ListRow). row.list) (λ row. cond (int_eq (pos k) row.label) 1 0) v.rows (filled v)
    (list-once v h) ∙ sym (label-sum k v.rows)

ivf-rows : (P : ListRow → Type 0) (v : IvfValue) → All P v.rows → All P (by_list v)
unfolding on_list
ivf-rows P v h = all-grouped (λ (row : ListRow). row.list) P v.rows (filled v) h

ivf-settled : (v : IvfValue) → IsLegalIvf v → IsLegalIvf (record v { max_codes = 0; rows = by_list v })
ivf-settled v legal =
    let below : All (λ row. row.list < v.nlist) v.rows = λ i d lt. (legal.rows i d lt).list in
    let count = ivf-length v below in
    let labelled : length (labels (by_list v)) ≡ length (labels v.rows) =
    length-map (by_list v) (λ (r : ListRow). r.label) ∙ count
    ∙ sym (length-map v.rows (λ (r : ListRow). r.label)) in
    record {
      dim = legal.dim;
      nlist_least = legal.nlist_least;
      nlist_most = legal.nlist_most;
      nprobe_least = legal.nprobe_least;
      nprobe_most = legal.nprobe_most;
      max_codes = omega arith;
      centroids = legal.centroids;
      held = legal.held;
      rows = ivf-rows (IsListRow v.dim v.nlist) v legal.rows;
      filled = λ lt. legal.filled (omega (arith, count, lt));
      direct = λ e k lt. ivf-labels v k below ∙ legal.direct e k (omega (arith, labelled, lt));
      load = subst (λ n. weight v.dim 0 n (length v.centroids) ≤ load_limit) (sym count) legal.load;
    }

ivf-twice : (v : IvfValue) → by_list (record v { max_codes = 0; rows = by_list v }) ≡ by_list v
unfolding on_list filled
ivf-twice v =
    let lists = filter (λ list. nat_lt 0 (length (rows_at v.rows list))) (range_with_len 0 v.nlist) in
    let ps = map (size_at v.rows) lists in
    let rss = map (rows_at v.rows) lists in
    let whole = concat rss in
    let same : flat_map (rows_at v.rows) lists ≡ whole =
    sym (flat_map-map (λ (rs : List ListRow). rs) (rows_at v.rows) lists) in
    let up = rising-filled v.rows v.nlist 0 in
    let are = are-filled v.rows lists in
    let own = own-rows whole 0 (0 + v.nlist) ps rss up are (λ list le. refl) in
    let fill = filled-is whole v.nlist 0 ps rss up are (λ list le. refl) in
    let two : flat_map (rows_at whole) (filter (λ list. nat_lt 0 (length (rows_at whole list)))
    (range_with_len 0 v.nlist)) ≡ whole = ap (flat_map (rows_at whole)) fill ∙ together whole ps rss own in
    ap (λ (rs : List ListRow). flat_map (rows_at rs)
    (filter (λ list. nat_lt 0 (length (rows_at rs list))) (range_with_len 0 v.nlist))) same ∙ two ∙ sym same

-- ---- Hash

hash-length : (v : HashValue) → length (by_key v) ≡ length v.rows
hash-length v = grouped-length (key_of v.b) v.rows (firsts (map (key_of v.b) v.rows)) (first-once (key_of v.b) v.rows)

hash-rows-all : (P : Row → Type 0) (v : HashValue) → All P v.rows → All P (by_key v)
hash-rows-all P v h = all-grouped (key_of v.b) P v.rows (hash_keys v) h

hash-settled : (v : HashValue) → IsLegalHash v → IsLegalHash (record v { rows = by_key v })
hash-settled v legal =
    record {
      dim = legal.dim;
      b_least = legal.b_least;
      b_most = legal.b_most;
      b_within = legal.b_within;
      nflip = legal.nflip;
      rows = hash-rows-all (IsRow v.dim) v legal.rows;
      load = subst (λ n. weight v.dim 1 n 0 ≤ load_limit) (sym (hash-length v)) legal.load;
    }

hash-twice : (v : HashValue) → by_key (record v { rows = by_key v }) ≡ by_key v
hash-twice v =
    let kf = key_of v.b in
    let keys = firsts (map kf v.rows) in
    let ps = map (bucket_size kf v.rows) keys in
    let rss = map (λ k. in_bucket kf k v.rows) keys in
    let whole = concat rss in
    let same : flat_map (λ k. in_bucket kf k v.rows) keys ≡ whole =
    sym (flat_map-map (λ (rs : List Row). rs) (λ k. in_bucket kf k v.rows) keys) in
    let new = keys-new kf v.rows in
    let are = buckets-keyed kf v.rows keys in
    let own = own-buckets kf whole [] ps rss new are (λ k e. refl) in
    let first = keys-are kf [] ps rss new are in
    let two : flat_map (λ k. in_bucket kf k whole) (firsts (map kf whole)) ≡ whole =
    ap (flat_map (λ k. in_bucket kf k whole)) first ∙ together-keys kf whole ps rss own in
    ap (λ (rs : List Row). flat_map (λ k. in_bucket kf k rs) (firsts (map kf rs))) same ∙ two ∙ sym same

-- ---- all

pub twice-inner : (v : Inner) → settled_inner (settled_inner v) ≡ settled_inner v
twice-inner (Flat v) = refl
twice-inner (Ivf v) = ap (λ (rows : List ListRow). Ivf (record v { max_codes = 0; rows = rows })) (ivf-twice v)
twice-inner (Hash v) = ap (λ (rows : List Row). Hash (record v { rows = rows })) (hash-twice v)
twice-inner (Multi v) = refl

pub twice : (v : IndexValue) → settled (settled v) ≡ settled v
unfolding settled
twice (Bare v) = ap (λ (w : Inner). Bare w) (twice-inner v)
twice (IdMap name v ids) = ap (λ (w : Inner). IdMap name w ids) (twice-inner v)

pub legal-inner : (v : Inner) → IsLegalInner v → IsLegalInner (settled_inner v)
legal-inner (Flat v) h = h
legal-inner (Ivf v) h = ivf-settled v h
legal-inner (Hash v) h = hash-settled v h
legal-inner (Multi v) h = h

pub count-inner : (v : Inner) → IsLegalInner v → count_of_inner (settled_inner v) ≡ count_of_inner v
count-inner (Flat v) h = refl
count-inner (Ivf v) h = ivf-length v (λ i d lt. (h.rows i d lt).list)
count-inner (Hash v) h = hash-length v
count-inner (Multi v) h = refl

pub dim-inner : (v : Inner) → dim_of_inner (settled_inner v) ≡ dim_of_inner v
dim-inner (Flat v) = refl
dim-inner (Ivf v) = refl
dim-inner (Hash v) = refl
dim-inner (Multi v) = refl

places-inner : (n : ℕ) (v : Inner) → All (λ row. IsPlace n row.label) (rows_of_inner v)
    → All (λ row. IsPlace n row.label) (rows_of_inner (settled_inner v))
places-inner n (Flat v) h = h
places-inner n (Ivf v) h = All-map (λ (row : Row). IsPlace n row.label) row_of (by_list v)
    (ivf-rows (λ (row : ListRow). IsPlace n row.label) v
    (all-unmap (λ (row : Row). IsPlace n row.label) row_of v.rows h))
places-inner n (Hash v) h = hash-rows-all (λ (row : Row). IsPlace n row.label) v h
places-inner n (Multi v) h = h

pub legal-settled : (v : IndexValue) → IsLegal v → IsLegal (settled v)
unfolding settled
legal-settled (Bare v) h = legal-inner v h
legal-settled (IdMap name v ids) h =
    let count = count-inner v h.inner in
    record {
      inner = legal-inner v h.inner;
      ids = h.ids;
      count = h.count ∙ sym count;
      labels =
          subst (λ n. All (λ row. IsPlace n row.label) (rows_of_inner (settled_inner v))) (sym count)
          (places-inner (count_of_inner v) v h.labels);
    }
