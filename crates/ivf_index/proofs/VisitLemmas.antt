-- The near lists hold the rows that are probed.
use Rattle.std.proofs.Common.{◌≡◌, ℕ, zero, suc, ◌+◌, ◌-◌, ◌<◌, ◌≤◌, ◌==◌, if◌then◌else◌, ◌||◌, min, Bool}
use Rattle.std.proofs.Common.{true, false, cond, nat_eq, nat_abs, inl, inr, List, [], ◌∷◌, ◌++◌}
use Rattle.std.proofs.Common.{length, take, map, get_or, refl, sym, ap, ◌∙◌, subst, arith}
use Rattle.std.specs.declared.option.Option.{Option}
use Rattle.std.specs.List.{filter, flat_map, list_any, count_by, All}
use Rattle.std.specs.List.Sorted.{IsPermutation}
use Rattle.std.proofs.lemmas.List.{map-append, length-map}
use Rattle.std.proofs.lemmas.List.Sorted.{IsPermutation-map}
use Rattle.std.proofs.lemmas.List.Sorted.{length_permutation}
use Rattle.std.proofs.lemmas.List.Elements.{filter_agree}
use Rattle.std.proofs.lemmas.List.Sums.{length-filter}
use Rattle.std.proofs.lemmas.Bool.{ne_eqb, eq-eqb}
use Rattle.std.proofs.lemmas.Bool.Decides.{eqb_tells}
use Rattle.bcodes.specs.declared.hit.Hit.{Hit}
use Rattle.bcodes.specs.Hits.{is_above, insert_hit, in_order}
use Rattle.bcodes.specs.Value.{CodeList, Row, ListRow, IvfValue, Ivf, Bare, row_of, numbered}
use Rattle.bcodes.specs.Answers.{looked, hit_of, rows_on, front_holding, near}
use Rattle.bcodes.specs.Answers.{is_probed_ivf, probed_rows_inner}
use Rattle.bcodes.proofs.OrderLemmas.{either}
use Rattle.bcodes.proofs.LegalLemmas.{length-filter-le}
use Rattle.code_pool.specs.Lists.{PoolLists, list_at}
use Rattle.list_scan.specs.Visited.{rows_at}
use Rattle.list_scan.proofs.VisitLemmas.{IsVisit, visit}
use Rattle.flip_walk.specs.Patterns.{times, under}
use Rattle.ivf_index.specs.Table.{list_of, on_list}
use Rattle.ivf_index.specs.Near.{lists_by, count_in, front_by, near_by}
use Rattle.ivf_index.specs.Direct.{has_map}
use Rattle.row_lists.specs.Rows.{order_in, lists_in}
use Rattle.ivf_index.specs.Inside.{rows_in_order, IsIvf}
use Rattle.ivf_index.proofs.TableLemmas.{length-on_list, rows_count}
use Rattle.flip_walk.proofs.VisitLemmas.{visited_once}
use Rattle.row_lists.proofs.PutLemmas.{turned}
use Rattle.ivf_index.proofs.NearLemmas.{number}

-- ---- no list is near twice

times-insert : (x : ℕ) (h : Hit) (hs : List Hit)
    → times x (map number (insert_hit h hs)) ≡ cond (nat_eq (number h) x) 1 0 + times x (map number hs)
times-insert x h [] = refl
times-insert x h (g ∷ gs) =
    elim (either (is_above h g)) [
      | inl e ↦ rw e (omega (arith, times-insert x h gs))
      | inr e ↦ rw e refl
    ]

times-in_order : (x : ℕ) (hs : List Hit) → times x (map number (in_order hs)) ≡ times x (map number hs)
times-in_order x [] = refl
times-in_order x (h ∷ hs) = times-insert x h (in_order hs)
    ∙ ap (λ n. cond {A = ℕ} (nat_eq (number h) x) 1 0 + n) (times-in_order x hs)

times-numbered_below : (q : List ℕ) (x i : ℕ) (cs : List (List ℕ)) → x < i
    → times x (map number (map (hit_of q) (numbered i cs))) ≡ 0
times-numbered_below q x i [] h = refl
times-numbered_below q x i (c ∷ cs) h =
    let rest = times x (map number (map (hit_of q) (numbered (i + 1) cs))) in
    omega (
      arith,
      ap (λ (t : Bool). cond {A = ℕ} t 1 0 + rest) (ne_eqb i x (λ e. above x i e h)),
      times-numbered_below q x (i + 1) cs (omega arith),
    )
  where
    above : (x i : ℕ) → i ≡ x → x < i → ⊥
    above x i e h = omega arith

times-numbered : (q : List ℕ) (x i : ℕ) (cs : List (List ℕ)) → times x (map number (map (hit_of q) (numbered i cs))) ≤ 1
times-numbered q x i [] = omega arith
times-numbered q x i (c ∷ cs) =
    let rest = times x (map number (map (hit_of q) (numbered (i + 1) cs))) in
    elim (eqb_tells i x) [
      | inl t ↦ omega (
        arith,
        ap (λ (b : Bool). cond {A = ℕ} b 1 0 + rest) t.0,
        times-numbered_below q x (i + 1) cs (omega (arith, t.1)),
      )
      | inr t ↦ omega (arith, ap (λ (b : Bool). cond {A = ℕ} b 1 0 + rest) t.0, times-numbered q x (i + 1) cs)
    ]

step-le : (t : Bool) (m n : ℕ) → m ≤ n → cond {A = ℕ} t 1 0 + m ≤ cond {A = ℕ} t 1 0 + n
step-le true m n h = omega arith
step-le false m n h = omega arith

more-le : (t : Bool) (n : ℕ) → 0 ≤ cond {A = ℕ} t 1 0 + n
more-le t n = omega arith

times-take-le : (x n : ℕ) (xs : List ℕ) → times x (take n xs) ≤ times x xs
times-take-le x zero xs = omega arith
times-take-le x (suc n) [] = omega arith
times-take-le x (suc n) (y ∷ xs) = step-le (nat_eq y x) (times x (take n xs)) (times x xs) (times-take-le x n xs)

times-front-le : (x : ℕ) (count : ℕ → ℕ) (wanted : ℕ) (xs : List ℕ) → times x (front_by count wanted xs) ≤ times x xs
times-front-le x count wanted [] = omega arith
times-front-le x count zero (y ∷ xs) = omega arith
times-front-le x count (suc wanted) (y ∷ xs) =
    step-le (nat_eq y x) (times x (front_by count (suc wanted - count y) xs)) (times x xs)
    (times-front-le x count (suc wanted - count y) xs)

times-cond-le : (x : ℕ) (t : Bool) (xs ys : List ℕ) → times x ys ≤ times x xs → times x (cond t xs ys) ≤ times x xs
times-cond-le x true xs ys h = omega arith
times-cond-le x false xs ys h = h

near-once : (x : ℕ) (count : ℕ → ℕ) (limit n : ℕ) (cs : List (List ℕ)) (q : List ℕ)
    → times x (near_by count limit (take n (lists_by cs q))) ≤ 1
near-once x count limit n cs q =
    let first : List ℕ = take n (lists_by cs q) in
    omega (
      arith,
      times-cond-le x (limit == 0) first (front_by count limit first) (times-front-le x count limit first),
      times-take-le x n (lists_by cs q),
      times-in_order x (map (hit_of q) (numbered 0 cs)),
      times-numbered q x 0 cs,
    )

-- a number that stands at most once stands once exactly where it is found
found_once : (x : ℕ) (ns : List ℕ) → times x ns ≤ 1 → times x ns ≡ cond (list_any (nat_eq x) ns) 1 0
found_once x [] h = refl
found_once x (n ∷ ns) h =
    elim (eqb_tells n x) [
      | inl t ↦
          let first : times x (n ∷ ns)
          ≡ 1 + times x ns = omega (arith, ap (λ (b : Bool). cond {A = ℕ} b 1 0 + times x ns) t.0) in
          let one : times x (n ∷ ns) ≡ 1 = omega (arith, first, h) in
          one ∙ sym (ap (λ (b : Bool). cond {A = ℕ} (b || list_any (nat_eq x) ns) 1 0) (eq-eqb x n (sym t.1)))
      | inr t ↦
          let first : times x (n ∷ ns)
          ≡ times x ns = omega (arith, ap (λ (b : Bool). cond {A = ℕ} b 1 0 + times x ns) t.0) in
          first ∙ found_once x ns (omega (arith, first, h))
          ∙ sym (ap (λ (b : Bool). cond {A = ℕ} (b || list_any (nat_eq x) ns) 1 0)
          (ne_eqb x n (λ e. t.1 (sym e))))
    ]

-- ---- the front by the rows of the value

front_is : (count : ℕ → ℕ) (rows : List ListRow) (wanted : ℕ) (ns : List ℕ) → ((l : ℕ) → count l ≡ rows_on rows l)
    → front_by count wanted ns ≡ front_holding rows wanted ns
front_is count rows wanted [] h = refl
front_is count rows zero (n ∷ ns) h = refl
front_is count rows (suc wanted) (n ∷ ns) h =
    ap (λ (m : ℕ). n ∷ front_by count (suc wanted - m) ns) (h n)
    ∙ ap (λ (rest : List ℕ). n ∷ rest) (front_is count rows (suc wanted - rows_on rows n) ns h)

count-turned : (l : ℕ) (rows : List ListRow) → count_by (λ row. nat_eq l row.list) rows ≡ rows_on rows l
count-turned l rows =
    sym (length-filter (λ (row : ListRow). nat_eq l row.list) rows)
    ∙ ap length (filter_agree (λ (row : ListRow). nat_eq l row.list) (λ (row : ListRow). nat_eq row.list l)
    (λ row. turned l row.list) rows)
    ∙ length-filter (λ (row : ListRow). nat_eq row.list l) rows

-- the rows of lists, by the rows of the value
rows_are : (f : ℕ → List Row) (rows : List ListRow) (ns : List ℕ) → ((l : ℕ) → f l ≡ on_list rows l)
    → flat_map f ns ≡ map row_of (flat_map (under list_of rows) ns)
rows_are f rows [] h = refl
rows_are f rows (n ∷ ns) h =
    ap (λ (rs : List Row). rs ++ flat_map f ns) (h n)
    ∙ ap (λ (rs : List Row). on_list rows n ++ rs) (rows_are f rows ns h)
    ∙ sym (map-append row_of (under list_of rows n) (flat_map (under list_of rows) ns))

-- ---- the answers

-- the value of what an IVF keeps
abbrev pub value_in : (dim nlist nprobe codes_most : ℕ) (entries : Option (List ℕ)) (quantizer : CodeList)
    (order_pool list_pool : PoolLists) → IvfValue
value_in dim nlist nprobe codes_most entries quantizer order_pool list_pool =
    record {
      dim = dim;
      nlist = nlist;
      nprobe = nprobe;
      max_codes = codes_most;
      direct = has_map entries;
      centroids =
          quantizer.codes;
      rows = rows_in_order order_pool list_pool;
    }

module _ (dim nlist nprobe codes_most : ℕ) (entries : Option (List ℕ)) (quantizer : CodeList)
    (order_pool list_pool : PoolLists) (h : IsIvf dim nlist nprobe codes_most entries quantizer order_pool list_pool)
    (q : List ℕ) where
  abbrev v : IvfValue
  v = value_in dim nlist nprobe codes_most entries quantizer order_pool list_pool

  abbrev ns : List ℕ
  ns = near_by (count_in list_pool) codes_most (take (min nprobe nlist) (lists_by quantizer.codes q))

  counts : (l : ℕ) → count_in list_pool l ≡ rows_on v.rows l
  counts l = ap length (h.table.parts l) ∙ length-on_list v.rows l ∙ count-turned l v.rows

  near_is : ns ≡ near v q
  near_is =
      let first : List ℕ = take (min nprobe nlist) (lists_by quantizer.codes q) in
      ap (λ (front : List ℕ). if codes_most == 0 then first else front)
      (front_is (count_in list_pool) v.rows codes_most first counts)

  visited : IsPermutation (rows_at list_pool ns) (probed_rows_inner (Ivf v) q)
  visited =
      let once : All (λ (row : ListRow). times row.list ns ≡ cond (is_probed_ivf v q row) 1 0) v.rows
      = λ k d low. let x : ℕ = (get_or v.rows k d).list in
      found_once x ns (near-once x (count_in list_pool) codes_most (min nprobe nlist) quantizer.codes q)
      ∙ ap (λ (ms : List ℕ). cond {A = ℕ} (list_any (nat_eq x) ms) 1 0) near_is in
      subst (λ (rs : List Row). IsPermutation rs (probed_rows_inner (Ivf v) q))
      (sym (rows_are (λ l. (list_at list_pool l).rows) v.rows ns h.table.parts))
      (IsPermutation-map row_of (flat_map (under list_of v.rows) ns) (filter (is_probed_ivf v q) v.rows)
      (visited_once list_of (is_probed_ivf v q) ns v.rows once))

  few_visited : length (rows_at list_pool ns) ≤ length v.rows
  few_visited =
      omega (
        arith,
        length_permutation _ _ visited,
        length-map (filter (is_probed_ivf v q) v.rows) row_of,
        length-filter-le (is_probed_ivf v q) v.rows,
      )

  -- the near lists of the value that is seen
  pub near_seen : (seen : IvfValue) → v ≡ seen → ns ≡ near seen q
  near_seen seen e = near_is ∙ ap (λ (w : IvfValue). near w q) e

  pub visit_seen : (seen : IvfValue) → v ≡ seen → IsVisit (Bare (Ivf seen)) q (rows_at list_pool (near seen q))
  visit_seen seen e =
      subst (λ (w : IvfValue). IsVisit (Bare (Ivf w)) q (rows_at list_pool (near w q))) e
      (subst (λ (ms : List ℕ). IsVisit (Bare (Ivf v)) q (rows_at list_pool ms)) near_is
      (visit (Ivf v) q (rows_at list_pool ns) visited))

  pub few_seen : (seen : IvfValue) → v ≡ seen → length (rows_at list_pool (near seen q)) ≤ length v.rows
  few_seen seen e = subst (λ (ms : List ℕ). length (rows_at list_pool ms) ≤ length v.rows) (near_seen seen e) few_visited

-- a query compares all centroids
pub looked_least : (v : IvfValue) (q : List ℕ) → v.nlist ≤ looked (Bare (Ivf v)) q
unfolding looked
looked_least v q = omega arith

-- ---- what a query asks

-- the rows in order are as many as the order has
pub count_is : (dim nlist nprobe codes_most : ℕ) (entries : Option (List ℕ)) (quantizer : CodeList)
    (order_pool list_pool : PoolLists) → IsIvf dim nlist nprobe codes_most entries quantizer order_pool list_pool
    → length (list_at order_pool 0).rows ≡ length (rows_in_order order_pool list_pool)
count_is dim nlist nprobe codes_most entries quantizer order_pool list_pool h =
    sym (length-map (list_at order_pool 0).rows (λ (row : Row). nat_abs row.label))
    ∙ rows_count (order_in order_pool) (lists_in list_pool) (rows_in_order order_pool list_pool) h.table
