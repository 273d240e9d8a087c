-- The lists that a query looks into hold the rows that are probed.
use Rattle.std.proofs.Common.{◌≡◌, ℕ, ◌-◌, ◌*◌, ◌^◌, ◌<◌, ◌≤◌, inl, inr, Bool, cond, nat_eq, nat_le, min, List}
use Rattle.std.proofs.Common.{[], ◌∷◌, length, get_or, Option, Some, refl, sym, ap, ◌∙◌, subst, arith}
use Rattle.std.specs.List.{filter, flat_map, All, IsDistinct}
use Rattle.std.specs.List.Sorted.{IsPermutation}
use Rattle.std.specs.Map.{keys_of}
use Rattle.std.specs.Int.RustNames.{count_ones}
use Rattle.std.proofs.lemmas.List.{length-map, get_or-map, map-id}
use Rattle.std.proofs.lemmas.List.Elements.{All-head, All-tail, filter_agree}
use Rattle.std.proofs.lemmas.List.Sorted.{length_permutation}
use Rattle.std.proofs.lemmas.Nat.{xor_comm}
use Rattle.std.proofs.lemmas.Bool.{ne_eqb, eq-eqb}
use Rattle.std.proofs.lemmas.Bool.Decides.{eqb_tells}
use Rattle.bcodes.specs.Bits.{key, differing, dist_between}
use Rattle.bcodes.specs.Value.{Row, HashValue, Hash, Bare}
use Rattle.bcodes.specs.Answers.{is_probed_hash}
use Rattle.bcodes.proofs.KeyLemmas.{key_below}
use Rattle.bcodes.proofs.LegalLemmas.{length-filter-le}
use Rattle.code_pool.specs.Lists.{PoolLists}
use Rattle.list_scan.specs.Visited.{rows_at}
use Rattle.list_scan.proofs.VisitLemmas.{IsVisit, visit}
use Rattle.flip_walk.specs.Patterns.{under, flips}
use Rattle.key_buckets.specs.Keys.{list_of}
use Rattle.key_buckets.specs.Near.{is_near, near_lists, looks_at}
use Rattle.key_buckets.specs.Parts.{IsParted}
use Rattle.key_buckets.proofs.XorLemmas.{ones-key_xor}
use Rattle.key_buckets.proofs.NearLemmas.{near_visit, own_lists}
use Rattle.key_buckets.proofs.NearLemmas.{near_known as lists_known}
use Rattle.hash_index.specs.Keys.{key_of, hash_keys, bucket_at, looks}
use Rattle.hash_index.specs.Table.{number_of, IsTable}
use Rattle.row_lists.specs.Rows.{order_in, lists_in}
use Rattle.hash_index.specs.Inside.{rows_in_order, IsHash}
use Rattle.hash_index.proofs.AddLemmas.{number_is}
use Rattle.hash_index.proofs.HashLemmas.{light}

-- ---- the rows of a key

agree_all : (p q : Row → Bool) (rows : List Row) → All (λ row. p row ≡ q row) rows → filter p rows ≡ filter q rows
agree_all p q [] h = refl
agree_all p q (row ∷ rows) h =
    ap (λ (t : Bool). cond t (row ∷ filter p rows) (filter p rows)) (All-head (λ row. p row ≡ q row) row rows h)
    ∙ ap (λ (rs : List Row). cond (q row) (row ∷ rs) rs) (agree_all p q rows (All-tail (λ row. p row ≡ q row) row rows h))

some_one : (o : Option ℕ) (l m : ℕ) → o ≡ Some l → o ≡ Some m → l ≡ m
some_one o l m e f = cc

same_test : (l m k j : ℕ) → (l ≡ m → k ≡ j) → (k ≡ j → l ≡ m) → nat_eq l m ≡ nat_eq k j
same_test l m k j f g =
    elim (eqb_tells l m) [
      | inl t ↦ t.0 ∙ sym (eq-eqb k j (f t.1))
      | inr t ↦ t.0 ∙ sym (ne_eqb k j (λ e. t.1 (g e)))
    ]

-- the list of a key has the rows of that key
rows_of_key : (b : ℕ) (es : List (ℕ × ℕ)) (order : List ℕ) (lists : ℕ → List Row) (rows : List Row) (k l : ℕ)
    → IsTable b es order lists rows → list_of es k ≡ Some l → lists l ≡ under (key_of b) rows k
rows_of_key b es order lists rows k l t e =
    t.parts l ∙ agree_all (λ row. nat_eq l (number_of es b row)) (λ row. nat_eq k (key_of b row)) rows (λ j d h.
    let known = t.known j d h in
    same_test l (number_of es b (get_or rows j d)) k (key_of b (get_or rows j d))
    (λ same. t.numbering.apart k (key_of b (get_or rows j d)) l e (known.1
    ∙ ap Some (sym (number_is es b known.0 (get_or rows j d) known.1) ∙ sym same)))
    (λ same. some_one (list_of es k) l known.0 e (ap (list_of es) same ∙ known.1)
    ∙ sym (number_is es b known.0 (get_or rows j d) known.1)))

parted : (b : ℕ) (es : List (ℕ × ℕ)) (order : List ℕ) (lists : ℕ → List Row) (rows : List Row)
    → IsTable b es order lists rows → IsParted (λ (row : Row). row) (key_of b) es lists rows
parted b es order lists rows t = record {
  known = t.known;
  parts = λ k l e. rows_of_key b es order lists rows k l t e ∙ sym (map-id (under (key_of b) rows k));
}

near_by_key : (q : List ℕ) (b nflip : ℕ) (row : Row) → is_near (key q 0 b) nflip (key_of b row)
    ≡ nat_le (dist_between row.code q 0 b) nflip
near_by_key q b nflip row =
    let e : b - 0 ≡ b = omega arith in
    ap (λ n. nat_le n nflip) (ap count_ones (xor_comm (key q 0 b) (key row.code 0 b)) ∙ ones-key_xor row.code q 0 b
    ∙ sym (ap (differing row.code q 0) e))

near_rows : (b nflip : ℕ) (es : List (ℕ × ℕ)) (order : List ℕ) (lists : ℕ → List Row) (rows : List Row) (q : List ℕ)
    → IsTable b es order lists rows → IsDistinct nat_eq (keys_of es)
    → IsPermutation (flat_map lists (near_lists es b nflip (key q 0 b)))
    (filter (λ (row : Row). nat_le (dist_between row.code q 0 b) nflip) rows)
near_rows b nflip es order lists rows q t distinct =
    subst (IsPermutation (flat_map lists (near_lists es b nflip (key q 0 b))))
    (map-id (filter (λ (row : Row). is_near (key q 0 b) nflip (key_of b row)) rows)
    ∙ filter_agree (λ (row : Row). is_near (key q 0 b) nflip (key_of b row))
    (λ (row : Row). nat_le (dist_between row.code q 0 b) nflip) (near_by_key q b nflip) rows)
    (near_visit (λ (row : Row). row) (key_of b) es lists rows (parted b es order lists rows t) b nflip (key q 0 b)
    (key_below q 0 b) (λ k d h. key_below (get_or rows k d).code 0 b) distinct)

-- ---- the answers

-- the value of what a Hash keeps
abbrev pub value_in : (dim b nflip : ℕ) (order buckets : PoolLists) → HashValue
value_in dim b nflip order buckets = record { dim = dim; b = b; nflip = nflip; rows = rows_in_order order buckets }

module _ (dim b nflip : ℕ) (es : List (ℕ × ℕ)) (order buckets : PoolLists) (h : IsHash dim b nflip es order buckets) where
  -- as many keys as the rows have
  pub keys_count : length es ≡ length (hash_keys (value_in dim b nflip order buckets))
  keys_count = sym (length-map es (λ (e : ℕ × ℕ). e.0)) ∙ ap length h.table.keys

  pub looks_is : looks_at es b nflip ≡ looks (value_in dim b nflip order buckets)
  looks_is = ap (min (length (flips b nflip))) keys_count

  -- the rows of the list of a bucket
  pub bucket_rows : IsDistinct nat_eq (keys_of es) → (i : ℕ) (e : ℕ × ℕ) → i < length es → e ≡ get_or es i (0, 0)
      → lists_in buckets e.1 ≡ bucket_at (value_in dim b nflip order buckets) i
  bucket_rows distinct i e low is =
      let at : ℕ × ℕ = get_or es i (0, 0) in
      let key_is : at.0 ≡ get_or (hash_keys (value_in dim b nflip order buckets)) i 0
      = sym (get_or-map (λ (p : ℕ × ℕ). p.0) es i (0, 0) 0 low) ∙ ap (λ (ks : List ℕ). get_or ks i 0) h.table.keys in
      ap (λ (p : ℕ × ℕ). lists_in buckets p.1) is
      ∙ rows_of_key b es (order_in order) (lists_in buckets) (rows_in_order order buckets) at.0 at.1 h.table
      (own_lists es distinct i (0, 0) low)
      ∙ ap (under (key_of b) (rows_in_order order buckets)) key_is

  -- which is there
  pub bucket_known : IsDistinct nat_eq (keys_of es) → (i : ℕ) (e : ℕ × ℕ) → i < length es → e ≡ get_or es i (0, 0)
      → e.1 < length buckets.lists
  bucket_known distinct i e low is =
      let at : ℕ × ℕ = get_or es i (0, 0) in
      omega (
        arith,
        h.table.numbering.below at.0 at.1 (own_lists es distinct i (0, 0) low),
        h.keys_most,
        ap (λ (p : ℕ × ℕ). p.1) is,
      )

  module _ (distinct : IsDistinct nat_eq (keys_of es)) (q : List ℕ) where
    abbrev v : HashValue
    v = value_in dim b nflip order buckets

    abbrev ns : List ℕ
    ns = near_lists es b nflip (key q 0 b)

    pub near_known : All (λ l. l < length buckets.lists) ns
    near_known = lists_known es (length es) (length buckets.lists) b nflip (key q 0 b) h.table.numbering h.keys_most
        distinct

    visited : IsPermutation (rows_at buckets ns) (filter (is_probed_hash v q) v.rows)
    visited = near_rows b nflip es (order_in order) (lists_in buckets) (rows_in_order order buckets) q h.table distinct

    few_visited : length (rows_at buckets ns) ≤ length v.rows
    few_visited = omega (arith, length_permutation _ _ visited, length-filter-le (is_probed_hash v q) v.rows)

    pub few_seen : length (rows_at buckets ns) < 2 ^ 64
    few_seen = omega (arith, few_visited, light dim (length v.rows) h.load)

    -- what the value that is seen answers
    pub visit_seen : (seen : HashValue) → v ≡ seen → IsVisit (Bare (Hash seen)) q (rows_at buckets ns)
    visit_seen seen e =
        subst (λ (w : HashValue). IsVisit (Bare (Hash w)) q (rows_at buckets ns)) e
        (visit (Hash v) q (rows_at buckets ns) visited)

pub zero_times : (b : ℕ) → 0 * b ≡ 0
zero_times b = omega arith
