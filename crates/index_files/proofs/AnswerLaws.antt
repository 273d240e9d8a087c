-- A settled value answers like the value without a limit on codes.
use Rattle.std.proofs.Common.{◌≡◌, ℕ, ◌+◌, Bool, cond, eqb, List, [], ◌∷◌, ◌++◌, map, take, All}
use Rattle.std.proofs.Common.{refl, sym, ap, ◌∙◌, inl, inr, arith}
use Rattle.std.specs.Prelude.{count_by, nat_eq, nat_lt}
use Rattle.std.specs.List.{flat_map, filter}
use Rattle.std.proofs.lemmas.Bool.{cases_Bool}
use Rattle.std.proofs.lemmas.List.Elements.{All-head, All-tail}
use Rattle.bcodes.specs.declared.hit.Hit.{Hit}
use Rattle.bcodes.specs.Hits.{insert_hit}
use Rattle.bcodes.specs.Value.{Row, ListRow, IvfValue, HashValue, Inner, Flat, Ivf, Hash, Multi, IndexValue, Bare}
use Rattle.bcodes.specs.Value.{IdMap, row_of, IsLegalInner, IsLegal}
use Rattle.bcodes.specs.Answers.{hit_of, ranked_rows, is_probed_ivf, is_probed_hash, probed_rows_inner, hits}
use Rattle.bcodes.specs.Answers.{relabelled, best, within}
use Rattle.bcodes.proofs.OrderLemmas.{insert_hit_comm}
use Rattle.key_buckets.specs.Keys.{firsts}
use Rattle.index_files.specs.Groups.{on_list, filled}
use Rattle.hash_index.specs.Keys.{key_of}
use Rattle.index_files.specs.File.{settled_inner, settled}
use Rattle.index_files.specs.Laws.{unlimited_inner, unlimited}
use Rattle.index_files.proofs.Settled.{members, list-once, first-once, count-cons}

-- hits of the elements that pass, in order: an element after the other, and no order of elements matters
module _ {X : Type 0} (p : X → Bool) (h : X → Hit) where
  abbrev put : X → List Hit → List Hit
  put x hs = cond (p x) (insert_hit (h x) hs) hs

  abbrev put_all : List X → List Hit → List Hit
  put_all [] hs = hs
  put_all (x ∷ xs) hs = put x (put_all xs hs)

  put-comm : (x y : X) (hs : List Hit) → put x (put y hs) ≡ put y (put x hs)
  put-comm x y hs =
      elim (cases_Bool (p x)) [
        | inl e ↦ elim (cases_Bool (p y)) [
          | inl f ↦ rw (e, f) (insert_hit_comm (h x) (h y) hs)
          | inr f ↦ rw (e, f) refl
        ]
        | inr e ↦ elim (cases_Bool (p y)) [ inl f ↦ rw (e, f) refl | inr f ↦ rw (e, f) refl ]
      ]

  put-out : (xs : List X) (x : X) (hs : List Hit) → put_all xs (put x hs) ≡ put x (put_all xs hs)
  put-out [] x hs = refl
  put-out (y ∷ ys) x hs = ap (put y) (put-out ys x hs) ∙ put-comm y x (put_all ys hs)

  put-append : (xs ys : List X) (hs : List Hit) → put_all (xs ++ ys) hs ≡ put_all xs (put_all ys hs)
  put-append [] ys hs = refl
  put-append (x ∷ xs) ys hs = ap (put x) (put-append xs ys hs)

  module _ (c : X → ℕ) where
    same-groups : (x : X) (xs : List X) (ks : List ℕ) → count_by (nat_eq (c x)) ks ≡ 0
        → flat_map (members c (x ∷ xs)) ks ≡ flat_map (members c xs) ks
    same-groups x xs [] e = refl
    same-groups x xs (k ∷ ks) e =
        let all : count_by (nat_eq (c x)) (k ∷ ks) ≡ cond (eqb k (c x)) 1 0 + count_by (nat_eq (c x)) ks =
        count-cons (c x) k ks in
        elim (cases_Bool (eqb k (c x))) [
          | inl t ↦ absurd (let one : count_by (nat_eq (c x)) (k ∷ ks) ≡ 1 + count_by (nat_eq (c x)) ks =
              all ∙ rw t refl in omega (arith, one, e))
          | inr f ↦ (let none : count_by (nat_eq (c x)) (k ∷ ks) ≡ 0 + count_by (nat_eq (c x)) ks =
              all ∙ rw f refl in rw f (ap (λ (ys : List X). members c xs k ++ ys)
              (same-groups x xs ks (omega (arith, none, e)))))
        ]

    one-more : (x : X) (xs : List X) (ks : List ℕ) (hs : List Hit) → count_by (nat_eq (c x)) ks ≡ 1
        → put_all (flat_map (members c (x ∷ xs)) ks) hs ≡ put x (put_all (flat_map (members c xs) ks) hs)
    one-more x xs [] hs e = absurd (omega (arith, e))
    one-more x xs (k ∷ ks) hs e =
        let all : count_by (nat_eq (c x)) (k ∷ ks) ≡ cond (eqb k (c x)) 1 0 + count_by (nat_eq (c x)) ks =
        count-cons (c x) k ks in
        let old = put-append (members c xs k) (flat_map (members c xs) ks) hs in
        elim (cases_Bool (eqb k (c x))) [
          | inl t ↦
              let one : count_by (nat_eq (c x)) (k ∷ ks) ≡ 1 + count_by (nat_eq (c x)) ks = all ∙ rw t refl in
              let rest = same-groups x xs ks (omega (arith, one, e)) in
              let group : members c (x ∷ xs) k ≡ x ∷ members c xs k = rw t refl in
              ap (λ (g : List X). put_all (g ++ flat_map (members c (x ∷ xs)) ks) hs) group
              ∙ ap (λ (r : List X). put_all ((x ∷ members c xs k) ++ r) hs) rest
          | inr f ↦
              let none : count_by (nat_eq (c x)) (k ∷ ks) ≡ 0 + count_by (nat_eq (c x)) ks = all ∙ rw f refl in
              let group : members c (x ∷ xs) k ≡ members c xs k = rw f refl in
              ap (λ (g : List X). put_all (g ++ flat_map (members c (x ∷ xs)) ks) hs) group
              ∙ put-append (members c xs k) (flat_map (members c (x ∷ xs)) ks) hs
              ∙ ap (put_all (members c xs k)) (one-more x xs ks hs (omega (arith, none, e)))
              ∙ put-out (members c xs k) x (put_all (flat_map (members c xs) ks) hs) ∙ ap (put x) (sym old)
        ]

    none-there : (ks : List ℕ) → flat_map (members c []) ks ≡ []
    none-there [] = refl
    none-there (k ∷ ks) = none-there ks

    pub put-grouped : (xs : List X) (ks : List ℕ) (hs : List Hit)
        → All (λ x. count_by (nat_eq (c x)) ks ≡ 1) xs
        → put_all (flat_map (members c xs) ks) hs ≡ put_all xs hs
    put-grouped [] ks hs all = ap (λ (ys : List X). put_all ys hs) (none-there ks)
    put-grouped (x ∷ xs) ks hs all = one-more x xs ks hs
        (All-head (λ x. count_by (nat_eq (c x)) ks ≡ 1) x xs all)
        ∙ ap (put x) (put-grouped xs ks hs (All-tail (λ x. count_by (nat_eq (c x)) ks ≡ 1) x xs all))

ivf-put : (q : List ℕ) (p : ListRow → Bool) (rows : List ListRow)
    → ranked_rows q (map row_of (filter p rows)) ≡ put_all p (λ row. hit_of q (row_of row)) rows []
ivf-put q p [] = refl
ivf-put q p (row ∷ rows) = elim (cases_Bool (p row)) [
  | inl e ↦
      rw e (ap (insert_hit (hit_of q (row_of row))) (ivf-put q p rows))
  | inr e ↦ rw e (ivf-put q p rows)
]

hash-put : (q : List ℕ) (p : Row → Bool) (rows : List Row)
    → ranked_rows q (filter p rows) ≡ put_all p (hit_of q) rows []
hash-put q p [] = refl
hash-put q p (row ∷ rows) = elim (cases_Bool (p row)) [
  | inl e ↦
      rw e (ap (insert_hit (hit_of q row)) (hash-put q p rows))
  | inr e ↦ rw e (hash-put q p rows)
]

ivf-same : (v : IvfValue) (q : List ℕ) → All (λ row. count_by (nat_eq row.list) (filled v) ≡ 1) v.rows
    → ranked_rows q (probed_rows_inner (settled_inner (Ivf v)) q)
    ≡ ranked_rows q (probed_rows_inner (unlimited_inner (Ivf v)) q)
unfolding on_list
ivf-same v q once =
    let p : ListRow → Bool = is_probed_ivf (record v { max_codes = 0 }) q in
    ivf-put q p (flat_map (members (λ (row : ListRow). row.list) v.rows) (filled v))
    ∙ put-grouped p (λ row. hit_of q (row_of row)) (λ (row : ListRow). row.list) v.rows (filled v) [] once
    ∙ sym (ivf-put q p v.rows)

hash-same : (v : HashValue) (q : List ℕ)
    → ranked_rows q (probed_rows_inner (settled_inner (Hash v)) q) ≡ ranked_rows q (probed_rows_inner (Hash v) q)
hash-same v q =
    let keys = firsts (map (key_of v.b) v.rows) in
    hash-put q (is_probed_hash v q) (flat_map (members (key_of v.b) v.rows) keys)
    ∙ put-grouped (is_probed_hash v q) (hit_of q) (key_of v.b) v.rows keys [] (first-once (key_of v.b) v.rows)
    ∙ sym (hash-put q (is_probed_hash v q) v.rows)

same-hits : (v : Inner) (q : List ℕ) → IsLegalInner v
    → ranked_rows q (probed_rows_inner (settled_inner v) q)
    ≡ ranked_rows q (probed_rows_inner (unlimited_inner v) q)
same-hits (Flat v) q h = refl
same-hits (Ivf v) q h = ivf-same v q (list-once v (λ i d lt. (h.rows i d lt).list))
same-hits (Hash v) q h = hash-same v q
same-hits (Multi v) q h = refl

pub same-best : (v : IndexValue) (q : List ℕ) (k : ℕ) → IsLegal v
    → best (settled v) q k ≡ best (unlimited v) q k
unfolding best hits settled
same-best (Bare v) q k h = ap (take k) (same-hits v q h)
same-best (IdMap name v ids) q k h = ap (λ (hs : List Hit). relabelled (IdMap name v ids) (take k hs))
    (same-hits v q h.inner)

pub same-within : (v : IndexValue) (q : List ℕ) (radius : ℕ) → IsLegal v
    → within (settled v) q radius ≡ within (unlimited v) q radius
unfolding within hits settled
same-within (Bare v) q radius h = ap (filter (λ h. nat_lt h.distance radius)) (same-hits v q h)
same-within (IdMap name v ids) q radius h =
    ap (λ (hs : List Hit). relabelled (IdMap name v ids) (filter (λ h. nat_lt h.distance radius) hs))
    (same-hits v q h.inner)
