-- A settled IVF has the rows of each list, the entries and the bytes of the one that is settled.
use Rattle.std.proofs.Common.{◌≡◌, ◌⊎◌, inl, inr, ℕ, zero, suc, ◌+◌, ◌*◌, ◌/◌, ◌<◌, ◌≤◌, ℤ, pos, Bool}
use Rattle.std.proofs.Common.{true, false, cond, eqb, List, [], ◌∷◌, ◌++◌, length, map, get_or, drop, take, All}
use Rattle.std.proofs.Common.{refl, sym, ap, subst, ◌∙◌, append_assoc, arith}
use Rattle.std.specs.Prelude.{nat_lt, codes}
use Rattle.std.specs.Ordering.{int_eq}
use Rattle.std.specs.List.{filter, flat_map, range_with_len}
use Rattle.std.proofs.lemmas.Bool.{cases_Bool, cases_eq, eqb-true, eq-eqb, ltb-false, le-ltb, lt-ltb}
use Rattle.std.proofs.lemmas.Bool.Decides.{Decides-int_eq}
use Rattle.std.proofs.lemmas.List.{append-nil, nil_from_length, map-append, drop-drop, take-append-drop, length-map}
use Rattle.std.proofs.lemmas.List.Folds.{flat_map-map}
use Rattle.std.proofs.lemmas.List.FromFn.{length-range_with_len}
use Rattle.std.proofs.lemmas.List.Elements.{filter-append, All-head, All-tail}
use Rattle.bcodes.specs.Value.{CodeList, Row, ListRow, IvfValue, Ivf, IsLegalIvf, IsNumbering, row_of, is_trained_inner}
use Rattle.code_pool.specs.Lists.{rows_in, IsRun, no_row}
use Rattle.file_parts.specs.Storing.{Written, behind}
use Rattle.file_parts.proofs.StoreLemmas.{and_then}
use Rattle.multi_hash.proofs.MetLemmas.{flat_map-range_next}
use Rattle.ivf_index.specs.Direct.{IsPlaced, entry}
use Rattle.ivf_index.specs.Table.{on_list as table_list}
use Rattle.index_files.specs.Groups.{on_list, filled, by_list, entry_of, mapped, list_with, rows_before}
use Rattle.index_files.specs.File.{settled_inner}
use Rattle.index_files.specs.Canon.{number, bit_of, ids_bytes, head, flat_bytes, direct_bytes, size_bytes}
use Rattle.index_files.specs.Canon.{sizes_bytes, list_bytes, ivf_bytes, inner_bytes}
use Rattle.index_files.proofs.ListGroups.{rows_at, AreOn, at-own, at-other}
use Rattle.index_files.proofs.IvfAgain.{are-filled}
use Rattle.index_files.proofs.Settled.{legal-inner, count-inner}
use Rattle.index_files.proofs.Numbering.{label_count, labels, count-cons, count-same}
use Rattle.index_files.proofs.WritingLemmas.{code_bytes, ids_append}

-- ---- numbers from a on that pass a test

flat-same : (f g : ℕ → List ℕ) (n a : ℕ) → ((k : ℕ) → k < a + n → f k ≡ g k)
    → flat_map f (range_with_len a n) ≡ flat_map g (range_with_len a n)
flat-same f g zero a same = refl
flat-same f g (suc n) a same =
    let rest = flat-same f g n (a + 1) (λ k lt. same k (omega (arith, lt))) in
    rw (same a (omega arith), rest) refl

pub flat-filter : {X : Type 0} (f : X → List ℕ) (p : X → Bool) (xs : List X)
    → flat_map f (filter p xs) ≡ flat_map (λ x. cond (p x) (f x) []) xs
flat-filter f p [] = refl
flat-filter f p (x ∷ xs) =
    elim (cases_Bool (p x)) [
      | inl e ↦ rw e (ap (λ (bytes : List ℕ). f x ++ bytes) (flat-filter f p xs))
      | inr e ↦ rw e (flat-filter f p xs)
    ]

filter-same : (p q : ℕ → Bool) (n a : ℕ) → ((k : ℕ) → k < a + n → p k ≡ q k)
    → filter p (range_with_len a n) ≡ filter q (range_with_len a n)
filter-same p q zero a same = refl
filter-same p q (suc n) a same =
    let rest = filter-same p q n (a + 1) (λ k lt. same k (omega (arith, lt))) in
    rw (same a (omega arith), rest) refl

pub count-next : (p : ℕ → Bool) (n a : ℕ)
    → length (filter p (range_with_len a (suc n)))
    ≡ length (filter p (range_with_len a n)) + cond (p (a + n)) 1 0
count-next p zero a =
    let e : a + 0 ≡ a = omega arith in
    rw e (elim (cases_Bool (p a)) [ inl t ↦ rw t refl | inr f ↦ rw f refl ])
count-next p (suc n) a =
    let e : (a + 1) + n ≡ a + suc n = omega arith in
    let ih : length (filter p (range_with_len (a + 1) (suc n)))
    ≡ length (filter p (range_with_len (a + 1) n)) + cond (p (a + suc n)) 1 0 = count-next p n (a + 1)
    ∙ ap (λ (k : ℕ). length (filter p (range_with_len (a + 1) n)) + cond (p k) 1 0) e in
    one-more (p a) (filter p (range_with_len (a + 1) (suc n))) (filter p (range_with_len (a + 1) n)) a
    (cond (p (a + suc n)) 1 0) ih
  where
    one-more : (b : Bool) (xs ys : List ℕ) (k n : ℕ) → length xs ≡ length ys + n
        → length (cond b (k ∷ xs) xs) ≡ length (cond b (k ∷ ys) ys) + n
    one-more true xs ys k n e = omega (arith, e)
    one-more false xs ys k n e = e

-- ---- the rows of each list

module _ (rows : List ListRow) where
  abbrev pub is_filled : ℕ → Bool
  is_filled list = nat_lt 0 (length (rows_at rows list))

  abbrev pub grouped : ℕ → ℕ → List ListRow
  grouped a n = flat_map (rows_at rows) (filter is_filled (range_with_len a n))

  own-on : (list : ℕ) → AreOn list (rows_at rows list)
  own-on list = (are-filled rows (list ∷ [])).0.on

  no-rows : (list : ℕ) → is_filled list ≡ false → rows_at rows list ≡ []
  no-rows list e = nil_from_length (rows_at rows list)
      (let le = ltb-false 0 (length (rows_at rows list)) e in omega (arith, le))

  grouped-none : (n a list : ℕ) → list < a → rows_at (grouped a n) list ≡ []
  grouped-none zero a list lt = refl
  grouped-none (suc n) a list lt =
      elim (cases_Bool (is_filled a)) [
        | inl e ↦
            let first = at-other a list (rows_at rows a) (own-on a) (λ k. omega (arith, k, lt)) in
            let rest = grouped-none n (a + 1) list (omega (arith, lt)) in
            rw e (filter-append (λ row. eqb list row.list) (rows_at rows a) (grouped (a + 1) n)
            ∙ rw (first, rest) refl)
        | inr e ↦ rw e (grouped-none n (a + 1) list (omega (arith, lt)))
      ]

  grouped-own : (n a list : ℕ) → a ≤ list → list < a + n → rows_at (grouped a n) list ≡ rows_at rows list
  grouped-own zero a list le lt = absurd (omega (arith, le, lt))
  grouped-own (suc n) a list le lt =
      elim (cases_eq a list) [
        | inl same ↦ (let none = grouped-none n (a + 1) list (omega (arith, same)) in
            elim (cases_Bool (is_filled a)) [
              | inl e ↦
                  let on : AreOn list (rows_at rows a) = subst (λ l. AreOn l (rows_at rows a)) same (own-on a) in
                  rw e (filter-append (λ row. eqb list row.list) (rows_at rows a) (grouped (a + 1) n)
                  ∙ rw (at-own list (rows_at rows a) on, none) (append-nil (rows_at rows a))
                  ∙ ap (rows_at rows) same)
              | inr e ↦ rw e (none ∙ sym (no-rows a e) ∙ ap (rows_at rows) same)
            ])
        | inr differ ↦ (let rest = grouped-own n (a + 1) list (omega (arith, le, differ)) (omega (arith, lt)) in
            elim (cases_Bool (is_filled a)) [
              | inl e ↦ rw e (filter-append (λ row. eqb list row.list) (rows_at rows a) (grouped (a + 1) n)
                  ∙ rw (at-other a list (rows_at rows a) (own-on a) differ, rest) refl)
              | inr e ↦ rw e rest
            ])
      ]

-- the value with its rows list by list
abbrev pub in_lists : IvfValue → IvfValue
in_lists v = record v { max_codes = 0; rows = by_list v }

pub list-kept : (v : IvfValue) (list : ℕ) → list < v.nlist → on_list (in_lists v) list ≡ on_list v list
unfolding on_list filled
list-kept v list lt = grouped-own v.rows v.nlist 0 list (omega arith) (omega (arith, lt))

pub filled-kept : (v : IvfValue) → filled (in_lists v) ≡ filled v
unfolding filled
filled-kept v = filter-same (λ list. nat_lt 0 (length (on_list (in_lists v) list)))
    (λ list. nat_lt 0 (length (on_list v list))) v.nlist 0
    (λ k lt. ap (λ (rows : List ListRow). nat_lt 0 (length rows)) (list-kept v k (omega (arith, lt))))

-- the same of each list is the same of those that are not empty
flat-filled : (v : IvfValue) (f g : ℕ → List ℕ) → ((k : ℕ) → k < v.nlist → f k ≡ g k)
    → flat_map f (filled v) ≡ flat_map g (filled v)
unfolding filled
flat-filled v f g same =
    let p : ℕ → Bool = λ list. nat_lt 0 (length (on_list v list)) in
    flat-filter f p (range_with_len 0 v.nlist)
    ∙ flat-same (λ k. cond (p k) (f k) []) (λ k. cond (p k) (g k) []) v.nlist 0
    (λ k lt. ap (λ (bytes : List ℕ). cond (p k) bytes []) (same k (omega (arith, lt))))
    ∙ sym (flat-filter g p (range_with_len 0 v.nlist))

-- ---- the place of a label

at-counted : (k : ℕ) (zs : List ℤ) (o : ℕ) → o < length zs → get_or zs o (pos 0) ≡ pos k
    → 1 ≤ label_count k zs
at-counted k [] o lt e = absurd (omega (arith, lt))
at-counted k (z ∷ zs) zero lt e = omega (arith, count-same k z zs e)
at-counted k (z ∷ zs) (suc o) lt e =
    omega (arith, count-cons k z zs, at-counted k zs o (omega (arith, lt)) e)

on-counted : (k list : ℕ) (rows : List ListRow)
    → label_count k (labels (rows_at rows list)) ≤ label_count k (labels rows)
on-counted k list [] = omega arith
on-counted k list (row ∷ rows) =
    let all = count-cons k row.label (labels rows) in
    elim (cases_Bool (eqb list row.list)) [
      | inl e ↦ rw e (omega (
        arith,
        on-counted k list rows,
        all,
        count-cons k row.label (labels (rows_at rows list)),
      ))
      | inr e ↦ rw e (omega (arith, on-counted k list rows, all))
    ]

-- a label that comes once is not that of a row before its own
not-here : (k : ℕ) (row : ListRow) (rows : List ListRow) → label_count k (labels (row ∷ rows)) ≤ 1
    → 1 ≤ label_count k (labels rows) → int_eq (pos k) row.label ≡ false
not-here k row rows once some =
    elim (cases_Bool (int_eq (pos k) row.label)) [
      | inl e ↦ absurd (omega (
        arith,
        once,
        some,
        count-same k row.label (labels rows) (sym ((Decides-int_eq (pos k) row.label).0 e)),
      ))
      | inr e ↦ e
    ]

here-so : (k : ℕ) (row : ListRow) → row.label ≡ pos k → int_eq (pos k) row.label ≡ true
here-so k row e = (Decides-int_eq (pos k) row.label).1 (sym e)

-- where the rows of a list are found by a label
abbrev IsFound : ℕ → ℕ → List ListRow → List ListRow → Type 0
IsFound k list us rows = (o : ℕ) → o < length (labels us) → get_or (labels us) o (pos 0) ≡ pos k
    → (list_with k rows ≡ list) × (rows_before k us ≡ o)

found-off : (k list : ℕ) (row : ListRow) (rows : List ListRow) → label_count k (labels (row ∷ rows)) ≤ 1
    → IsFound k list (rows_at rows list) rows → IsFound k list (rows_at rows list) (row ∷ rows)
found-off k list row rows once ih o lt e =
    let some : 1 ≤ label_count k (labels rows) =
    omega (arith, at-counted k (labels (rows_at rows list)) o lt e, on-counted k list rows) in
    let other = not-here k row rows once some in
    let both = ih o lt e in
    (rw other both.0, both.1)

found-on : (k list : ℕ) (row : ListRow) (rows : List ListRow) → label_count k (labels (row ∷ rows)) ≤ 1
    → row.list ≡ list → IsFound k list (rows_at rows list) rows
    → IsFound k list (row ∷ rows_at rows list) (row ∷ rows)
found-on k list row rows once is ih zero lt e = (let h = here-so k row e in (rw h is, rw h refl))
found-on k list row rows once is ih (suc o) lt e =
    let lt' : o < length (labels (rows_at rows list)) = omega (arith, lt) in
    let some : 1 ≤ label_count k (labels rows) =
    omega (arith, at-counted k (labels (rows_at rows list)) o lt' e, on-counted k list rows) in
    let other = not-here k row rows once some in
    let both = ih o lt' e in
    (rw other both.0, rw other (omega (arith, both.1)))

entry-parts : (k list : ℕ) (rows : List ListRow) → label_count k (labels rows) ≤ 1
    → IsFound k list (rows_at rows list) rows
entry-parts k list [] once = λ o lt e. absurd (omega (arith, lt))
entry-parts k list (row ∷ rows) once =
    let fewer : label_count k (labels rows) ≤ 1 = omega (arith, once, count-cons k row.label (labels rows)) in
    let ih : IsFound k list (rows_at rows list) rows = entry-parts k list rows fewer in
    elim (cases_Bool (eqb list row.list)) [
      | inl t ↦ rw t (found-on k list row rows once (sym (eqb-true list row.list t)) ih)
      | inr f ↦ rw f (found-off k list row rows once ih)
    ]

entry-at : (v : IvfValue) (k list o : ℕ) → label_count k (labels v.rows) ≤ 1
    → o < length (labels (on_list v list)) → get_or (labels (on_list v list)) o (pos 0) ≡ pos k
    → entry_of v k ≡ entry list o
unfolding entry_of on_list
entry-at v k list o once lt e =
    let parts = entry-parts k list v.rows once o lt e in
    ap (λ l. entry l (rows_before k (rows_at v.rows l))) parts.0 ∙ ap (entry list) parts.1

label-at : (us : List ListRow) (o : ℕ) → (get_or (map row_of us) o no_row).label ≡ get_or (labels us) o (pos 0)
label-at [] o = refl
label-at (u ∷ us) zero = refl
label-at (u ∷ us) (suc o) = label-at us o

pub entry-placed : (v : IvfValue) (k e : ℕ) → IsNumbering (labels v.rows) → k < length v.rows
    → IsPlaced (table_list v.rows) v.nlist k e → e ≡ entry_of v k
unfolding on_list
entry-placed v k e numbering lt at =
    let us = rows_at v.rows at.list in
    let len : length (labels v.rows) ≡ length v.rows = length-map v.rows (λ (r : ListRow). r.label) in
    let once : label_count k (labels v.rows) ≡ 1 = numbering k (omega (arith, lt, len)) in
    let long : length (labels us) ≡ length us = length-map us (λ (r : ListRow). r.label) in
    let long' : length (map row_of us) ≡ length us = length-map us row_of in
    at.is ∙ sym (entry-at v k at.list at.offset (omega (arith, once)) (omega (arith, long, long', at.within))
    (sym (label-at us at.offset) ∙ at.label_is))

-- a label that comes stands on a list
record Stands (k n : ℕ) (rows : List ListRow) : Type 0 where
  list : ℕ
  offset : ℕ
  below : list < n
  within : offset < length (labels (rows_at rows list))
  is : get_or (labels (rows_at rows list)) offset (pos 0) ≡ pos k

stands : (k n : ℕ) (rows : List ListRow) → All (λ row. row.list < n) rows → 1 ≤ label_count k (labels rows)
    → Stands k n rows
stands k n [] below some = absurd (omega (arith, some))
stands k n (row ∷ rows) below some =
    elim (cases_Bool (int_eq (pos k) row.label)) [
      | inl e ↦
          let own = eq-eqb row.list row.list refl in
          let is : row.label ≡ pos k = sym ((Decides-int_eq (pos k) row.label).0 e) in
          record {
            list = row.list;
            offset = 0;
            below = All-head (λ (r : ListRow). r.list < n) row rows below;
            within = rw own (omega arith);
            is = rw own is;
          }
      | inr e ↦
          let count : label_count k (labels (row ∷ rows)) ≡ label_count k (labels rows) =
          count-cons k row.label (labels rows) ∙ rw e (omega arith) in
          let s = stands k n rows (All-tail (λ (r : ListRow). r.list < n) row rows below) (omega (arith, some, count)) in
          elim (cases_Bool (eqb s.list row.list)) [
            | inl t ↦
                let lt = s.within in
                let is = s.is in
                record {
                  list = s.list;
                  offset = suc s.offset;
                  below = s.below;
                  within = rw t (omega (arith, lt));
                  is = rw t is;
                }
            | inr f ↦
                let lt = s.within in
                let is = s.is in
                record { list = s.list; offset = s.offset; below = s.below; within = rw f lt; is = rw f is }
          ]
    ]

pub entry-kept : (v : IvfValue) → IsLegalIvf v → v.direct ≡ true → (k : ℕ) → k < length v.rows
    → entry_of (in_lists v) k ≡ entry_of v k
unfolding on_list
entry-kept v legal direct k lt =
    let w = in_lists v in
    let after : IsLegalIvf w = legal-inner (Ivf v) legal in
    let count : length w.rows ≡ length v.rows = count-inner (Ivf v) legal in
    let label : ListRow → ℤ = λ r. r.label in
    let once = legal.direct direct k (omega (arith, lt, length-map v.rows label)) in
    let once' = after.direct direct k (omega (arith, lt, count, length-map w.rows label)) in
    let s = stands k v.nlist v.rows (λ i d lt. (legal.rows i d lt).list) (omega (arith, once)) in
    let same = list-kept v s.list s.below in
    entry-at w k s.list s.offset (omega (arith, once'))
    (subst (λ (rows : List ListRow). s.offset < length (labels rows)) (sym same) s.within)
    (subst (λ (rows : List ListRow). get_or (labels rows) s.offset (pos 0) ≡ pos k) (sym same) s.is)
    ∙ sym (entry-at v k s.list s.offset (omega (arith, once)) s.within s.is)

-- ---- the bytes

direct-same : (d : Bool) (m n : ℕ) (f g : ℕ → List ℕ) → m ≡ n
    → (d ≡ true → (k : ℕ) → k < n → f k ≡ g k)
    → bit_of d ∷ number (length (cond d (range_with_len 0 m) [])) ++ flat_map f (cond d (range_with_len 0 m) [])
    ≡ bit_of d ∷ number (length (cond d (range_with_len 0 n) [])) ++ flat_map g (cond d (range_with_len 0 n) [])
direct-same false m n f g e same = refl
direct-same true m n f g e same =
    let all = flat-same f g n 0 (λ k lt. same refl k (omega (arith, lt))) in
    rw (e, all) refl

direct-kept : (v : IvfValue) → IsLegalIvf v → direct_bytes (in_lists v) ≡ direct_bytes v
direct-kept v legal = direct-same v.direct (length (by_list v)) (length v.rows)
    (λ label. number (entry_of (in_lists v) label)) (λ label. number (entry_of v label))
    (count-inner (Ivf v) legal) (λ d k lt. ap number (entry-kept v legal d k lt))

sizes-same : (h m n : ℕ) (f g s t : List ℕ) → m ≡ n → f ≡ g → s ≡ t
    → cond (nat_lt h m) f (codes "sprs" ++ number (2 * m) ++ s)
    ≡ cond (nat_lt h n) g (codes "sprs" ++ number (2 * n) ++ t)
sizes-same h m n f g s t a b c = rw (a, b, c) refl

sizes-kept : (v : IvfValue) → sizes_bytes (in_lists v) ≡ sizes_bytes v
sizes-kept v =
    let w = in_lists v in
    let size = λ (k : ℕ) (lt : k < v.nlist). ap (λ (rows : List ListRow). number (length rows)) (list-kept v k lt) in
    let full = flat-same (size_bytes w) (size_bytes v) v.nlist 0 (λ k lt. size k (omega (arith, lt))) in
    let sparse : flat_map (λ list. number list ++ size_bytes w list) (filled w)
    ≡ flat_map (λ list. number list ++ size_bytes v list) (filled v) =
    ap (flat_map (λ list. number list ++ size_bytes w list)) (filled-kept v)
    ∙ flat-filled v (λ list. number list ++ size_bytes w list) (λ list. number list ++ size_bytes v list)
    (λ k lt. ap (λ (bytes : List ℕ). number k ++ bytes) (size k lt)) in
    sizes-same (v.nlist / 2) (length (filled w)) (length (filled v))
    (codes "full" ++ number v.nlist ++ flat_map (size_bytes w) (range_with_len 0 v.nlist))
    (codes "full" ++ number v.nlist ++ flat_map (size_bytes v) (range_with_len 0 v.nlist))
    (flat_map (λ list. number list ++ size_bytes w list) (filled w))
    (flat_map (λ list. number list ++ size_bytes v list) (filled v)) (ap length (filled-kept v))
    (ap (λ (bytes : List ℕ). codes "full" ++ number v.nlist ++ bytes) full) sparse

rows-kept : (v : IvfValue) → flat_map (λ list. list_bytes (on_list (in_lists v) list)) (filled (in_lists v))
    ≡ flat_map (λ list. list_bytes (on_list v list)) (filled v)
rows-kept v =
    ap (flat_map (λ list. list_bytes (on_list (in_lists v) list))) (filled-kept v)
    ∙ flat-filled v (λ list. list_bytes (on_list (in_lists v) list)) (λ list. list_bytes (on_list v list))
    (λ k lt. ap list_bytes (list-kept v k lt))

-- what is written of an IVF behind its quantizer
abbrev pub rest_bytes : IvfValue → List ℕ
rest_bytes v = direct_bytes v ++ codes "ilar" ++ number v.nlist ++ number (v.dim / 8) ++ sizes_bytes v
    ++ flat_map (λ list. list_bytes (on_list v list)) (filled v)

whole-same : (v : IvfValue) (m n : ℕ) (a b x y r s : List ℕ) → m ≡ n → a ≡ b → x ≡ y → r ≡ s
    → codes "IBwF" ++ head v.dim m (is_trained_inner (Ivf v)) ++ number v.nlist ++ number v.nprobe
    ++ flat_bytes v.dim v.centroids ++ a ++ codes "ilar" ++ number v.nlist ++ number (v.dim / 8) ++ x ++ r
    ≡ codes "IBwF" ++ head v.dim n (is_trained_inner (Ivf v)) ++ number v.nlist ++ number v.nprobe
    ++ flat_bytes v.dim v.centroids ++ b ++ codes "ilar" ++ number v.nlist ++ number (v.dim / 8) ++ y ++ s
whole-same v m n a b x y r s c d e f = rw (c, d, e, f) refl

-- what is written of an IVF is what stands for it once it is settled
pub bytes-kept : (v : IvfValue) → IsLegalIvf v → ivf_bytes v ≡ inner_bytes (settled_inner (Ivf v))
bytes-kept v legal = sym (whole-same v (length (by_list v)) (length v.rows)
    (direct_bytes (in_lists v)) (direct_bytes v) (sizes_bytes (in_lists v)) (sizes_bytes v)
    (flat_map (λ list. list_bytes (on_list (in_lists v) list)) (filled (in_lists v)))
    (flat_map (λ list. list_bytes (on_list v list)) (filled v))
    (count-inner (Ivf v) legal) (direct-kept v legal) (sizes-kept v) (rows-kept v))

front-rest : (x a b c d e f : List ℕ)
    → x ++ (a ++ b ++ c ++ d ++ e ++ f) ≡ x ++ a ++ b ++ c ++ d ++ e ++ f
front-rest x a b c d e f = simp append_assoc

rest-array : (a b c d e f : List ℕ) → (a ++ (b ++ c ++ d ++ e)) ++ f ≡ a ++ b ++ c ++ d ++ e ++ f
rest-array a b c d e f = simp append_assoc

-- the parts of an IVF
pub ivf_parts : (v : IvfValue) (q : CodeList) (d n lists probes : ℕ) (flag : Bool) → d ≡ v.dim → n ≡ length v.rows
    → flag ≡ is_trained_inner (Ivf v) → lists ≡ v.nlist → probes ≡ v.nprobe
    → q ≡ record { dim = v.dim; codes = v.centroids }
    → codes "IBwF" ++ head d n flag ++ number lists ++ number probes ++ flat_bytes q.dim q.codes ++ (rest_bytes v)
    ≡ ivf_bytes v
ivf_parts v q d n lists probes flag a b c e f k =
    front-rest (codes "IBwF" ++ head d n flag ++ number lists ++ number probes ++ flat_bytes q.dim q.codes)
    (direct_bytes v) (codes "ilar") (number v.nlist) (number (v.dim / 8)) (sizes_bytes v)
    (flat_map (λ list. list_bytes (on_list v list)) (filled v))
    ∙ rw (a, b, c, e, f, k) refl

pub rest_parts : (v : IvfValue)
    → (direct_bytes v ++ (codes "ilar" ++ number v.nlist ++ number (v.dim / 8) ++ sizes_bytes v))
    ++ flat_map (λ list. list_bytes (on_list v list)) (filled v) ≡ rest_bytes v
rest_parts v = rest-array (direct_bytes v) (codes "ilar") (number v.nlist) (number (v.dim / 8)) (sizes_bytes v)
    (flat_map (λ list. list_bytes (on_list v list)) (filled v))

-- ---- the rows of a list, run by run

pub list_codes : (us : List ListRow) → code_bytes (map row_of us) ≡ flat_map (λ row. row.code) us
list_codes us = flat_map-map (λ (row : Row). row.code) row_of us

-- the bytes of the labels of some rows
abbrev pub label_bytes : List Row → List ℕ
label_bytes rows = ids_bytes (map (λ row. row.label) rows)

pub list_labels : (us : List ListRow) → label_bytes (map row_of us) ≡ ids_bytes (labels us)
list_labels us = ap ids_bytes (go us)
  where
    go : (us : List ListRow) → map (λ (row : Row). row.label) (map row_of us) ≡ labels us
    go [] = refl
    go (u ∷ us) = ap (λ (zs : List ℤ). u.label ∷ zs) (go us)

labels-in : (size : ℕ) (ls : List ℤ) (bytes : List ℕ) → map (λ (row : Row). row.label) (rows_in size ls bytes) ≡ ls
unfolding rows_in
labels-in size [] bytes = refl
labels-in size (l ∷ ls) bytes = ap (λ (zs : List ℤ). l ∷ zs) (labels-in size ls (drop size bytes))

-- the labels of a run, and those of the rows behind it
pub run_labels : (rows : List Row) (from size : ℕ) (ls : List ℤ) (bytes : List ℕ) → IsRun rows from size ls bytes
    → label_bytes (drop from rows) ≡ ids_bytes ls ++ label_bytes (drop (from + length ls) rows)
run_labels rows from size ls bytes run =
    let n = length ls in
    let label : Row → ℤ = λ row. row.label in
    let own : map label (take n (drop from rows)) ≡ ls = ap (map label) (sym run.rows) ∙ labels-in size ls bytes in
    ap label_bytes (sym (take-append-drop n (drop from rows)))
    ∙ ap ids_bytes (map-append label (take n (drop from rows)) (drop n (drop from rows)))
    ∙ ids_append (map label (take n (drop from rows))) (map label (drop n (drop from rows)))
    ∙ ap (λ (zs : List ℤ). ids_bytes zs ++ label_bytes (drop n (drop from rows))) own
    ∙ ap (λ (rs : List Row). ids_bytes ls ++ label_bytes rs) (drop-drop n from rows)

pub table-is : (v : IvfValue) (list : ℕ) → table_list v.rows list ≡ map row_of (on_list v list)
unfolding on_list
table-is v list = refl

-- ---- the sizes of the lists

pub full_parts : (v : IvfValue) (n : ℕ) → n ≡ v.nlist → v.nlist / 2 < length (filled v)
    → (codes "full" ++ number n) ++ flat_map (size_bytes v) (range_with_len 0 v.nlist) ≡ sizes_bytes v
full_parts v n e many = (let t = lt-ltb (v.nlist / 2) (length (filled v)) many in rw (e, t) refl)

pub sparse_parts : (v : IvfValue) (n : ℕ) → n ≡ 2 * length (filled v) → length (filled v) ≤ v.nlist / 2
    → (codes "sprs" ++ number n) ++ flat_map (λ list. number list ++ size_bytes v list) (filled v) ≡ sizes_bytes v
sparse_parts v n e few = (let t = le-ltb (v.nlist / 2) (length (filled v)) few in rw (e, t) refl)

-- the number and the size of a list, unless it is empty
abbrev pub filled_size : IvfValue → ℕ → List ℕ
filled_size v list = cond (nat_lt 0 (length (on_list v list))) (number list ++ size_bytes v list) []

pub sizes_filled : (v : IvfValue) → flat_map (filled_size v) (range_with_len 0 v.nlist)
    ≡ flat_map (λ list. number list ++ size_bytes v list) (filled v)
unfolding filled
sizes_filled v = sym (flat-filter (λ list. number list ++ size_bytes v list)
    (λ list. nat_lt 0 (length (on_list v list))) (range_with_len 0 v.nlist))

pub filled_next : (v : IvfValue) (n : ℕ)
    → length (filter (λ list. nat_lt 0 (length (on_list v list))) (range_with_len 0 (n + 1)))
    ≡ length (filter (λ list. nat_lt 0 (length (on_list v list))) (range_with_len 0 n))
    + cond (nat_lt 0 (length (on_list v n))) 1 0
filled_next v n = ap (λ (k : ℕ). length (filter (λ list. nat_lt 0 (length (on_list v list))) (range_with_len 0 k)))
    (let s : n + 1 ≡ suc n = omega arith in s)
    ∙ count-next (λ list. nat_lt 0 (length (on_list v list))) n 0
    ∙ (let e : 0 + n ≡ n = omega arith in
    ap (λ (k : ℕ). length (filter (λ list. nat_lt 0 (length (on_list v list))) (range_with_len 0 n))
    + cond (nat_lt 0 (length (on_list v k))) 1 0) e)

-- ---- the rows of the lists

none-listed : (rows : List ListRow) → cond (nat_lt 0 (length rows)) (list_bytes rows) [] ≡ list_bytes rows
none-listed [] = refl
none-listed (row ∷ rows) = (let t = lt-ltb 0 (length (row ∷ rows)) (omega arith) in rw t refl)

-- lists that are empty have no bytes
pub lists_filled : (v : IvfValue) → flat_map (λ list. list_bytes (on_list v list)) (range_with_len 0 v.nlist)
    ≡ flat_map (λ list. list_bytes (on_list v list)) (filled v)
unfolding filled
lists_filled v =
    let f : ℕ → List ℕ = λ list. list_bytes (on_list v list) in
    let p : ℕ → Bool = λ list. nat_lt 0 (length (on_list v list)) in
    sym (flat-filter f p (range_with_len 0 v.nlist)
    ∙ flat-same (λ k. cond (p k) (f k) []) f v.nlist 0 (λ k lt. none-listed (on_list v k)))

-- ---- the labels that have an entry

range-is : (d : Bool) (n count : ℕ) → count ≡ length (cond d (range_with_len 0 n) [])
    → cond d (range_with_len 0 n) [] ≡ range_with_len 0 count
range-is true n count e = (let l : n ≡ count = sym (e ∙ length-range_with_len 0 n) in ap (range_with_len 0) l)
range-is false n count e = (let z : count ≡ 0 = e in sym (ap (range_with_len 0) z))

pub mapped_range : (v : IvfValue) (count : ℕ) → count ≡ length (mapped v) → mapped v ≡ range_with_len 0 count
mapped_range v count e = range-is v.direct (length v.rows) count e

within-is : (d : Bool) (n label : ℕ) → label < length (cond d (range_with_len 0 n) []) → (d ≡ true) × (label < n)
within-is true n label lt = (refl, omega (arith, lt, length-range_with_len 0 n))
within-is false n label lt = absurd (omega (arith, lt))

pub mapped_within : (v : IvfValue) (label : ℕ) → label < length (mapped v)
    → (v.direct ≡ true) × (label < length v.rows)
mapped_within v label lt = within-is v.direct (length v.rows) label lt

-- one more part was put behind those so far
pub one_more : (f : ℕ → List ℕ) (n : ℕ) (part : List ℕ) (start now next : Written)
    → now ≡ behind (flat_map f (range_with_len 0 n)) start → next ≡ behind part now → part ≡ f n
    → next ≡ behind (flat_map f (range_with_len 0 (n + 1))) start
one_more f n part start now next so_far e is =
    and_then (flat_map f (range_with_len 0 n)) part start now next so_far e
    ∙ ap (λ (bytes : List ℕ). behind (flat_map f (range_with_len 0 n) ++ bytes) start) is
    ∙ ap (λ (bytes : List ℕ). behind bytes start) (sym (flat_map-range_next f n))

-- ---- the other parts

pub direct_parts : (v : IvfValue) (flag count : ℕ) → flag ≡ bit_of v.direct → count ≡ length (mapped v)
    → ((flag ∷ []) ++ number count) ++ flat_map (λ label. number (entry_of v label)) (mapped v) ≡ direct_bytes v
direct_parts v flag count a b = rw (a, b) refl

pub array_parts : (v : IvfValue) (lists size : ℕ) → lists ≡ v.nlist → size ≡ v.dim / 8
    → codes "ilar" ++ number lists ++ number size ++ sizes_bytes v
    ≡ codes "ilar" ++ number v.nlist ++ number (v.dim / 8) ++ sizes_bytes v
array_parts v lists size a b = rw (a, b) refl

pub size_none : (v : IvfValue) (list len : ℕ) → len ≡ length (on_list v list) → len ≡ 0 → [] ≡ filled_size v list
size_none v list len a b = (let e : length (on_list v list) ≡ 0 = sym a ∙ b in rw e refl)

pub size_some : (v : IvfValue) (list n len : ℕ) → n ≡ list → len ≡ length (on_list v list) → 0 < len
    → number n ++ number len ≡ filled_size v list
size_some v list n len e a some =
    let t = lt-ltb 0 (length (on_list v list)) (omega (arith, a, some)) in
    rw (t, e, a) refl

-- the lists that are not empty, with one more list
pub filled_more : (v : IvfValue) (n len count after : ℕ) → len ≡ length (table_list v.rows n)
    → count ≡ length (filter (λ list. nat_lt 0 (length (on_list v list))) (range_with_len 0 n))
    → ((0 < len) × (after ≡ count + 1)) ⊎ ((len ≤ 0) × (after ≡ count))
    → after ≡ length (filter (λ list. nat_lt 0 (length (on_list v list))) (range_with_len 0 (n + 1)))
filled_more v n len count after is e more =
    let long : len ≡ length (on_list v n) = is ∙ ap length (table-is v n) ∙ length-map (on_list v n) row_of in
    elim more [
      | inl (some, a) ↦
          let t = lt-ltb 0 (length (on_list v n)) (omega (arith, some, long)) in
          a ∙ ap (λ (k : ℕ). k + 1) e ∙ sym (filled_next v n ∙ rw t refl)
      | inr (none, a) ↦
          let f = le-ltb 0 (length (on_list v n)) (omega (arith, none, long)) in
          a ∙ e ∙ sym (filled_next v n ∙ rw f (omega arith))
    ]

pub mapped_all : (v : IvfValue) (b : Bool) (n : ℕ) → b ≡ v.direct → b ≡ true → n ≡ length v.rows
    → n ≡ length (mapped v)
mapped_all v b n is on e =
    let d : v.direct ≡ true = sym is ∙ on in
    rw d (e ∙ sym (length-range_with_len 0 (length v.rows)))
