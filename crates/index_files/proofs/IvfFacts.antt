-- What the fields of an IVF say together of its value.
use Rattle.std.proofs.Common.{◌≡◌, ◌⊎◌, inl, inr, ℕ, suc, ◌+◌, ◌*◌, ◌/◌, ◌^◌, ◌<◌}
use Rattle.std.proofs.Common.{◌≤◌, ℤ, pos, negsuc, Bool, true, false, eqb, ltb, ◌||◌, ◌&&◌, List, []}
use Rattle.std.proofs.Common.{◌∷◌, length, map, All, Option, Some, is_some, refl, sym, ap, subst, ◌∙◌}
use Rattle.std.proofs.Common.{arith}
use Rattle.std.specs.Prelude.{slice_index, nat_abs}
use Rattle.std.proofs.lemmas.Bool.{cases_Bool, cases_eq, eqb-true, ltb-true, lt-ltb, le-ltb, not-false, not_from_true}
use Rattle.std.proofs.lemmas.Bool.{or_parts, or_from}
use Rattle.std.proofs.lemmas.Int.{ints}
use Rattle.std.proofs.lemmas.List.{length-append, length-map, map-append}
use Rattle.std.proofs.lemmas.List.Sums.{sum_by-cons}
use Rattle.std.proofs.lemmas.List.Elements.{All-nil, All-cons, All-head, All-tail, All-append}
use Rattle.bcodes.specs.Value.{Row, ListRow, IvfValue, HasBytes, IsListRow, IsPlace, row_of}
use Rattle.file_parts.specs.declared.role.Role.{Role}
use Rattle.std.proofs.lemmas.List.FromFn.{length-range_with_len}
use Rattle.index_files.specs.Parts.{◌▸◌, Each, Number}
use Rattle.std.specs.List.{range_with_len}
use Rattle.index_files.specs.Groups.{concat, on_list, filled, entry_of}
use Rattle.ivf_index.specs.Direct.{entry}
use Rattle.index_files.specs.File.{SizesPart}
use Rattle.index_files.specs.FlatFormat.{is_inside, is_no_place}
use Rattle.index_files.specs.IvfFormat.{ListSize, rows_in, numbered_sizes}
use Rattle.index_files.proofs.Each.{Pairs, each-unmap}
use Rattle.index_files.proofs.ListGroups.{rows_at, Rising, AreOn, AreRows, Agree, IsOwn, numbers_of}
use Rattle.index_files.proofs.Sizes.{PairPart, sizes-are}
use Rattle.index_files.proofs.SizesForm.{FullForm, SparseForm, SizesRead}
use Rattle.index_files.proofs.Numbering.{label_count, count-other, count-append, labels, IsBelow, Known, Names}
use Rattle.index_files.proofs.ListRows.{IdPasses, Ids, RowsRead}

-- ---- places

pub place-found : (n : ℕ) (z : ℤ) → is_no_place n z ≡ false → IsBelow n z
place-found n (pos k) e = record { place = k; is = refl; less = ltb-true k n (not-false (ltb k n) (or_parts _ _ e).1) }
place-found n (negsuc k) e = absurd cc

pub place-again : (n : ℕ) (z : ℤ) → IsPlace n z → is_no_place n z ≡ false
place-again n (pos k) h = (let lt : k < n = (let m = h.most in omega (arith, ints, m)) in
    or_from _ _ (le-ltb k 0 (omega arith)) (not_from_true _ (lt-ltb k n lt)))
place-again n (negsuc k) h = absurd (let l = h.least in omega (arith, ints, l))

pub below-place : (n : ℕ) (z : ℤ) → IsBelow n z → IsPlace n z
below-place n z h = rw h.is (record {
  least = omega (arith, ints);
  most =
      (let lt = h.less in omega (arith, ints, lt));
})

-- ---- all rows

pub total-length : (ps : List ListSize) (rss : List (List ListRow)) → Pairs AreRows ps rss
    → length (concat rss) ≡ rows_in ps
total-length [] [] h = refl
total-length [] (rs ∷ rss) h = absurd h
total-length (p ∷ ps) [] h = absurd h
total-length (p ∷ ps) (rs ∷ rss) (own, h) =
    omega (
      arith,
      length-append rs (concat rss),
      own.count,
      total-length ps rss h,
      sum_by-cons (λ (p : ListSize). p.size) p ps,
    )

size-le : (p : ListSize) (ps : List ListSize) → p.size ≤ rows_in (p ∷ ps)
size-le p ps = omega (arith, sum_by-cons (λ (p : ListSize). p.size) p ps)

rest-le : (p : ListSize) (ps : List ListSize) → rows_in ps ≤ rows_in (p ∷ ps)
rest-le p ps = omega (arith, sum_by-cons (λ (p : ListSize). p.size) p ps)

module _ (role : Role) (count : ℕ) (direct : Option (List ℕ)) where
  one-legal : (d nlist list offset : ℕ) (rows : List ListRow) → AreOn list rows → list < nlist
      → All (λ row. HasBytes (d / 8) row.code) rows → Ids role count direct list offset rows
      → All (IsListRow d nlist) rows
  one-legal d nlist list offset [] on lt code ids = All-nil (IsListRow d nlist)
  one-legal d nlist list offset (row ∷ rows) on lt code ids =
      let here : row.list ≡ list = All-head (λ (r : ListRow). r.list ≡ list) row rows on in
      let one : IsListRow d nlist row = record {
        label = ids.0.fits;
        code =
            All-head (λ (r : ListRow). HasBytes (d / 8) r.code) row rows code;
        list = omega (arith, here, lt);
      } in
      All-cons (IsListRow d nlist) row rows one
      (one-legal d nlist list (offset + 1) rows (All-tail (λ (r : ListRow). r.list ≡ list) row rows on) lt
      (All-tail (λ (r : ListRow). HasBytes (d / 8) r.code) row rows code) ids.1)

  pub rows-legal : (d nlist least : ℕ) (ps : List ListSize) (rss : List (List ListRow)) → Rising least nlist ps
      → Pairs (RowsRead role count direct (d / 8)) ps rss → All (IsListRow d nlist) (concat rss)
  rows-legal d nlist least [] [] up h = All-nil (IsListRow d nlist)
  rows-legal d nlist least [] (rs ∷ rss) up h = absurd h
  rows-legal d nlist least (p ∷ ps) [] up h = absurd h
  rows-legal d nlist least (p ∷ ps) (rs ∷ rss) (from, to, some, up) (r, h) =
      All-append (IsListRow d nlist) rs (concat rss) (one-legal d nlist p.list 0 rs r.are.on to r.code r.ids)
      (rows-legal d nlist (p.list + 1) ps rss up h)

  -- where ids are places
  module _ (bounded : (is_inside role || is_some direct) ≡ true) where
    one-place : (list offset : ℕ) (row : ListRow) → IdPasses role count direct list offset row.label
        → IsBelow count row.label
    one-place list offset row h = place-found count row.label (go (is_inside role || is_some direct) bounded h.place)
      where
        go : (a : Bool) {b : Bool} → a ≡ true → (a && b) ≡ false → b ≡ false
        go true e f = f
        go false e f = absurd cc

    group-places : (list offset : ℕ) (rows : List ListRow) → Ids role count direct list offset rows
        → All (λ row. IsPlace count row.label) (map row_of rows)
    group-places list offset [] h = All-nil (λ (row : Row). IsPlace count row.label)
    group-places list offset (row ∷ rows) h =
        All-cons (λ (row : Row). IsPlace count row.label) (row_of row) (map row_of rows)
        (below-place count row.label (one-place list offset row h.0)) (group-places list (offset + 1) rows h.1)

    pub all-places : (size : ℕ) (ps : List ListSize) (rss : List (List ListRow))
        → Pairs (RowsRead role count direct size) ps rss
        → All (λ row. IsPlace count row.label) (map row_of (concat rss))
    all-places size [] [] h = All-nil (λ (row : Row). IsPlace count row.label)
    all-places size [] (rs ∷ rss) h = absurd h
    all-places size (p ∷ ps) [] h = absurd h
    all-places size (p ∷ ps) (rs ∷ rss) (r, h) =
        let both = All-append (λ (row : Row). IsPlace count row.label) (map row_of rs) (map row_of (concat rss))
        (group-places p.list 0 rs r.ids) (all-places size ps rss h) in
        subst (All (λ (row : Row). IsPlace count row.label)) (sym (map-append row_of rs (concat rss))) both

-- ---- under a direct map

module _ (role : Role) (count : ℕ) (entries : List ℕ) where
  bounded-so : (role : Role) → (is_inside role || is_some (Some entries)) ≡ true
  bounded-so role = elim (cases_Bool (is_inside role)) [ inl e ↦ rw e refl | inr e ↦ rw e refl ]

  names-of : (list offset : ℕ) (rows : List ListRow) → Ids role count (Some entries) list offset rows
      → Names entries count list offset rows
  names-of list offset [] h = tt
  names-of list offset (row ∷ rows) h =
      let b = one-place role count (Some entries) (bounded-so role) list offset row h.0 in
      let is : eqb (slice_index entries (nat_abs row.label)) (entry list offset) ≡ true = not-false _ h.0.own in
      let same : slice_index entries b.place ≡ entry list offset =
      eqb-true _ _ (subst (λ z. eqb (slice_index entries (nat_abs z)) (entry list offset) ≡ true) b.is is) in
      ((b.place, b.is, b.less, same), names-of list (offset + 1) rows h.1)

  pub all-names : (size : ℕ) (ps : List ListSize) (rss : List (List ListRow)) → rows_in ps ≤ 2 ^ 32
      → Pairs (RowsRead role count (Some entries) size) ps rss
      → Pairs (λ p rs. Names entries count p.list 0 rs × (length rs ≤ 2 ^ 32)) ps rss
  all-names size [] [] most h = tt
  all-names size [] (rs ∷ rss) most h = absurd h
  all-names size (p ∷ ps) [] most h = absurd h
  all-names size (p ∷ ps) (rs ∷ rss) most (r, h) = (
    (names-of p.list 0 rs r.ids, omega (arith, r.are.count, size-le p ps, most)),
    all-names size ps rss (omega (arith, rest-le p ps, most)) h,
  )

  -- the entry under a row's label is the one of the row
  named-on : (v : IvfValue) (list offset k : ℕ) (rows : List ListRow) → Names entries count list offset rows
      → Known v count list offset rows → label_count k (labels rows) ≡ 0
      ⊎ (slice_index entries k ≡ entry_of v k)
  named-on v list offset k [] h known = inl refl
  named-on v list offset k (row ∷ rows) ((i, e, lt, is), h) (one, known) =
      elim (cases_eq i k) [
        | inl same ↦ inr (subst (λ j. slice_index entries j ≡ entry_of v j) same (is ∙ sym (one i lt e)))
        | inr ne ↦ elim (named-on v list (offset + 1) k rows h known) [
          | inl none ↦ inl (ap (λ (z : ℤ). label_count k (z ∷ labels rows)) e
              ∙ count-other k i (labels rows) ne ∙ none)
          | inr found ↦ inr found
        ]
      ]

  pub named : (v : IvfValue) (k : ℕ) (ps : List ListSize) (rss : List (List ListRow))
      → Pairs (λ p rs. Names entries count p.list 0 rs × (length rs ≤ 2 ^ 32)) ps rss
      → Pairs (λ p rs. Known v count p.list 0 rs) ps rss
      → label_count k (labels (concat rss)) ≡ 0 ⊎ (slice_index entries k ≡ entry_of v k)
  named v k [] [] h known = inl refl
  named v k [] (rs ∷ rss) h known = absurd h
  named v k (p ∷ ps) [] h known = absurd h
  named v k (p ∷ ps) (rs ∷ rss) (one, h) (here, known) =
      elim (named-on v p.list 0 k rs one.0 here) [
        | inr found ↦ inr found
        | inl none ↦ elim (named v k ps rss h known) [
          | inr found ↦ inr found
          | inl rest ↦ inl (ap (label_count k) (map-append (λ (r : ListRow). r.label) rs (concat rss))
              ∙ count-append k (labels rs) (labels (concat rss)) ∙ omega (arith, none, rest))
        ]
      ]

-- numbers that are those of a function
pub numbers-spelled : (g : ℕ → ℕ) (a : ℕ) (ns bytes : List ℕ)
    → ((k : ℕ) → k < length ns → slice_index ns k ≡ g (a + k)) → Each (Number 8) ns bytes
    → Each (λ k. Number 8 (g k)) (range_with_len a (length ns)) bytes
numbers-spelled g a [] bytes same each = each
numbers-spelled g a (n ∷ ns) bytes same (front, back, parts, one, others) =
    let here : n ≡ g a = same 0 (omega arith) ∙ (let e : a + 0 ≡ a = omega arith in ap g e) in
    let next : (k : ℕ) → k < length ns → slice_index ns k ≡ g ((a + 1) + k) =
    λ k lt. same (suc k) (omega (arith, lt)) ∙ (let e : a + suc k ≡ (a + 1) + k = omega arith in ap g e) in
    (front, back, parts, subst (λ m. Number 8 m front) here one, numbers-spelled g (a + 1) ns back next others)

-- ---- the sizes

pair-parts : (whole : List ListRow) (ps : List ListSize) (rss : List (List ListRow)) (bytes : List ℕ)
    → Pairs (IsOwn whole) ps rss → Pairs AreRows ps rss → Each PairPart ps bytes
    → Each (λ list. Number 8 list ▸ Number 8 (length (rows_at whole list))) (numbers_of ps) bytes
pair-parts whole [] [] bytes own are each = each
pair-parts whole [] (rs ∷ rss) bytes own are each = absurd own
pair-parts whole (p ∷ ps) [] bytes own are each = absurd own
pair-parts whole (p ∷ ps) (rs ∷ rss) bytes (own, owns) (are, ares) (
  front,
  back,
  parts,
  (f, b, q, list, size),
  others,
) =
    let len : length (rows_at whole p.list) ≡ p.size = ap length own ∙ are.count in (
      front,
      back,
      parts,
      (f, b, q, list, subst (λ n. Number 8 n b) (sym len) size),
      pair-parts whole ps rss back owns ares others,
    )

pub sizes-spelled : (v : IvfValue) (total : ℕ) (ps : List ListSize) (rss : List (List ListRow)) (bytes : List ℕ)
    → v.rows ≡ concat rss → filled v ≡ numbers_of ps → Pairs (IsOwn v.rows) ps rss → Pairs AreRows ps rss
    → SizesRead v.nlist total ps bytes → SizesPart v bytes
unfolding on_list
sizes-spelled v total ps rss bytes rows fill own are h = go h.form
  where
    count : length (filled v) ≡ length ps
    count = ap length fill ∙ length-map ps (λ (p : ListSize). p.list)

    go : FullForm v.nlist ps bytes ⊎ SparseForm v.nlist ps bytes → SizesPart v bytes
    go (inl (ss, len, is_ps, many, (f, b, p, is, (g, d, q, num, each)))) =
        let agree : Agree v.rows 0 rss = λ list le. ap (λ (rs : List ListRow). rows_at rs list) rows in
        let are' : Pairs AreRows (numbered_sizes 0 ss) rss =
        subst (λ (ps : List ListSize). Pairs AreRows ps rss) is_ps are in
        let sizes = sizes-are v.rows 0 ss rss are' agree in
        let whole : length (range_with_len 0 v.nlist) ≡ length ss = length-range_with_len 0 v.nlist ∙ sym len in
        let each' : Each (Number 8) (map (λ list. length (rows_at v.rows list)) (range_with_len 0 v.nlist)) d =
        subst (λ n. Each (Number 8) (map (λ list. length (rows_at v.rows list)) (range_with_len 0 n)) d) len
        (subst (λ (xs : List ℕ). Each (Number 8) xs d) sizes each) in
        inl (
          omega (arith, count, many),
          (
            f,
            b,
            p,
            is,
            (
              g,
              d,
              q,
              subst (λ n. Number 8 n g) (sym whole) num,
              each-unmap (Number 8) (λ list. length (rows_at v.rows list)) (range_with_len 0 v.nlist) d each',
            ),
          ),
        )
    go (inr (few, (f, b, p, is, (g, d, q, num, each)))) =
        let twice : 2 * length ps ≡ 2 * length (filled v) = omega (arith, count) in
        inr (
          omega (arith, count, few),
          (
            f,
            b,
            p,
            is,
            (
              g,
              d,
              q,
              subst (λ n. Number 8 n g) twice num,
              subst (λ (ls : List ℕ). Each (λ list. Number 8 list ▸ Number 8 (length (rows_at v.rows list))) ls
                  d) (sym fill) (pair-parts v.rows ps rss d own are each),
            ),
          ),
        )
