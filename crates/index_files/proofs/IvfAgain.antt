-- The other half of the law of IVF: a file of a value is read as it.
use Rattle.std.proofs.Common.{◌≡◌, ◌⊎◌, inl, inr, ℕ, zero, suc, ◌+◌, ◌-◌, ◌*◌, ◌/◌}
use Rattle.std.proofs.Common.{◌^◌, ◌<◌, ◌≤◌, ℤ, Bool, true, false, cond, eqb, ltb, not, ◌||◌}
use Rattle.std.proofs.Common.{◌&&◌, List, [], ◌∷◌, ◌++◌, length, map, get_or, All, Option, Some, None}
use Rattle.std.proofs.Common.{is_some, refl, sym, ap, subst, ◌∙◌, arith}
use Rattle.std.specs.Prelude.{nat_lt, nat_abs, slice_index, FitsSigned}
use Rattle.std.specs.Int.{w64}
use Rattle.std.specs.List.{filter, range_with_len}
use Rattle.std.proofs.lemmas.Bool.{cases_Bool, cases_eq, eqb-true, eq-eqb, ltb-true, le-ltb, le-leb, lt-leb, or_from}
use Rattle.std.proofs.lemmas.Bool.{not_from_true, and_from}
use Rattle.std.proofs.lemmas.List.{append-nil, length-map, get_or-map}
use Rattle.std.proofs.lemmas.List.Folds.{flat_map-map}
use Rattle.std.proofs.lemmas.List.Elements.{All-head, All-tail, All-filter, filter_passes}
use Rattle.bcodes.specs.Ranges.{load_limit}
use Rattle.bcodes.specs.Value.{CodeList, Row, ListRow, IvfValue, Inner, Ivf, HasBytes, IsNumbering, IsPlace, IsLegalIvf}
use Rattle.bcodes.specs.Value.{row_of, weight}
use Rattle.file_parts.specs.declared.role.Role.{Role}
use Rattle.file_parts.specs.declared.role.Role.TheVariants.{Outermost, Within, Quantizer}
use Rattle.file_parts.specs.Format.{Spells, ◌>>=◌, done}
use Rattle.file_parts.specs.Fields.{HeadValue, header, each}
use Rattle.file_parts.proofs.Reading.{spells-split, spells-join}
use Rattle.std.proofs.lemmas.List.FromFn.{length-range_with_len}
use Rattle.index_files.specs.Parts.{◌▸◌, Each, Number, Vector}
use Rattle.index_files.specs.Groups.{concat, on_list, filled, by_list, entry_of}
use Rattle.ivf_index.specs.Direct.{entry}
use Rattle.index_files.specs.File.{ListPart, DirectPart, SizesPart}
use Rattle.index_files.specs.FlatFormat.{flat_inside, is_inside, is_no_place}
use Rattle.index_files.specs.IvfFormat.{ListSize, rows_in, is_misplaced, direct_map, list_sizes, list_rows, ivf_body}
use Rattle.index_files.specs.declared.kind_name.KindName.TheVariants as named
use Rattle.index_files.specs.FileFormat.{body}
use Rattle.index_files.specs.Laws.{FitsRole, IsBodyRole}
use Rattle.index_files.proofs.FileLaws.{BodyRead, KindLaw, at_end, legal-header}
use Rattle.index_files.proofs.Heads.{IsHeader, header-again, pass_one}
use Rattle.index_files.proofs.FlatFiles.{is_dim-again}
use Rattle.index_files.proofs.Elements.{IsBytes}
use Rattle.index_files.proofs.Each.{Pairs, each-again, both-of, each-map}
use Rattle.index_files.proofs.ListGroups.{rows_at, Rising, AreOn, AreRows, IsOwn}
use Rattle.index_files.proofs.Sizes.{rising-from, PairPart}
use Rattle.index_files.proofs.SizesForm.{SizesRead, FullForm, SparseForm, sizes-again, numbered-filled}
use Rattle.index_files.proofs.Numbering.{label_count, labels, IsBelow, Known, known-all, numbering-again}
use Rattle.index_files.proofs.ListRows.{DirectRead, direct-again, Ids, RowsRead, rows-again}
use Rattle.index_files.proofs.IvfFacts.{place-found, place-again, below-place, total-length}
use Rattle.index_files.proofs.IvfLaw.{IvfRead, inside-again, ivf-found}

ivf-is : (v w : IvfValue) → Ivf v ≡ Ivf w → v ≡ w
ivf-is v w e = cc

get-count : (g : ℕ → ℕ) (n a k : ℕ) → k < n → get_or (map g (range_with_len a n)) k 0 ≡ g (a + k)
get-count g zero a k lt = absurd (omega (arith, lt))
get-count g (suc n) a zero lt = (let e : a ≡ a + 0 = omega arith in ap g e)
get-count g (suc n) a (suc k) lt = get-count g n (a + 1) k (omega (arith, lt))
    ∙ (let e : (a + 1) + k ≡ a + suc k = omega arith in ap g e)

abbrev pub size_at : List ListRow → ℕ → ListSize
size_at whole list = record { list = list; size = length (rows_at whole list) }

pub rising-filled : (whole : List ListRow) (n a : ℕ)
    → Rising a (a + n) (map (size_at whole)
    (filter (λ list. nat_lt 0 (length (rows_at whole list))) (range_with_len a n)))
rising-filled whole zero a = tt
rising-filled whole (suc n) a =
    let ih = rising-filled whole n (a + 1) in
    let move : (a + 1) + n ≡ a + suc n = omega arith in
    let up = subst (λ l. Rising (a + 1) l (map (size_at whole)
    (filter (λ list. nat_lt 0 (length (rows_at whole list))) (range_with_len (a + 1) n)))) move ih in
    elim (cases_Bool (ltb 0 (length (rows_at whole a)))) [
      | inl e ↦ rw e (omega arith, omega arith, ltb-true 0 (length (rows_at whole a)) e, up)
      | inr e ↦ rw e (rising-from a (a + 1) (a + suc n)
          (map (size_at whole) (filter (λ list. nat_lt 0 (length (rows_at whole list))) (range_with_len (a + 1) n)))
          up (omega arith))
    ]

on-filter : (list : ℕ) (rows : List ListRow) → AreOn list (rows_at rows list)
on-filter list rows k d lt = sym (eqb-true _ _ (filter_passes (λ (row : ListRow). eqb list row.list) rows k d lt))

pub are-filled : (whole : List ListRow) (lists : List ℕ)
    → Pairs AreRows (map (size_at whole) lists) (map (rows_at whole) lists)
are-filled whole [] = tt
are-filled whole (list ∷ lists) = (record { count = refl; on = on-filter list whole }, are-filled whole lists)

pub own-filled : (whole : List ListRow) (lists : List ℕ)
    → Pairs (IsOwn whole) (map (size_at whole) lists) (map (rows_at whole) lists)
own-filled whole [] = tt
own-filled whole (list ∷ lists) = (refl, own-filled whole lists)

-- ---- the direct map

abbrev pub direct_of : IvfValue → Option (List ℕ)
direct_of v = cond v.direct (Some (map (entry_of v) (range_with_len 0 (length v.rows)))) None

direct-is : (v : IvfValue) → is_some (direct_of v) ≡ v.direct
direct-is v = elim (cases_Bool v.direct) [ inl e ↦ rw e refl | inr e ↦ rw e refl ]

direct-part : (v : IvfValue) (bytes : List ℕ) → DirectPart v bytes
    → DirectRead (length v.rows) (direct_of v) bytes
unfolding entry_of on_list
direct-part v bytes h = elim (cases_Bool v.direct) [ inl e ↦ yes e (rw e at h) | inr e ↦ rw e (rw e at h) ]
  where
    yes : v.direct ≡ true → ◌▸◌ (Number 1 1)
        (Vector (λ label. Number 8 (entry_of v label)) (range_with_len 0 (length v.rows))) bytes
        → DirectRead (length v.rows) (direct_of v) bytes
    yes e (front, back, parts, num, (g, b, p, size, each)) =
        let len : length (map (entry_of v) (range_with_len 0 (length v.rows))) ≡ length v.rows =
        length-map (range_with_len 0 (length v.rows)) (entry_of v) ∙ length-range_with_len 0 (length v.rows) in
        let same : length (range_with_len 0 (length v.rows))
        ≡ length (map (entry_of v) (range_with_len 0 (length v.rows))) =
        sym (length-map (range_with_len 0 (length v.rows)) (entry_of v)) in
        rw e (
          len,
          (
            front,
            back,
            parts,
            num,
            (
              g,
              b,
              p,
              subst (λ n. Number 8 n g) same size,
              each-map (Number 8) (entry_of v) (range_with_len 0 (length v.rows)) b each,
            ),
          ),
        )

-- ---- the ids

or-true : (a b : Bool) → b ≡ true → (a || b) ≡ true
or-true true b e = refl
or-true false b e = e

misplaced : (b : Bool) (es : List ℕ) (wanted : ℕ) (z : ℤ)
    → (b ≡ true → slice_index es (nat_abs z) ≡ wanted)
    → is_misplaced (cond b (Some es) None) wanted z ≡ false
misplaced false es wanted z h = refl
misplaced true es wanted z h = not_from_true _ (eq-eqb _ _ (h refl))

-- a row whose label may stand in the file
pub record IsFine (bounded : Bool) (n d : ℕ) (row : ListRow) : Type 0 where
  pub fits : FitsSigned w64 row.label
  pub code : HasBytes (d / 8) row.code
  pub place : bounded ≡ true → IsPlace n row.label

module _ (role : Role) (v : IvfValue) where
  ids-on : (list offset : ℕ) (rows : List ListRow)
      → All (IsFine (is_inside role || is_some (direct_of v)) (length v.rows) v.dim) rows
      → (v.direct ≡ true → Known v (length v.rows) list offset rows)
      → Ids role (length v.rows) (direct_of v) list offset rows
  ids-on list offset [] fine known = tt
  ids-on list offset (row ∷ rows) fine known =
      let Fine = IsFine (is_inside role || is_some (direct_of v)) (length v.rows) v.dim in
      let one = All-head Fine row rows fine in (
        record {
          fits = one.fits;
          place = bound (is_inside role || is_some (direct_of v)) one.place;
          own =
              misplaced v.direct (map (entry_of v) (range_with_len 0 (length v.rows))) (entry list offset) row.label
              (λ is_mapped. same is_mapped (one.place
              (or-true (is_inside role) (is_some (direct_of v)) (direct-is v ∙ is_mapped))));
        },
        ids-on list (offset + 1) rows (All-tail Fine row rows fine) (λ e. (known e).1),
      )
    where
      bound : (b : Bool) → (b ≡ true → IsPlace (length v.rows) row.label)
          → (b && is_no_place (length v.rows) row.label) ≡ false
      bound false p = refl
      bound true p = place-again (length v.rows) row.label (p refl)

      same : v.direct ≡ true → IsPlace (length v.rows) row.label
          → slice_index (map (entry_of v) (range_with_len 0 (length v.rows))) (nat_abs row.label)
          ≡ entry list offset
      same is_mapped p =
          let b = place-found (length v.rows) row.label (place-again (length v.rows) row.label p) in
          let get : get_or (map (entry_of v) (range_with_len 0 (length v.rows))) b.place 0 ≡ entry_of v b.place =
          get-count (entry_of v) (length v.rows) 0 b.place b.less
          ∙ (let z : 0 + b.place ≡ b.place = omega arith in ap (entry_of v) z) in
          ap (λ (z : ℤ). get_or (map (entry_of v) (range_with_len 0 (length v.rows))) (nat_abs z) 0) b.is ∙ get
          ∙ (known is_mapped).0 b.place b.less b.is

  rows-fine : (whole : List ListRow) (lists : List ℕ)
      → All (IsFine (is_inside role || is_some (direct_of v)) (length v.rows) v.dim) whole
      → (v.direct ≡ true → Pairs (λ p rs. Known v (length v.rows) p.list 0 rs) (map (size_at whole) lists)
      (map (rows_at whole) lists)) → Pairs (RowsRead role (length v.rows) (direct_of v) (v.dim / 8))
      (map (size_at whole) lists) (map (rows_at whole) lists)
  rows-fine whole [] fine known = tt
  rows-fine whole (list ∷ lists) fine known =
      let Fine = IsFine (is_inside role || is_some (direct_of v)) (length v.rows) v.dim in
      let here = All-filter (λ (row : ListRow). eqb list row.list) Fine whole fine in (
        record {
          are = record { count = refl; on = on-filter list whole };
          code = λ k d lt. (here k d lt).code;
          ids =
              ids-on list 0 (rows_at whole list) here (λ e. (known e).0);
        },
        rows-fine whole lists fine (λ e. (known e).1),
      )

-- ---- headers

outer-head : (role : Role) (v : IvfValue) (flag : Bool) → IsBodyRole role → IsLegalIvf v → FitsRole role (Ivf v)
    → IsHeader role (record { dim = v.dim; count = length v.rows; flag = flag })
outer-head Outermost v flag r legal fits =
    legal-header v.dim 0 (length v.rows) (length v.centroids) flag legal.dim legal.load
outer-head (Within dim count) v flag r legal fits =
    let h = legal-header v.dim 0 (length v.rows) (length v.centroids) flag legal.dim legal.load in
    record {
      dim = h.dim;
      takes_dim = eq-eqb _ _ fits.same_dim;
      small = h.small;
      takes_count =
          eq-eqb _ _ fits.same_count;
      load = h.load;
    }
outer-head (Quantizer dim nlist rows f) v flag r legal fits = absurd r

quantizer-head : (v : IvfValue) (flag own : Bool) → IsLegalIvf v
    → (flag ≡ true → length v.centroids ≡ v.nlist)
    → IsHeader (Quantizer v.dim v.nlist (length v.rows) flag)
    (record { dim = v.dim; count = length v.centroids; flag = own })
quantizer-head v flag own legal means =
    let n = length v.centroids in
    let le : (length v.rows + n) * (v.dim / 8 + 16) ≤ load_limit = weighed (length v.rows) n legal.load in
    let alone : n * 16 ≤ (length v.rows + n) * (v.dim / 8 + 16) = grind arith in
    let most : n < 2 ^ 63 = omega (arith, le, alone) in
    record {
      dim = is_dim-again v.dim legal.dim;
      takes_dim = eq-eqb v.dim v.dim refl;
      small = lt-leb _ _ most;
      takes_count = and_from _ _ (le-leb _ _ legal.held) (whole flag means);
      load = le-ltb _ _ le;
    }
  where
    weighed : (a b : ℕ) → weight v.dim 0 a b ≤ load_limit → (a + b) * (v.dim / 8 + 16) ≤ load_limit
    weighed a b le = (let e : (a + b) * (v.dim / 8 + 16) ≡ a * (v.dim / 8 + 16) + b * (v.dim / 8 + 16) =
        grind arith in omega (arith, le, e))

    full : length v.centroids ≡ v.nlist → (c : Bool) → (eqb (length v.centroids) v.nlist || c) ≡ true
    full e c = (let k = eq-eqb (length v.centroids) v.nlist e in rw k refl)

    none : length v.rows ≡ 0 → (eqb (length v.centroids) v.nlist || (not false && eqb (length v.rows) 0)) ≡ true
    none e = or-true (eqb (length v.centroids) v.nlist) _ (eq-eqb (length v.rows) 0 e)

    whole : (f : Bool) → (f ≡ true → length v.centroids ≡ v.nlist)
        → (eqb (length v.centroids) v.nlist || (not f && eqb (length v.rows) 0)) ≡ true
    whole true means = full (means refl) _
    whole false means = elim (cases_eq (length v.rows) 0) [
      | inl e ↦ none e
      | inr ne ↦ full (legal.filled (omega (arith, ne))) _
    ]

-- ---- the sizes

module _ (v : IvfValue) where
  sizes_of : List ListSize
  sizes_of = map (size_at v.rows) (filled v)

  groups_of : List (List ListRow)
  groups_of = map (rows_at v.rows) (filled v)

  together-again : by_list v ≡ v.rows → concat groups_of ≡ v.rows
  unfolding on_list sizes_of groups_of
  together-again by = flat_map-map (λ (rs : List ListRow). rs) (rows_at v.rows) (filled v) ∙ by

  total-again : by_list v ≡ v.rows → rows_in sizes_of ≡ length v.rows
  unfolding sizes_of groups_of
  total-again by = sym (total-length (map (size_at v.rows) (filled v)) (map (rows_at v.rows) (filled v))
      (are-filled v.rows (filled v))) ∙ ap length (together-again by)

  pairs-again : (lists : List ℕ) (bytes : List ℕ)
      → Each (λ list. Number 8 list ▸ Number 8 (length (rows_at v.rows list))) lists bytes
      → Each PairPart (map (size_at v.rows) lists) bytes
  pairs-again lists bytes h = each-map PairPart (size_at v.rows) lists bytes h

  sizes-read : by_list v ≡ v.rows → (bytes : List ℕ) → SizesPart v bytes
      → SizesRead v.nlist (length v.rows) sizes_of bytes
  unfolding on_list filled sizes_of
  sizes-read by bytes h = record { rising = up; total_is = total-again by; form = go h }
    where
      up : Rising 0 v.nlist (map (size_at v.rows) (filled v))
      up = (let e : 0 + v.nlist ≡ v.nlist = omega arith in
          subst (λ n. Rising 0 n (map (size_at v.rows) (filled v))) e (rising-filled v.rows v.nlist 0))

      count : length (map (size_at v.rows) (filled v)) ≡ length (filled v)
      count = length-map (filled v) (size_at v.rows)

      go : SizesPart v bytes → FullForm v.nlist (map (size_at v.rows) (filled v)) bytes
          ⊎ SparseForm v.nlist (map (size_at v.rows) (filled v)) bytes
      go (inl (many, (f, b, p, is, (g, d, q, num, parts)))) =
          let len : length (map (λ list. length (rows_at v.rows list)) (range_with_len 0 v.nlist)) ≡ v.nlist =
          length-map (range_with_len 0 v.nlist) (λ list. length (rows_at v.rows list))
          ∙ length-range_with_len 0 v.nlist in
          inl (
            map (λ list. length (rows_at v.rows list)) (range_with_len 0 v.nlist),
            len,
            sym (numbered-filled (λ list. length (rows_at v.rows list)) v.nlist 0),
            omega (arith, count, many),
            (
              f,
              b,
              p,
              is,
              (
                g,
                d,
                q,
                subst (λ n. Number 8 n g) (length-range_with_len 0 v.nlist ∙ sym len) num,
                each-map (Number 8) (λ list. length (rows_at v.rows list)) (range_with_len 0 v.nlist) d parts,
              ),
            ),
          )
      go (inr (few, (f, b, p, is, (g, d, q, num, parts)))) =
          let twice : 2 * length (filled v) ≡ 2 * length (map (size_at v.rows) (filled v)) = omega (arith, count) in
          inr (
            omega (arith, count, few),
            (
              f,
              b,
              p,
              is,
              (g, d, q, subst (λ n. Number 8 n g) twice num, pairs-again (filled v) d parts),
            ),
          )

-- ---- the rows

pub all-unmap : {X Y : Type 0} (P : Y → Type 0) (f : X → Y) (xs : List X) → All P (map f xs)
    → All (λ x. P (f x)) xs
all-unmap P f xs h k d lt = subst P (get_or-map f xs k d (f d) lt) (h k (f d) (omega (arith, length-map xs f, lt)))

inside-places : (role : Role) (v : IvfValue) → is_inside role ≡ true → FitsRole role (Ivf v)
    → All (λ row. IsPlace (length v.rows) row.label) v.rows
inside-places Outermost v e fits = absurd cc
inside-places (Within dim count) v e fits =
    subst (λ n. All (λ (row : ListRow). IsPlace n row.label) v.rows) (sym fits.same_count)
    (all-unmap (λ (row : Row). IsPlace count row.label) row_of v.rows fits.labels)
inside-places (Quantizer dim nlist rows flag) v e fits = absurd cc

numbered-places : (v : IvfValue) → IsNumbering (labels v.rows)
    → All (λ row. IsPlace (length v.rows) row.label) v.rows
numbered-places v h =
    let len : length (labels v.rows) ≡ length v.rows = length-map v.rows (λ (r : ListRow). r.label) in
    let all = all-unmap (IsBelow (length (labels v.rows))) (λ (r : ListRow). r.label) v.rows
    (numbering-again (labels v.rows) h) in
    λ k d lt. below-place (length v.rows) _ (subst (λ n. IsBelow n (get_or v.rows k d).label) len (all k d lt))

bounded-places : (role : Role) (v : IvfValue) → IsLegalIvf v → FitsRole role (Ivf v)
    → (is_inside role || is_some (direct_of v)) ≡ true → All (λ row. IsPlace (length v.rows) row.label) v.rows
bounded-places role v legal fits e = go (is_inside role) refl e
  where
    go : (b : Bool) → is_inside role ≡ b → (b || is_some (direct_of v)) ≡ true
        → All (λ row. IsPlace (length v.rows) row.label) v.rows
    go true is e = inside-places role v is fits
    go false is e = numbered-places v (legal.direct (sym (direct-is v) ∙ e))

all-fine : (role : Role) (v : IvfValue) → IsLegalIvf v → FitsRole role (Ivf v)
    → All (IsFine (is_inside role || is_some (direct_of v)) (length v.rows) v.dim) v.rows
all-fine role v legal fits k d lt =
    let one = legal.rows k d lt in
    record { fits = one.label; code = one.code; place = λ e. bounded-places role v legal fits e k d lt }

-- ---- all

rows-read : (role : Role) (v : IvfValue) → IsLegalIvf v → FitsRole role (Ivf v) → by_list v ≡ v.rows
    → (bytes : List ℕ) → Each (λ list. ListPart (on_list v list)) (filled v) bytes
    → Spells (each (sizes_of v) (list_rows role (v.dim / 8) (length v.rows) (direct_of v))) bytes (groups_of v)
unfolding sizes_of groups_of on_list
rows-read role v legal fits by bytes h =
    let n = length v.rows in
    let ps = map (size_at v.rows) (filled v) in
    let rss = map (rows_at v.rows) (filled v) in
    let all : v.rows ≡ [] ++ concat rss = sym (together-again v by) in
    let known = λ (e : v.direct ≡ true). known-all v n (λ k lt. once v (legal.direct e) k lt) [] ps rss all
    (own-filled v.rows (filled v)) (are-filled v.rows (filled v)) in
    let facts = rows-fine role v v.rows (filled v) (all-fine role v legal fits) known in
    let parts : Each ListPart rss bytes = each-map ListPart (rows_at v.rows) (filled v) bytes h in
    let both = both-of (RowsRead role n (direct_of v) (v.dim / 8)) ListPart ps rss bytes facts parts in
    each-again (list_rows role (v.dim / 8) n (direct_of v))
    (λ p rs b. RowsRead role n (direct_of v) (v.dim / 8) p rs × ListPart rs b)
    (rows-again role n (direct_of v) (v.dim / 8)) ps rss bytes both
  where
    once : (v : IvfValue) → IsNumbering (labels v.rows) → (k : ℕ) → k < length v.rows
        → label_count k (labels v.rows) ≤ 1
    once v h k lt = (let len : length (labels v.rows) ≡ length v.rows =
        length-map v.rows (λ (r : ListRow). r.label) in omega (arith, h k (omega (arith, len, lt))))

value-same : (v : IvfValue) (m : ℕ) (b : Bool) (rows : List ListRow) → m ≡ v.max_codes → b ≡ v.direct
    → rows ≡ v.rows → record v { max_codes = m; direct = b; rows = rows } ≡ v
value-same v m b rows e f g = rw (e, f, g) refl

pub ivf-again : (role : Role) (bytes : List ℕ) (v : IvfValue) → IsBodyRole role → IvfRead role v bytes
    → Spells (ivf_body role) bytes v
unfolding ivf_body
ivf-again role bytes v r h =
    let (
      f0,
      t0,
      p0,
      head,
      (
        b1,
        r1,
        p1,
        n1,
        (
          b2,
          r2,
          p2,
          n2,
          (
            qf,
            qb,
            qp,
            flat,
            (
              df,
              db,
              dp,
              map_part,
              (b3, r3, p3, ilar, (b4, r4, p4, n4, (b5, r5, p5, n5, (zf, zb, zp, sized, listed)))),
            ),
          ),
        ),
      ),
    ) = h.rest in
    let legal = h.legal in
    let same = ivf-is _ _ h.settled in
    let by : by_list v ≡ v.rows = ap (λ (w : IvfValue). w.rows) same in
    let none : 0 ≡ v.max_codes = ap (λ (w : IvfValue). w.max_codes) same in
    let n = length v.rows in
    let hd = header-again role (length v.centroids ≡ v.nlist) v.dim n f0
    (λ flag. outer-head role v flag r legal h.fits) head in
    let hv : HeadValue = record { dim = v.dim; count = n; flag = hd.flag } in
    let quantizer : CodeList = record { dim = v.dim; codes = v.centroids } in
    let q = inside-again (Quantizer v.dim v.nlist n hd.flag) qf quantizer
    (λ own. quantizer-head v hd.flag own legal hd.means) legal.centroids flat in
    let d = direct-again n df (direct_of v) (direct-part v df map_part) in
    let z = sizes-again v.nlist n zf (sizes_of v) (sizes-read v by zf sized) in
    let e = rows-read role v legal h.fits by zb listed in
    let c1 = pass_one (ltb v.nlist 1 || ltb 4194304 v.nlist) _
    (or_from _ _ (le-ltb v.nlist 1 legal.nlist_least) (le-ltb 4194304 v.nlist legal.nlist_most)) in
    let most : v.nprobe ≤ 2 ^ 63 - 1 = omega (arith, legal.nprobe_most) in
    let c2 = pass_one (ltb v.nprobe 1 || ltb (2 ^ 63 - 1) v.nprobe) _
    (or_from _ _ (le-ltb v.nprobe 1 legal.nprobe_least) (le-ltb (2 ^ 63 - 1) v.nprobe most)) in
    let c4 = pass_one (not (eqb v.nlist v.nlist)) _ (not_from_true _ (eq-eqb v.nlist v.nlist refl)) in
    let c5 = pass_one (not (eqb (v.dim / 8) (v.dim / 8))) _ (not_from_true _ (eq-eqb (v.dim / 8) (v.dim / 8) refl)) in
    let value = value-same v 0 (is_some (direct_of v)) (concat (groups_of v)) none (direct-is v)
    (together-again v by) in
    rw p0 (spells-join (header role) _ f0 t0 hv v hd.spells (
      b1,
      r1,
      p1,
      n1.size,
      rw n1.reads c1,
      rw n1.reads (
        b2,
        r2,
        p2,
        n2.size,
        rw n2.reads c2,
        rw n2.reads (
            rw qp (spells-join (flat_inside (Quantizer v.dim v.nlist n hd.flag)) _ qf qb quantizer v q (
            rw dp (spells-join (direct_map n) _ df db (direct_of v) v d (
              b3,
              r3,
              p3,
              ap length ilar,
              rw ilar refl,
              (
                b4,
                r4,
                p4,
                n4.size,
                rw n4.reads c4,
                (
                  b5,
                  r5,
                  p5,
                  n5.size,
                  rw n5.reads c5,
                  rw zp (spells-join (list_sizes v.nlist n) _ zf zb (sizes_of v) v z
                      (rw (sym (append-nil zb)) (spells-join (each (sizes_of v)
                      (list_rows role (v.dim / 8) n (direct_of v))) _ zb [] (groups_of v) v e (refl, value)))),
                ),
              ),
            ))))),
      ),
    ))

pub ivf-law : KindLaw named.Ivf
unfolding body
ivf-law = record {
  found = λ role bytes v r fits h. (
      let s = spells-split (ivf_body role) (λ w. done (Ivf w)) bytes v h in
      let all = at_end bytes s.front s.back s.parts s.more.0 in
      let f = ivf-found role s.front s.value r (subst IsBytes all fits) s.first in
      let made : BodyRead named.Ivf role s.front (Ivf s.value) =
      record { is_kind = refl; rest = f.rest; legal = f.legal; rows = f.settled; fits = f.fits } in
      subst (λ (w : Inner). BodyRead named.Ivf role bytes w) s.more.1
      (subst (λ (b : List ℕ). BodyRead named.Ivf role b (Ivf s.value)) (sym all) made));
  again = λ role bytes v r h. again role bytes v r h;
}
  where
    again : (role : Role) (bytes : List ℕ) (v : Inner) → IsBodyRole role → BodyRead named.Ivf role bytes v
        → Spells (body named.Ivf role) bytes v
    again role bytes (Ivf v) r h =
        let one = ivf-again role bytes v r (record {
          rest = h.rest;
          legal = h.legal;
          settled = h.rows;
          fits =
              h.fits;
        }) in
        let whole : Spells (ivf_body role >>= λ w. done (Ivf w)) (bytes ++ []) (Ivf v) =
        spells-join (ivf_body role) (λ w. done (Ivf w)) bytes [] v (Ivf v) one (refl, refl) in
        subst (λ (b : List ℕ). Spells (ivf_body role >>= λ w. done (Ivf w)) b (Ivf v)) (append-nil bytes) whole
    again role bytes _ r h = absurd (let k = h.is_kind in cc)
