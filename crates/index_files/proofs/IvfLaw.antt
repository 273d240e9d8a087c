-- The law of IVF: the bytes that are read are a file of the value, and the other way round.
use Rattle.std.proofs.Common.{◌≡◌, ◌⊎◌, inl, inr, ℕ, ◌+◌, ◌-◌, ◌*◌, ◌/◌, ◌^◌, ◌<◌}
use Rattle.std.proofs.Common.{◌≤◌, Bool, true, false, eqb, ltb, leb, not, ◌||◌, ◌&&◌, List, [], length}
use Rattle.std.proofs.Common.{map, All, Option, Some, None, is_some, refl, sym, ap, subst, ◌∙◌, arith}
use Rattle.std.specs.Prelude.{codes, slice_index}
use Rattle.std.specs.List.{flat_map, range_with_len}
use Rattle.std.specs.Str.{bytes_eq}
use Rattle.std.proofs.lemmas.Bool.{eqb-true, ne_eqb, ltb-false, leb-true, or_parts, not-false, and_parts}
use Rattle.std.proofs.lemmas.List.{length-map}
use Rattle.bcodes.specs.Value.{CodeList, ListRow, IvfValue, Ivf, IsCode, IsNumbering, IsPlace, IsLegalIvf, row_of}
use Rattle.bcodes.specs.Value.{weight}
use Rattle.bcodes.specs.Ranges.{load_limit}
use Rattle.file_parts.specs.declared.role.Role.{Role}
use Rattle.file_parts.specs.declared.role.Role.TheVariants.{Outermost, Within, Quantizer}
use Rattle.file_parts.specs.Format.{Spells}
use Rattle.file_parts.specs.Fields.{number_of, HeadValue, header, each, rows_beside}
use Rattle.file_parts.proofs.Reading.{one_check, two_checks, spells-split}
use Rattle.std.proofs.lemmas.List.FromFn.{length-range_with_len}
use Rattle.index_files.specs.Parts.{Each, Number, HeadWhere}
use Rattle.index_files.specs.Groups.{concat, on_list, filled, by_list, entry_of}
use Rattle.index_files.specs.File.{FlatBody, ListPart, DirectPart, SizesPart, IvfRest, settled_inner}
use Rattle.index_files.specs.declared.kind_name.KindName.TheVariants as named
use Rattle.index_files.specs.declared.start.Start.{Start}
use Rattle.index_files.specs.declared.start.Start.TheVariants.{Plain, Mapped, NotRead, Unknown}
use Rattle.index_files.specs.Letters.{start_of, is_flat, letters}
use Rattle.index_files.specs.FlatFormat.{flat_body, flat_inside, is_inside}
use Rattle.index_files.specs.IvfFormat.{ListSize, rows_in, direct_map, list_sizes, list_rows, ivf_body}
use Rattle.index_files.specs.Laws.{FitsRole, IsBodyRole}
use Rattle.index_files.proofs.FileLaws.{at_end, expected-is, letters-again, IsStart, start-is}
use Rattle.index_files.proofs.Heads.{IsHeader, header-found}
use Rattle.index_files.proofs.Elements.{IsBytes, front-bytes, back-bytes}
use Rattle.index_files.proofs.FlatFiles.{FlatRead, flat-found, flat-again, is_dim-found}
use Rattle.index_files.proofs.Each.{Pairs, each-found, facts-of, parts-of, pairs-map}
use Rattle.index_files.proofs.ListGroups.{rows_at, Rising, AreRows, IsOwn, own-rows, numbers_of, filled-is, together}
use Rattle.index_files.proofs.ListGroups.{own-parts}
use Rattle.index_files.proofs.SizesForm.{sizes-found, is-text}
use Rattle.index_files.proofs.Numbering.{label_count, labels, IsBelow, known-all, Names, Climb, climb-all, climb-once}
use Rattle.index_files.proofs.Numbering.{climb-below, numbering-found}
use Rattle.index_files.proofs.ListRows.{DirectRead, direct-found, RowsRead, rows-found}
use Rattle.index_files.proofs.IvfFacts.{total-length, rows-legal, all-places, all-names, named, numbers-spelled}
use Rattle.index_files.proofs.IvfFacts.{sizes-spelled}

-- a flag with another meaning
head-map : (P Q : Type 0) (d n : ℕ) (bytes : List ℕ) → (P → Q) → HeadWhere P d n bytes
    → HeadWhere Q d n bytes
head-map P Q d n bytes f (b0, r0, p0, n0, (b1, r1, p1, n1, (b2, r2, p2, n2, (b3, r3, p3, flag, metric)))) = (
  b0,
  r0,
  p0,
  n0,
  (
    b1,
    r1,
    p1,
    n1,
    (
      b2,
      r2,
      p2,
      n2,
      (b3, r3, p3, elim flag [ inl h ↦ inl h | inr h ↦ inr (h.0, f h.1) ], metric),
    ),
  ),
)

-- ---- the quantizer

flat-start : (s : Start) (b : List ℕ) → is_flat s ≡ true → IsStart s b → b ≡ codes "IBxF"
flat-start (Plain named.Flat) b e is = is
flat-start (Plain _) b e is = absurd cc
flat-start (Mapped name) b e is = absurd cc
flat-start NotRead b e is = absurd cc
flat-start Unknown b e is = absurd cc

pub inside-found : (role : Role) (bytes : List ℕ) (v : CodeList) → IsBytes bytes
    → Spells (flat_inside role) bytes v → (rest : List ℕ) × FlatRead role v rest
    × FlatBody v.dim v.codes bytes
unfolding flat_inside letters
inside-found role bytes v fits (front, back, parts, len, pass, more) =
    let is = flat-start (start_of front) front (expected-is is_flat (start_of front) _ _ pass) (start-is front) in
    let f = flat-found role back v (back-bytes bytes front back parts fits) more in
    (back, f, (front, back, parts, is, f.parts))

pub inside-again : (role : Role) (bytes : List ℕ) (v : CodeList)
    → ((flag : Bool) → IsHeader role (record { dim = v.dim; count = length v.codes; flag = flag }))
    → All (IsCode v.dim) v.codes → FlatBody v.dim v.codes bytes → Spells (flat_inside role) bytes v
unfolding flat_inside
inside-again role bytes v head each (front, back, parts, is, rest) =
    rw parts (letters-again is_flat (λ start. flat_body role) (Plain named.Flat) front back v (ap length is)
    (ap start_of is) refl (flat-again role back v head each rest))

-- ---- what is read

abbrev value_of : ℕ → ℕ → ℕ → Option (List ℕ) → List (List ℕ) → List (List ListRow) → IvfValue
value_of dim nlist nprobe direct cs rss =
    record {
      dim = dim;
      nlist = nlist;
      nprobe = nprobe;
      max_codes = 0;
      direct = is_some direct;
      centroids = cs;
      rows =
          concat rss;
    }

-- the fields of an IVF, each of which passed
pub record Fields (role : Role) (h : HeadValue) (nlist nprobe : ℕ) (quantizer : CodeList)
    (direct : Option (List ℕ)) (ps : List ListSize) (rss : List (List ListRow)) : Type 0 where
  pub head : IsHeader role h
  pub nlist_least : 1 ≤ nlist
  pub nlist_most : nlist ≤ 4194304
  pub nprobe_least : 1 ≤ nprobe
  pub nprobe_most : nprobe < 2 ^ 63
  pub flag : Bool
  pub quantizer_head : IsHeader (Quantizer h.dim nlist h.count h.flag)
      (record { dim = quantizer.dim; count = length quantizer.codes; flag = flag })
  pub quantizer_codes : All (IsCode quantizer.dim) quantizer.codes
  pub rising : Rising 0 nlist ps
  pub total_is : rows_in ps ≡ h.count
  pub rows : Pairs (RowsRead role h.count direct (h.dim / 8)) ps rss
  pub entries : (es : List ℕ) → direct ≡ Some es → length es ≡ h.count

module _ (role : Role) (h : HeadValue) (nlist nprobe : ℕ) (quantizer : CodeList) (direct : Option (List ℕ))
    (ps : List ListSize) (rss : List (List ListRow)) (f : Fields role h nlist nprobe quantizer direct ps rss) where
  abbrev the_value : IvfValue
  the_value = value_of h.dim nlist nprobe direct quantizer.codes rss

  are-rows : Pairs AreRows ps rss
  are-rows = pairs-map (RowsRead role h.count direct (h.dim / 8)) AreRows (λ p rs r. r.are) ps rss f.rows

  count-is : length (concat rss) ≡ h.count
  count-is = total-length ps rss are-rows ∙ f.total_is

  own : Pairs (IsOwn (concat rss)) ps rss
  own = own-rows (concat rss) 0 nlist ps rss f.rising are-rows (λ list le. refl)

  fill : filled the_value ≡ numbers_of ps
  unfolding filled on_list
  fill =
      let up : Rising 0 (0 + nlist) ps = (let e : nlist ≡ 0 + nlist = omega arith in
      subst (λ n. Rising 0 n ps) e f.rising) in
      filled-is (concat rss) nlist 0 ps rss up are-rows (λ list le. refl)

  grouped : by_list the_value ≡ concat rss
  unfolding on_list
  grouped = ap (flat_map (rows_at (concat rss))) fill ∙ together (concat rss) ps rss own

  small : h.count < 2 ^ 32
  small =
      let le : h.count * 16 ≤ h.count * (h.dim / 8 + 16) = grind arith in
      let load = ltb-false load_limit _ f.head.load in
      let more : h.count * (h.dim / 8 + 16) ≤ (rows_beside role + h.count) * (h.dim / 8 + 16) = grind arith in
      omega (arith, le, load, more)

  dims : quantizer.dim ≡ h.dim
  dims = eqb-true _ _ f.quantizer_head.takes_dim

  held : (length quantizer.codes ≤ nlist)
      × (((h.flag ≡ true) ⊎ (0 < h.count)) → length quantizer.codes ≡ nlist)
  held = go (and_parts _ _ f.quantizer_head.takes_count)
    where
      n : ℕ
      n = length quantizer.codes

      either : (a b c : Bool) → (a || (not b && c)) ≡ true → (b ≡ true) ⊎ (c ≡ false) → a ≡ true
      either true b c e d = refl
      either false true c e d = absurd cc
      either false false true e (inl d) = absurd cc
      either false false true e (inr d) = absurd cc
      either false false false e d = absurd cc

      no-rows : 0 < h.count → eqb h.count 0 ≡ false
      no-rows lt = ne_eqb h.count 0 (omega (arith, lt))

      go : (leb n nlist ≡ true) × ((eqb n nlist || (not h.flag && eqb h.count 0)) ≡ true)
          → (n ≤ nlist) × (((h.flag ≡ true) ⊎ (0 < h.count)) → n ≡ nlist)
      go (a, b) = (
        leb-true _ _ a,
        λ d. eqb-true _ _
            (either (eqb n nlist) h.flag (eqb h.count 0) b (elim d [ inl t ↦ inl t | inr lt ↦ inr (no-rows lt) ])),
      )

  -- the names that a direct map gives
  module _ (es : List ℕ) (is_direct : direct ≡ Some es) where
    names : Pairs (λ p rs. Names es h.count p.list 0 rs × (length rs ≤ 2 ^ 32)) ps rss
    names = all-names role h.count es (h.dim / 8) ps rss (omega (arith, f.total_is, small))
        (subst (λ (o : Option (List ℕ)). Pairs (RowsRead role h.count o (h.dim / 8)) ps rss) is_direct f.rows)

    climb : Climb es h.count 0 (concat rss)
    climb = climb-all es h.count 0 nlist ps rss f.rising are-rows names

    numbering : IsNumbering (labels (concat rss))
    numbering =
        let len : length (labels (concat rss)) ≡ h.count =
        length-map (concat rss) (λ (r : ListRow). r.label) ∙ count-is in
        numbering-found (labels (concat rss)) (subst (λ n. All (IsBelow n) (labels (concat rss))) (sym len)
        (climb-below es h.count 0 (concat rss) climb)) (λ k. climb-once es h.count 0 k (concat rss) climb)

    entry-same : (k : ℕ) → k < h.count → slice_index es k ≡ entry_of the_value k
    entry-same k lt =
        let len : length (labels (concat rss)) ≡ h.count =
        length-map (concat rss) (λ (r : ListRow). r.label) ∙ count-is in
        let one : label_count k (labels (concat rss)) ≡ 1 = numbering k (omega (arith, len, lt)) in
        let known = known-all the_value h.count
        (λ j less. climb-once es h.count 0 j (concat rss) climb) [] ps rss refl own are-rows in
        elim (named role h.count es the_value k ps rss names known) [
          | inl none ↦ absurd (omega (arith, none, one))
          | inr found ↦ found
        ]

  legal : IsLegalIvf the_value
  legal =
      let load = ltb-false load_limit _ f.quantizer_head.load in
      record {
        dim = is_dim-found h.dim f.head.dim;
        nlist_least = f.nlist_least;
        nlist_most = f.nlist_most;
        nprobe_least = f.nprobe_least;
        nprobe_most = f.nprobe_most;
        max_codes = omega arith;
        centroids = subst (λ d. All (IsCode d) quantizer.codes) dims f.quantizer_codes;
        held = held.0;
        rows = rows-legal role h.count direct h.dim nlist 0 ps rss f.rising f.rows;
        filled = λ lt. held.1 (inr (omega (arith, count-is, lt)));
        direct = go direct refl;
        load = (let e : (h.count + length quantizer.codes) * (quantizer.dim / 8 + 16) ≤ load_limit = load in
            let e' = subst (λ d. (h.count + length quantizer.codes) * (d / 8 + 16) ≤ load_limit) dims e in
            weigh (length (concat rss)) (length quantizer.codes)
            (subst (λ n. (n + length quantizer.codes) * (h.dim / 8 + 16) ≤ load_limit) (sym count-is) e'));
      }
    where
      go : (o : Option (List ℕ)) → direct ≡ o → is_some direct ≡ true → IsNumbering (labels (concat rss))
      go None e is = absurd (let k : is_some direct ≡ false = ap is_some e in cc)
      go (Some es) e is = numbering es e

      weigh : (a b : ℕ) → (a + b) * (h.dim / 8 + 16) ≤ load_limit → weight h.dim 0 a b ≤ load_limit
      weigh a b le = (let e : (a + b) * (h.dim / 8 + 16) ≡ a * (h.dim / 8 + 16) + b * (h.dim / 8 + 16) =
          grind arith in omega (arith, le, e))

  direct-spelled : (bytes : List ℕ) → DirectRead h.count direct bytes → DirectPart the_value bytes
  unfolding entry_of on_list
  direct-spelled bytes d = go direct refl d
    where
      go : (o : Option (List ℕ)) → direct ≡ o → DirectRead h.count o bytes → DirectPart the_value bytes
      go None e d = rw e d
      go (Some es) e (len, (front, back, parts, num, (g, b, p, size, each))) =
          let same : (k : ℕ) → k < length es → slice_index es k ≡ entry_of the_value (0 + k) =
          λ k lt. entry-same es e k (omega (arith, len, lt))
          ∙ (let z : k ≡ 0 + k = omega arith in ap (entry_of the_value) z) in
          let all = numbers-spelled (entry_of the_value) 0 es b same each in
          let count : length es ≡ length (concat rss) = len ∙ sym count-is in
          let all' : Each (λ k. Number 8 (entry_of the_value k)) (range_with_len 0 (length (concat rss))) b =
          subst (λ n. Each (λ k. Number 8 (entry_of the_value k)) (range_with_len 0 n) b) count all in
          let size' : Number 8 (length (range_with_len 0 (length (concat rss)))) g =
          subst (λ n. Number 8 n g) (count ∙ sym (length-range_with_len 0 (length (concat rss)))) size in
          rw e (front, back, parts, num, (g, b, p, size', all'))

  fits-role : IsBodyRole role → FitsRole role (Ivf the_value)
  fits-role r = go role refl r
    where
      go : (q : Role) → role ≡ q → IsBodyRole q → FitsRole q (Ivf the_value)
      go Outermost e r = tt
      go (Within dim count) e r =
          let hd = subst (λ (q : Role). IsHeader q h) e f.head in
          let n = eqb-true h.count count hd.takes_count in
          let bounded : (is_inside role || is_some direct) ≡ true = rw e refl in
          record {
            same_dim = eqb-true _ _ hd.takes_dim;
            same_count = count-is ∙ n;
            labels =
                subst (λ n. All (λ row. IsPlace n row.label) (map row_of (concat rss))) n
                (all-places role h.count direct bounded (h.dim / 8) ps rss f.rows);
          }
      go (Quantizer dim nlist rows flag) e r = absurd r

-- what the law says of an IVF
pub record IvfRead (role : Role) (v : IvfValue) (bytes : List ℕ) : Type 0 where
  pub rest : IvfRest v bytes
  pub legal : IsLegalIvf v
  pub settled : settled_inner (Ivf v) ≡ Ivf v
  pub fits : FitsRole role (Ivf v)

listed : (v : IvfValue) (bytes : List ℕ) → Each (λ list. ListPart (rows_at v.rows list)) (filled v) bytes
    → Each (λ list. ListPart (on_list v list)) (filled v) bytes
unfolding on_list
listed v bytes h = h

pub ivf-found : (role : Role) (bytes : List ℕ) (v : IvfValue) → IsBodyRole role → IsBytes bytes
    → Spells (ivf_body role) bytes v → IvfRead role v bytes
unfolding ivf_body
ivf-found role bytes v r fits0 spelled =
    let s = spells-split (header role) _ bytes v spelled in
    let h = s.value in
    let hd = header-found role s.front h s.first in
    let (b1, r1, p1, l1, c1, (b2, r2, p2, l2, c2, m2)) = s.more in
    let fits1 = back-bytes s.back b1 r1 p1 (back-bytes bytes s.front s.back s.parts fits0) in
    let fits2 = back-bytes r1 b2 r2 p2 fits1 in
    let nlist = number_of 8 b1 in
    let nprobe = number_of 8 b2 in
    let in1 = or_parts (ltb nlist 1) (ltb 4194304 nlist) (one_check _ _ c1) in
    let in2 = or_parts (ltb nprobe 1) (ltb (2 ^ 63 - 1) nprobe) (one_check _ _ c2) in
    let least1 : 1 ≤ nlist = ltb-false nlist 1 in1.0 in
    let most1 : nlist ≤ 4194304 = ltb-false 4194304 nlist in1.1 in
    let least2 : 1 ≤ nprobe = ltb-false nprobe 1 in2.0 in
    let most2 : nprobe ≤ 2 ^ 63 - 1 = ltb-false (2 ^ 63 - 1) nprobe in2.1 in
    let q = spells-split (flat_inside (Quantizer h.dim nlist h.count h.flag)) _ r2 v m2 in
    let quantizer = inside-found (Quantizer h.dim nlist h.count h.flag) q.front q.value
    (front-bytes r2 q.front q.back q.parts fits2) q.first in
    let fits3 = back-bytes r2 q.front q.back q.parts fits2 in
    let d = spells-split (direct_map h.count) _ q.back v q.more in
    let direct = direct-found h.count d.front d.value (front-bytes q.back d.front d.back d.parts fits3) d.first in
    let fits4 = back-bytes q.back d.front d.back d.parts fits3 in
    let (b3, r3, p3, l3, c3, (b4, r4, p4, l4, c4, (b5, r5, p5, l5, c5, m5))) = d.more in
    let fits5 = back-bytes r4 b5 r5 p5 (back-bytes r3 b4 r4 p4 (back-bytes d.back b3 r3 p3 fits4)) in
    let z = spells-split (list_sizes nlist h.count) _ r5 v m5 in
    let sizes = sizes-found nlist h.count z.front z.value least1 z.first in
    let fits6 = back-bytes r5 z.front z.back z.parts fits5 in
    let e = spells-split (each z.value (list_rows role (h.dim / 8) h.count d.value)) _ z.back v z.more in
    let lists = each-found (list_rows role (h.dim / 8) h.count d.value)
    (λ p rs b. RowsRead role h.count d.value (h.dim / 8) p rs × ListPart rs b)
    (rows-found role h.count d.value (h.dim / 8)) z.value e.front e.value
    (front-bytes z.back e.front e.back e.parts fits6) e.first in
    let facts = facts-of (RowsRead role h.count d.value (h.dim / 8)) ListPart z.value e.value e.front lists in
    let parts = parts-of (RowsRead role h.count d.value (h.dim / 8)) ListPart z.value e.value e.front lists in
    let f : Fields role h nlist nprobe q.value d.value z.value e.value = record {
      head = hd.0;
      nlist_least = least1;
      nlist_most = most1;
      nprobe_least = least2;
      nprobe_most = omega (arith, most2);
      flag = quantizer.1.flag;
      quantizer_head = quantizer.1.header;
      quantizer_codes = quantizer.1.codes;
      rising = sizes.rising;
      total_is = sizes.total_is;
      rows = facts;
      entries = λ es is. (let x = subst (λ (o : Option (List ℕ)). DirectRead h.count o d.front) is direct in x.0);
    } in
    let w = value_of h.dim nlist nprobe d.value q.value.codes e.value in
    let flag-means : (h.flag ≡ true) → length q.value.codes ≡ nlist =
    λ t. (held role h nlist nprobe q.value d.value z.value e.value f).1 (inl t) in
    let own_rows = own role h nlist nprobe q.value d.value z.value e.value f in
    let are = are-rows role h nlist nprobe q.value d.value z.value e.value f in
    let fill_is = fill role h nlist nprobe q.value d.value z.value e.value f in
    let by = grouped role h nlist nprobe q.value d.value z.value e.value f in
    let count = count-is role h nlist nprobe q.value d.value z.value e.value f in
    let same_dim = dims role h nlist nprobe q.value d.value z.value e.value f in
    let head : HeadWhere (length q.value.codes ≡ nlist) h.dim (length w.rows) s.front =
    subst (λ n. HeadWhere (length q.value.codes ≡ nlist) h.dim n s.front) (sym count)
    (head-map (h.flag ≡ true) (length q.value.codes ≡ nlist) h.dim h.count s.front flag-means hd.1) in
    let flat : FlatBody h.dim q.value.codes q.front =
    subst (λ n. FlatBody n q.value.codes q.front) same_dim quantizer.2 in
    let map_part = direct-spelled role h nlist nprobe q.value d.value z.value e.value f d.front direct in
    let kind_checks = two_checks (bytes_eq b3 (codes "il00")) _ (not (bytes_eq b3 (codes "ilar"))) _ c3 in
    let ilar : b3 ≡ codes "ilar" = is-text b3 (codes "ilar") (not-false _ kind_checks.1) in
    let same_nlist : number_of 8 b4 ≡ nlist = eqb-true _ _ (not-false _ (one_check _ _ c4)) in
    let same_size : number_of 8 b5 ≡ h.dim / 8 = eqb-true _ _ (not-false _ (one_check _ _ c5)) in
    let size_part : SizesPart w z.front = sizes-spelled w h.count z.value e.value z.front refl fill_is own_rows are
    sizes in
    let all = at_end z.back e.front e.back e.parts e.more.0 in
    let rows_part : Each (λ list. ListPart (rows_at w.rows list)) (filled w) z.back =
    subst (λ (ls : List ℕ). Each (λ list. ListPart (rows_at w.rows list)) ls z.back) (sym fill_is)
    (own-parts ListPart w.rows z.value e.value z.back own_rows (subst (Each ListPart e.value) (sym all) parts)) in
    let made : IvfRead role w bytes = record {
      rest = (
        s.front,
        s.back,
        s.parts,
        head,
        (
          b1,
          r1,
          p1,
          record { size = l1; reads = refl },
          (
            b2,
            r2,
            p2,
            record { size = l2; reads = refl },
            (
              q.front,
              q.back,
              q.parts,
              flat,
              (
                d.front,
                d.back,
                d.parts,
                map_part,
                (
                  b3,
                  r3,
                  p3,
                  ilar,
                  (
                    b4,
                    r4,
                    p4,
                    record { size = l4; reads = same_nlist },
                    (
                      b5,
                      r5,
                      p5,
                      record { size = l5; reads = same_size },
                      (z.front, z.back, z.parts, size_part, listed w z.back rows_part),
                    ),
                  ),
                ),
              ),
            ),
          ),
        ),
      );
      legal = legal role h nlist nprobe q.value d.value z.value e.value f;
      settled = ap (λ (rows : List ListRow). Ivf (record w { rows = rows })) by;
      fits = fits-role role h nlist nprobe q.value d.value z.value e.value f r;
    } in
    subst (λ (v : IvfValue). IvfRead role v bytes) e.more.1 made
