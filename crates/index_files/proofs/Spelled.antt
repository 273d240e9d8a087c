-- The canonical spelling of a value is a file of it.
use Rattle.std.proofs.Common.{◌≡◌, ◌⊎◌, inl, inr, ℕ, zero, suc, ◌+◌, ◌*◌, ◌/◌, ◌^◌}
use Rattle.std.proofs.Common.{◌<◌, ◌≤◌, ℤ, pos, negsuc, Bool, true, false, cond, eqb, ltb, List, []}
use Rattle.std.proofs.Common.{◌∷◌, ◌++◌, length, map, get_or, All, refl, sym, ap, subst, ◌∙◌}
use Rattle.std.proofs.Common.{append_assoc, arith}
use Rattle.std.specs.Prelude.{FitsSigned, codes, nat_lt, nat_le}
use Rattle.std.specs.Int.{w64, cast_signed, cast_unsigned}
use Rattle.std.specs.List.{flat_map, range_with_len}
use Rattle.std.proofs.lemmas.Bool.{cases_Bool, leb-true, ltb-true, ltb-false}
use Rattle.std.proofs.lemmas.Int.{to_z-of_z, ints}
use Rattle.std.proofs.Math.Nat.{mod-eq_of_lt}
use Rattle.std.proofs.lemmas.List.{append-nil, length-append}
use Rattle.std.proofs.lemmas.List.Folds.{flat_map-map}
use Rattle.std.proofs.lemmas.List.Sums.{length-filter, count_by-le-length}
use Rattle.std.proofs.lemmas.List.Elements.{All-nil, All-cons, All-head, All-tail, All-filter}
use Rattle.byteorder.specs.Endian.{little_bytes, little_number}
use Rattle.byteorder.specs.Numbers.{little_number-reads_back, length-bytes_low_first}
use Rattle.bcodes.specs.Ranges.{load_limit}
use Rattle.bcodes.specs.Value.{ListRow, IvfValue, CodeList, Flat, Ivf, HasBytes, IsCode, IsLegalFlat, IsLegalIvf}
use Rattle.bcodes.specs.Value.{weight}
use Rattle.file_parts.specs.Fields.{number_of, signed_of, number_bytes, signed_bytes}
use Rattle.std.proofs.lemmas.List.FromFn.{length-range_with_len}
use Rattle.index_files.specs.Parts.{◌▸◌, Each, Is, Number, Signed, Vector, HeadWhere}
use Rattle.index_files.specs.Groups.{concat, on_list, filled, list_with, rows_before, has_label, entry_of}
use Rattle.index_files.specs.File.{FlatBody, DirectPart, SizesPart, ListPart, Body}
use Rattle.index_files.specs.Canon.{number, short_number, ids_bytes, vector, bit_of, head, flat_bytes, direct_bytes}
use Rattle.index_files.specs.Canon.{size_bytes, sizes_bytes, list_bytes, ivf_bytes}

-- ---- numbers

pub number-spelled : (w n : ℕ) → n < 256 ^ w → Number w n (number_bytes w n)
unfolding number_of number_bytes
number-spelled w n lt =
    let back : little_bytes w n ++ [] ≡ little_bytes w n = append-nil (little_bytes w n) in
    record {
      size = length-bytes_low_first 0 w n;
      reads =
          subst (λ (b : List ℕ). little_number w b ≡ n) back (little_number-reads_back w n [] lt);
    }

pub long-spelled : (n : ℕ) → n < 2 ^ 64 → Number 8 n (number n)
long-spelled n lt = number-spelled 8 n lt

pub short-spelled : (n : ℕ) → n < 2 ^ 32 → Number 4 n (short_number n)
short-spelled n lt = number-spelled 4 n lt

pub byte-spelled : (n : ℕ) → Number 1 n (n ∷ [])
unfolding number_of
byte-spelled n = record { size = refl; reads = omega arith }

below-64 : (z : ℤ) → FitsSigned w64 z → cast_unsigned w64 z < 2 ^ 64
below-64 (pos n) h = omega (arith, ints, h)
below-64 (negsuc n) h = omega (arith, ints, h)

pub signed-spelled : (z : ℤ) → FitsSigned w64 z → Signed 8 z (signed_bytes 8 z)
unfolding signed_of signed_bytes
signed-spelled z fits =
    let n = cast_unsigned w64 z in
    let small : cast_unsigned w64 z < 2 ^ 64 = below-64 z fits in
    let back : little_bytes 8 n ++ [] ≡ little_bytes 8 n = append-nil (little_bytes 8 n) in
    let read : little_number 8 (little_bytes 8 n) ≡ n =
    subst (λ (b : List ℕ). little_number 8 b ≡ n) back
    (little_number-reads_back 8 n [] (omega (arith, small))) in
    record {
      size = length-bytes_low_first 0 8 n;
      reads =
          ap (cast_signed w64) read ∙ to_z-of_z w64 z fits;
    }

-- ---- sequences

pub each-spelled : {X : Type 0} (P : X → List ℕ → Type 0) (f : X → List ℕ) (xs : List X)
    → All (λ x. P x (f x)) xs → Each P xs (flat_map f xs)
each-spelled P f [] h = refl
each-spelled P f (x ∷ xs) h = (
  f x,
  flat_map f xs,
  refl,
  All-head (λ x. P x (f x)) x xs h,
  each-spelled P f xs (All-tail (λ x. P x (f x)) x xs h),
)

pub ids-spelled : (zs : List ℤ) → All (FitsSigned w64) zs → Each (Signed 8) zs (ids_bytes zs)
ids-spelled zs h = each-spelled (Signed 8) (signed_bytes 8) zs
    (λ i d lt. signed-spelled _ (h i d lt))

pub codes-spelled : (cs : List (List ℕ)) → Each Is cs (concat cs)
codes-spelled cs = each-spelled Is (λ c. c) cs (λ i d lt. refl)

pub total-codes : (size : ℕ) (cs : List (List ℕ)) → All (HasBytes size) cs
    → length (concat cs) ≡ length cs * size
total-codes size [] h = omega arith
total-codes size (c ∷ cs) h =
    let all : suc (length cs) * size ≡ size + length cs * size = grind arith in
    omega (
      arith,
      length-append c (concat cs),
      (All-head (HasBytes size) c cs h).size,
      total-codes size cs (All-tail (HasBytes size) c cs h),
      all,
    )

-- ---- headers and Flat

pub head-spelled : (P : Type 0) (d n : ℕ) (flag : Bool) → d ≤ 65536 → n < 2 ^ 64 → (flag ≡ true → P)
    → HeadWhere P d n (head d n flag)
unfolding head number_bytes
head-spelled P d n flag dim few means = (
  short_number d,
  short_number (d / 8) ++ number n ++ bit_of flag ∷ short_number 1,
  refl,
  short-spelled d (omega (arith, dim)),
  (
    short_number (d / 8),
    number n ++ bit_of flag ∷ short_number 1,
    refl,
    short-spelled (d / 8) (omega (arith, dim)),
    (
      number n,
      bit_of flag ∷ short_number 1,
      refl,
      long-spelled n few,
      (bit_of flag ∷ [], short_number 1, refl, bit flag means, inr (short-spelled 1 (omega arith))),
    ),
  ),
)
  where
    bit : (b : Bool) → (b ≡ true → P) → Number 1 0 (bit_of b ∷ []) ⊎ (Number 1 1 (bit_of b ∷ []) × P)
    bit true f = inr (byte-spelled 1, f refl)
    bit false f = inl (byte-spelled 0)

pub flat-spelled : (d : ℕ) (cs : List (List ℕ)) → d ≤ 65536 → All (IsCode d) cs
    → length cs * (d / 8) < 2 ^ 64 → length cs < 2 ^ 64 → FlatBody d cs (flat_bytes d cs)
unfolding flat_bytes
flat-spelled d cs dim each few less =
    let size = total-codes (d / 8) cs each in (
      codes "IBxF",
      head d (length cs) true ++ vector (concat cs),
      refl,
      refl,
      (
        head d (length cs) true,
        vector (concat cs),
        refl,
        head-spelled (Unit {0}) d (length cs) true dim less (λ e. tt),
        (
          number (length (concat cs)),
          concat cs,
          refl,
          subst (λ n. Number 8 n (number (length (concat cs)))) size
              (long-spelled (length (concat cs)) (omega (arith, size, few))),
          codes-spelled cs,
        ),
      ),
    )

-- ---- IVF

few-rows : (d rows others : ℕ) → weight d 0 rows others ≤ load_limit
    → (rows < 2 ^ 27) × (others < 2 ^ 27) × (others * (d / 8) < 2 ^ 64)
few-rows d rows others le =
    let a : rows * 16 ≤ rows * (d / 8 + 16 + 64 * 0) = grind arith in
    let b : others * 16 ≤ others * (d / 8 + 16) = grind arith in
    let c : others * (d / 8) ≤ others * (d / 8 + 16) = grind arith in
    (omega (arith, a, le), omega (arith, b, le), omega (arith, c, le))

list-below : (nlist label : ℕ) (rows : List ListRow) → 1 ≤ nlist → All (λ row. row.list < nlist) rows
    → list_with label rows < nlist
list-below nlist label [] some h = omega (arith, some)
list-below nlist label (row ∷ rows) some h =
    elim (cases_Bool (has_label label row)) [
      | inl e ↦ rw e (All-head (λ (r : ListRow). r.list < nlist) row rows h)
      | inr e ↦ rw e (list-below nlist label rows some (All-tail (λ (r : ListRow). r.list < nlist) row rows h))
    ]

before-le : (label : ℕ) (rows : List ListRow) → rows_before label rows ≤ length rows
before-le label [] = omega arith
before-le label (row ∷ rows) =
    elim (cases_Bool (has_label label row)) [
      | inl e ↦ rw e (omega arith)
      | inr e ↦ rw e (omega (arith, before-le label rows))
    ]

module _ (v : IvfValue) (legal : IsLegalIvf v) where
  rows-few : (length v.rows < 2 ^ 27) × (length v.centroids < 2 ^ 27) × (length v.centroids * (v.dim / 8) < 2 ^ 64)
  rows-few = few-rows v.dim (length v.rows) (length v.centroids) legal.load

  size-few : (list : ℕ) → length (on_list v list) < 2 ^ 27
  unfolding on_list
  size-few list = omega (
    arith,
    length-filter (λ (row : ListRow). eqb list row.list) v.rows,
    count_by-le-length (λ (row : ListRow). eqb list row.list) v.rows,
    rows-few.0,
  )

  entry-few : (label : ℕ) → entry_of v label < 2 ^ 64
  unfolding entry_of
  entry-few label =
      let list = list_with label v.rows in
      let lt : list < v.nlist = list-below v.nlist label v.rows legal.nlist_least
      (λ i d less. (legal.rows i d less).list) in
      omega (arith, lt, legal.nlist_most, before-le label (on_list v list), size-few list)

  count-below : (a n : ℕ) → All (λ x. x < a + n) (range_with_len a n)
  count-below a zero = All-nil (λ x. x < a + zero)
  count-below a (suc n) =
      let more : All (λ x. x < a + suc n) (range_with_len (a + 1) n) =
      λ i d lt. omega (arith, count-below (a + 1) n i d lt) in
      All-cons (λ x. x < a + suc n) a (range_with_len (a + 1) n) (omega arith) more

  filled-below : All (λ list. list < 2 ^ 64) (filled v)
  unfolding filled
  filled-below = All-filter (λ list. nat_lt 0 (length (on_list v list))) (λ list. list < 2 ^ 64)
      (range_with_len 0 v.nlist) (λ i d lt. omega (arith, count-below 0 v.nlist i d lt, legal.nlist_most))

  pub filled-few : length (filled v) ≤ v.nlist
  unfolding filled
  filled-few = omega (
    arith,
    length-filter (λ list. nat_lt 0 (length (on_list v list))) (range_with_len 0 v.nlist),
    count_by-le-length (λ list. nat_lt 0 (length (on_list v list))) (range_with_len 0 v.nlist),
    length-range_with_len 0 v.nlist,
  )

  direct-spelled : DirectPart v (direct_bytes v)
  direct-spelled = go v.direct refl
    where
      entries : (labels : List ℕ) → Each (λ label. Number 8 (entry_of v label)) labels
          (flat_map (λ label. number (entry_of v label)) labels)
      entries labels = each-spelled (λ label. Number 8 (entry_of v label))
          (λ label. number (entry_of v label)) labels (λ i d lt. long-spelled _ (entry-few _))

      count : length (range_with_len 0 (length v.rows)) < 2 ^ 64
      count = omega (arith, length-range_with_len 0 (length v.rows), rows-few.0)

      go : (b : Bool) → v.direct ≡ b → ◌▸◌ (Number 1 (bit_of v.direct))
          (Vector (λ label. Number 8 (entry_of v label)) (cond v.direct (range_with_len 0 (length v.rows)) []))
          (bit_of v.direct ∷ number (length (cond v.direct (range_with_len 0 (length v.rows)) []))
          ++ flat_map (λ label. number (entry_of v label)) (cond v.direct (range_with_len 0 (length v.rows)) []))
      go b e =
          let labels = cond v.direct (range_with_len 0 (length v.rows)) [] in
          let few : length labels < 2 ^ 64 = some v.direct in (
            bit_of v.direct ∷ [],
            number (length labels) ++ flat_map (λ label. number (entry_of v label)) labels,
            refl,
            byte-spelled (bit_of v.direct),
            (
              number (length labels),
              flat_map (λ label. number (entry_of v label)) labels,
              refl,
              long-spelled (length labels) few,
              entries labels,
            ),
          )
        where
          some : (b : Bool) → length (cond b (range_with_len 0 (length v.rows)) []) < 2 ^ 64
          some true = count
          some false = omega arith

  sizes-spelled : SizesPart v (sizes_bytes v)
  sizes-spelled =
      elim (cases_Bool (ltb (v.nlist / 2) (length (filled v)))) [
        | inl e ↦
            let many = ltb-true (v.nlist / 2) (length (filled v)) e in
            rw e (inl (
              many,
              (
                codes "full",
                number v.nlist ++ flat_map (size_bytes v) (range_with_len 0 v.nlist),
                refl,
                refl,
                (
                  number v.nlist,
                  flat_map (size_bytes v) (range_with_len 0 v.nlist),
                  refl,
                  subst (λ n. Number 8 n (number v.nlist)) (sym (length-range_with_len 0 v.nlist))
                      (long-spelled v.nlist (omega (arith, legal.nlist_most))),
                  each-spelled (λ list. Number 8 (length (on_list v list))) (size_bytes v) (range_with_len 0 v.nlist)
                      (λ i d lt. long-spelled _ (omega (arith, size-few (get_or (range_with_len 0 v.nlist) i d)))),
                ),
              ),
            ))
        | inr e ↦
            let few = ltb-false (v.nlist / 2) (length (filled v)) e in
            rw e (inr (
              few,
              (
                codes "sprs",
                number (2 * length (filled v)) ++ flat_map (λ list. number list ++ size_bytes v list) (filled v),
                refl,
                refl,
                (
                  number (2 * length (filled v)),
                  flat_map (λ list. number list ++ size_bytes v list) (filled v),
                  refl,
                  long-spelled (2 * length (filled v)) (omega (arith, filled-few, legal.nlist_most)),
                  each-spelled (λ list. Number 8 list ▸ Number 8 (length (on_list v list)))
                      (λ list. number list ++ size_bytes v list) (filled v)
                      (λ i d lt. (
                        number (get_or (filled v) i d),
                        size_bytes v (get_or (filled v) i d),
                        refl,
                        long-spelled _ (filled-below i d lt),
                        long-spelled _
                            (omega (arith, size-few (get_or (filled v) i d))),
                      )),
                ),
              ),
            ))
      ]

  list-spelled : (rows : List ListRow) → All (λ row. FitsSigned w64 row.label) rows
      → ListPart rows (list_bytes rows)
  list-spelled rows h = (
    flat_map (λ row. row.code) rows,
    ids_bytes (map (λ row. row.label) rows),
    refl,
    each-spelled (λ row. Is row.code) (λ row. row.code) rows (λ i d lt. refl),
    subst (Each (λ row. Signed 8 row.label) rows)
        (sym (flat_map-map (signed_bytes 8) (λ (row : ListRow). row.label) rows))
        (each-spelled (λ row. Signed 8 row.label) (λ row. signed_bytes 8 row.label) rows
        (λ i d lt. signed-spelled _ (h i d lt))),
  )

  on-fits : (list : ℕ) → All (λ row. FitsSigned w64 row.label) (on_list v list)
  unfolding on_list
  on-fits list = All-filter (λ (row : ListRow). eqb list row.list)
      (λ (row : ListRow). FitsSigned w64 row.label) v.rows (λ i d lt. (legal.rows i d lt).label)

  regrouped : (a b c d e f g h i j k : List ℕ)
      → a ++ b ++ c ++ d ++ e ++ f ++ g ++ h ++ i ++ j ++ k ≡ a
      ++ (b ++ (c ++ (d ++ (e ++ (f ++ (g ++ (h ++ (i ++ (j ++ k)))))))))
  regrouped a b c d e f g h i j k = simp append_assoc

  pub ivf-spelled : Body (Ivf v) (ivf_bytes v)
  ivf-spelled =
      let flag = nat_le v.nlist (length v.centroids) in
      let rows = flat_map (λ list. list_bytes (on_list v list)) (filled v) in
      let tail = sizes_bytes v ++ rows in
      let lists = codes "ilar" ++ (number v.nlist ++ (number (v.dim / 8) ++ tail)) in
      let middle = flat_bytes v.dim v.centroids ++ (direct_bytes v ++ lists) in
      let dim = legal.dim.at_most in (
        codes "IBwF",
        head v.dim (length v.rows) flag ++ (number v.nlist ++ (number v.nprobe ++ middle)),
        regrouped (codes "IBwF") (head v.dim (length v.rows) flag) (number v.nlist) (number v.nprobe)
            (flat_bytes v.dim v.centroids) (direct_bytes v) (codes "ilar") (number v.nlist) (number (v.dim / 8))
            (sizes_bytes v) rows,
        refl,
        (
          head v.dim (length v.rows) flag,
          number v.nlist ++ (number v.nprobe ++ middle),
          refl,
          head-spelled (length v.centroids ≡ v.nlist) v.dim (length v.rows) flag dim (omega (arith, rows-few.0))
              (λ e. (let le = leb-true v.nlist (length v.centroids) e in omega (arith, le, legal.held))),
          (
            number v.nlist,
            number v.nprobe ++ middle,
            refl,
            long-spelled v.nlist (omega (arith, legal.nlist_most)),
            (
              number v.nprobe,
              middle,
              refl,
              long-spelled v.nprobe (omega (arith, legal.nprobe_most)),
              (
                flat_bytes v.dim v.centroids,
                direct_bytes v ++ lists,
                refl,
                flat-spelled v.dim v.centroids dim legal.centroids rows-few.2 (omega (arith, rows-few.1)),
                (
                  direct_bytes v,
                  lists,
                  refl,
                  direct-spelled,
                  (
                    codes "ilar",
                    number v.nlist ++ (number (v.dim / 8) ++ tail),
                    refl,
                    refl,
                    (
                      number v.nlist,
                      number (v.dim / 8) ++ tail,
                      refl,
                      long-spelled v.nlist (omega (arith, legal.nlist_most)),
                      (
                        number (v.dim / 8),
                        tail,
                        refl,
                        long-spelled (v.dim / 8) (omega (arith, dim)),
                        (
                          sizes_bytes v,
                          rows,
                          refl,
                          sizes-spelled,
                          each-spelled (λ list. ListPart (on_list v list)) (λ list. list_bytes (on_list v list))
                              (filled v) (λ i d lt. list-spelled _ (on-fits _)),
                        ),
                      ),
                    ),
                  ),
                ),
              ),
            ),
          ),
        ),
      )

pub flat-value-spelled : (v : CodeList) → IsLegalFlat v → Body (Flat v) (flat_bytes v.dim v.codes)
flat-value-spelled v legal =
    let a : length v.codes * 16 ≤ length v.codes * (v.dim / 8 + 16 + 64 * 0) = grind arith in
    let b : length v.codes * (v.dim / 8) ≤ length v.codes * (v.dim / 8 + 16 + 64 * 0) = grind arith in
    flat-spelled v.dim v.codes legal.dim.at_most legal.codes (omega (arith, b, legal.load))
    (omega (arith, a, legal.load))
