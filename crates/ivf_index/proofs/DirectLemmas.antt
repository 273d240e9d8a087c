-- Lemmas on the direct map.
use Rattle.std.proofs.Common.{◌≡◌, ℕ, zero, suc, ◌+◌, ◌-◌, ◌<◌, inl, inr, Bool, true, false, cond}
use Rattle.std.proofs.Common.{nat_eq, ℤ, pos, List, [], ◌∷◌, ◌++◌, length, take, map, get_or, refl, sym, ap, ◌∙◌}
use Rattle.std.proofs.Common.{subst, arith, length-append, true≢false}
use Rattle.std.specs.declared.option.Option.{Option}
use Rattle.std.specs.declared.option.Option.TheVariants.{None, Some}
use Rattle.std.specs.List.{All}
use Rattle.std.proofs.lemmas.List.{get_or_append_left, get_or-append-add, map-append, length-map}
use Rattle.std.proofs.lemmas.Bool.{eq-eqb, cases_lt}
use Rattle.bcodes.specs.Value.{Row, ListRow, IsNumbering, labels_from}
use Rattle.code_pool.specs.Lists.{PoolLists}
use Rattle.flip_walk.specs.Patterns.{times}
use Rattle.row_lists.specs.Put.{put_on}
use Rattle.ivf_index.specs.Table.{put_rows}
use Rattle.code_pool.specs.Lists.{no_row}
use Rattle.ivf_index.specs.Entries.{ArePlaces}
use Rattle.ivf_index.specs.Direct.{IsPlaced, IsDirect, IsDirectOf, has_map, extended}
use Rattle.row_lists.specs.Rows.{lists_in}
use Rattle.row_lists.proofs.PutLemmas.{turned}
use Rattle.ivf_index.proofs.TableLemmas.{length-put_rows}
use Rattle.ivf_index.proofs.NumberingLemmas.{numbering_grown}

-- the label of a row on a list
abbrev pub label_on : ListRow → ℤ
label_on row = row.label

-- there is none
pub no_map : (entries : Option (List ℕ)) (nlist : ℕ) (lists : ℕ → List Row) (rows : List ListRow)
    → has_map entries ≡ false → IsDirectOf entries nlist lists rows
no_map None nlist lists rows h = tt
no_map (Some entries) nlist lists rows h = absurd (true≢false h)

-- ---- where the rows of an add stand

put_at_step : (t : Bool) (m : ℕ) (row : Row) (rows : List Row)
    → get_or (cond t (row ∷ rows) rows) (cond {A = ℕ} t 1 0 + m) no_row ≡ get_or rows m no_row
put_at_step true m row rows = let e : 1 + m ≡ suc m = omega arith in rw e refl
put_at_step false m row rows = let e : 0 + m ≡ m = omega arith in rw e refl

put_some_step : (t : Bool) (m : ℕ) (row : Row) (rows : List Row) → m < length rows
    → cond {A = ℕ} t 1 0 + m < length (cond t (row ∷ rows) rows)
put_some_step true m row rows h = omega arith
put_some_step false m row rows h = omega arith

-- row j goes behind those before it on its list
pub put_on-at : (ns : List ℕ) (rows : List Row) (j : ℕ) → length ns ≡ length rows → j < length ns
    → get_or (put_on (get_or ns j 0) ns rows) (times (get_or ns j 0) (take j ns)) no_row ≡ get_or rows j no_row
put_on-at [] rows j same h = absurd (omega arith)
put_on-at (n ∷ ns) [] j same h = absurd (omega arith)
put_on-at (n ∷ ns) (row ∷ rows) zero same h = ap
    (λ (t : Bool). get_or (cond t (row ∷ put_on n ns rows) (put_on n ns rows)) 0 no_row) (eq-eqb n n refl)
put_on-at (n ∷ ns) (row ∷ rows) (suc j) same h =
    let l : ℕ = get_or ns j 0 in
    ap (λ (t : Bool). get_or (cond (nat_eq l n) (row ∷ put_on l ns rows) (put_on l ns rows))
    (cond {A = ℕ} t 1 0 + times l (take j ns)) no_row) (turned n l)
    ∙ put_at_step (nat_eq l n) (times l (take j ns)) row (put_on l ns rows)
    ∙ put_on-at ns rows j (omega arith) (omega arith)

pub put_on-within : (ns : List ℕ) (rows : List Row) (j : ℕ) → length ns ≡ length rows → j < length ns
    → times (get_or ns j 0) (take j ns) < length (put_on (get_or ns j 0) ns rows)
put_on-within [] rows j same h = absurd (omega arith)
put_on-within (n ∷ ns) [] j same h = absurd (omega arith)
put_on-within (n ∷ ns) (row ∷ rows) zero same h = rw (eq-eqb n n refl) (omega arith)
put_on-within (n ∷ ns) (row ∷ rows) (suc j) same h =
    let l : ℕ = get_or ns j 0 in
    subst (λ (t : Bool). cond {A = ℕ} t 1 0 + times l (take j ns) < length
    (cond (nat_eq l n) (row ∷ put_on l ns rows) (put_on l ns rows))) (turned l n)
    (put_some_step (nat_eq l n) (times l (take j ns)) row (put_on l ns rows)
    (put_on-within ns rows j (omega arith) (omega arith)))

pub labels-put_rows : (ns : List ℕ) (rows : List Row) → length ns ≡ length rows
    → map label_on (put_rows ns rows) ≡ map (λ (row : Row). row.label) rows
labels-put_rows [] [] e = refl
labels-put_rows [] (row ∷ rows) e = absurd (omega arith)
labels-put_rows (n ∷ ns) [] e = refl
labels-put_rows (n ∷ ns) (row ∷ rows) e = ap (λ (ls : List ℤ). row.label ∷ ls) (labels-put_rows ns rows (omega arith))

-- ---- the map after an add

get-labels_from : (i n j : ℕ) (d : ℤ) → j < n → get_or (labels_from i n) j d ≡ pos (i + j)
get-labels_from i zero j d h = absurd (omega arith)
get-labels_from i (suc n) zero d h = ap pos (omega arith)
get-labels_from i (suc n) (suc j) d h = get-labels_from (i + 1) n j d (omega arith) ∙ ap pos (omega arith)

pub label-get : (rows : List Row) (j : ℕ) → j < length rows
    → (get_or rows j no_row).label ≡ get_or (map (λ (row : Row). row.label) rows) j (pos 0)
label-get [] j h = absurd (omega arith)
label-get (row ∷ rows) zero h = refl
label-get (row ∷ rows) (suc j) h = label-get rows j (omega arith)

pub record IsPutOn (lists after : ℕ → List Row) (ns : List ℕ) (new : List Row) (lists_most : ℕ) : Type 0 where
  pub same : length ns ≡ length new
  pub known : All (λ n. n < lists_most) ns
  pub rows : (l : ℕ) → after l ≡ lists l ++ put_on l ns new

placed_old : (lists after : ℕ → List Row) (ns : List ℕ) (new : List Row) (nlist p e : ℕ)
    → IsPutOn lists after ns new nlist → IsPlaced lists nlist p e → IsPlaced after nlist p e
placed_old lists after ns new nlist p e put at = record {
  list = at.list;
  offset = at.offset;
  is = at.is;
  list_below = at.list_below;
  within = omega (arith, at.within, ap length (put.rows at.list), length-append (lists at.list) (put_on at.list ns new));
  label_is = ap (λ (rs : List Row). (get_or rs at.offset no_row).label) (put.rows at.list)
      ∙ ap (λ (row : Row). row.label)
      (get_or_append_left (lists at.list) (put_on at.list ns new) no_row at.offset at.within) ∙ at.label_is;
}

placed_new : (p : PoolLists) (after : ℕ → List Row) (ns places : List ℕ) (new : List Row) (nlist count j : ℕ)
    → IsPutOn (lists_in p) after ns new nlist → ArePlaces p ns (length ns) places
    → map (λ (row : Row). row.label) new ≡ labels_from count (length ns) → j < length ns
    → IsPlaced after nlist (count + j) (get_or places j 0)
placed_new p after ns places new nlist count j put at labels h =
    let l : ℕ = get_or ns j 0 in
    let t : ℕ = times l (take j ns) in
    record {
      list = l;
      offset = length (lists_in p l) + t;
      is = at.each j h;
      list_below = put.known j 0 h;
      within = omega (
        arith,
        put_on-within ns new j put.same h,
        ap length (put.rows l),
        length-append (lists_in p l) (put_on l ns new),
      );
      label_is = ap (λ (rs : List Row). (get_or rs (length (lists_in p l) + t) no_row).label) (put.rows l)
          ∙ ap (λ (row : Row). row.label) (get_or-append-add (lists_in p l) (put_on l ns new) t no_row
          ∙ put_on-at ns new j put.same h)
          ∙ label-get new j (omega (arith, put.same)) ∙ ap (λ (ls : List ℤ). get_or ls j (pos 0)) labels
          ∙ get-labels_from count (length ns) j (pos 0) h;
    }

direct_some : (p : PoolLists) (after : ℕ → List Row) (entries ns places : List ℕ) (new : List Row)
    (rows : List ListRow) (nlist : ℕ) → IsPutOn (lists_in p) after ns new nlist → ArePlaces p ns (length ns) places
    → map (λ (row : Row). row.label) new ≡ labels_from (length rows) (length ns)
    → IsDirect entries nlist (lists_in p) rows
    → IsDirect (entries ++ places) nlist after (rows ++ put_rows ns new)
direct_some p after entries ns places new rows nlist put at labels d = record {
  count = length-append entries places
      ∙ sym (length-append rows (put_rows ns new)
      ∙ omega (arith, length-put_rows ns new put.same, put.same, at.count, d.count));
  placed = λ k h. elim (cases_lt k (length entries)) [
    | inl low ↦ subst (IsPlaced after nlist k) (sym (get_or_append_left entries places 0 k low))
        (placed_old (lists_in p) after ns new nlist k (get_or entries k 0) put (d.placed k low))
    | inr high ↦
        let j : ℕ = k - length entries in
        let is : k ≡ length entries + j = omega arith in
        let inside : j < length ns = omega (arith, h, length-append entries places, at.count) in
        let label : length rows + j ≡ k = omega (arith, d.count) in
        subst (λ (n : ℕ). IsPlaced after nlist n (get_or (entries ++ places) k 0)) label
        (subst (IsPlaced after nlist (length rows + j))
        (sym (ap (λ (n : ℕ). get_or (entries ++ places) n 0) is ∙ get_or-append-add entries places j 0))
        (placed_new p after ns places new nlist (length rows) j put at labels inside))
  ];
  numbering =
      let before : List ℤ = map label_on rows in
      let long : length before ≡ length rows = length-map rows label_on in
      let all : map label_on (rows ++ put_rows ns new) ≡ before ++ labels_from (length before) (length ns)
      = map-append label_on rows (put_rows ns new)
      ∙ ap (λ (ls : List ℤ). before ++ ls) (labels-put_rows ns new put.same ∙ labels
      ∙ ap (λ n. labels_from n (length ns)) (sym long)) in
      subst IsNumbering (sym all) (numbering_grown before (length ns) d.numbering);
}

pub direct_added : (p : PoolLists) (after : ℕ → List Row) (entries : Option (List ℕ)) (ns places : List ℕ)
    (new : List Row) (rows : List ListRow) (nlist : ℕ) → IsPutOn (lists_in p) after ns new nlist
    → ArePlaces p ns (length ns) places
    → (has_map entries ≡ true → map (λ (row : Row). row.label) new ≡ labels_from (length rows) (length ns))
    → IsDirectOf entries nlist (lists_in p) rows
    → IsDirectOf (extended entries places) nlist after (rows ++ put_rows ns new)
direct_added p after None ns places new rows nlist put at labels d = tt
direct_added p after (Some entries) ns places new rows nlist put at labels d = direct_some p after entries ns places
    new rows nlist put at (labels refl) d

pub has_map-extended : (entries : Option (List ℕ)) (places : List ℕ) → has_map (extended entries places) ≡ has_map entries
has_map-extended None places = refl
has_map-extended (Some entries) places = refl
