-- Lemmas on places that are noted under labels.
use Rattle.std.proofs.Common.{◌≡◌, ℕ, zero, suc, ◌+◌, ◌<◌, ◌≤◌, ◌⊎◌, inl, inr, Bool, true, false, cond}
use Rattle.std.proofs.Common.{nat_eq, nat_abs, ℤ, pos, List, [], ◌∷◌, length, take, drop, map, get_or, set}
use Rattle.std.proofs.Common.{replicate, refl, sym, ap, ◌∙◌, subst, arith}
use Rattle.std.proofs.Common.{get_or-set_same, get_or-set_other}
use Rattle.std.proofs.lemmas.List.{take_more, take_all, get_or-take, get_or-drop, length-map}
use Rattle.std.proofs.Math.Seq.{take-add}
use Rattle.std.proofs.lemmas.Bool.{cases_lt, eq-eqb}
use Rattle.std.proofs.Math.ListN.{get_or-eq_default}
use Rattle.std.proofs.lemmas.Bool.Decides.{eqb_tells}
use Rattle.bcodes.specs.Value.{Row, ListRow, IsNumbering, row_of}
use Rattle.code_pool.specs.Lists.{PoolLists, PoolList, IsPart, no_list}
use Rattle.ivf_index.specs.Table.{list_of, on_list, IsTable}
use Rattle.flip_walk.specs.Patterns.{under}
use Rattle.code_pool.specs.Lists.{no_row}
use Rattle.ivf_index.specs.Direct.{entry, IsPlaced, IsDirect}
use Rattle.ivf_index.specs.Places.{IsAbsent, labels_on, IsRunNoted, IsListNoted, AreNoted, HasGap}
use Rattle.row_lists.specs.Rows.{lists_in}
use Rattle.ivf_index.proofs.DirectLemmas.{label_on, label-get}
use Rattle.ivf_index.proofs.FoundLemmas.{on_least}
use Rattle.ivf_index.proofs.NumberingLemmas.{labelled, labelled-cons, labelled-append, not_here}
use Rattle.ivf_index.proofs.NumberingLemmas.{each_once, no_others, once_least}

-- ---- a run

pub run_none : (list from : ℕ) (labels : List ℤ) (before : List ℕ) → IsRunNoted list from labels 0 before before
run_none list from labels before p h = inl (refl, refl)

absent_more : (p i : ℕ) (labels : List ℤ) → i < length labels → IsAbsent p (take i labels)
    → (pos p ≡ get_or labels i (pos 0) → ⊥) → IsAbsent p (take (i + 1) labels)
absent_more p i labels h absent other =
    ap (labelled (pos p)) (take_more labels i (pos 0) h)
    ∙ labelled-append (pos p) (take i labels) (get_or labels i (pos 0) ∷ [])
    ∙ omega (
      arith,
      absent,
      labelled-cons (pos p) (get_or labels i (pos 0)) [],
      not_here (pos p) (get_or labels i (pos 0)) other,
    )

run_step : (list from i p k e : ℕ) (labels : List ℤ) (before mid after : List ℕ) → i < length labels
    → get_or labels i (pos 0) ≡ pos k → after ≡ set mid k e → (p ≡ k → ⊥)
    → ((get_or mid p 0 ≡ get_or before p 0) × IsAbsent p (take i labels)) ⊎
    ((j : ℕ) × (j < i) × (j < length labels) × (get_or labels j (pos 0) ≡ pos p)
    × (get_or mid p 0 ≡ entry list (from + j)))
    → ((get_or after p 0 ≡ get_or before p 0) × IsAbsent p (take (i + 1) labels)) ⊎
    ((j : ℕ) × (j < i + 1) × (j < length labels) × (get_or labels j (pos 0) ≡ pos p)
    × (get_or after p 0 ≡ entry list (from + j)))
run_step list from i p k e labels before mid after h label is other (inl so) =
    inl (
      ap (λ (ps : List ℕ). get_or ps p 0) is ∙ get_or-set_other mid k p e 0 other ∙ so.0,
      absent_more p i labels h so.1 (λ same. other (ap nat_abs (same ∙ label))),
    )
run_step list from i p k e labels before mid after h label is other (inr so) =
    inr (
      so.0,
      omega (arith, so.1),
      so.2,
      so.3,
      ap (λ (ps : List ℕ). get_or ps p 0) is
          ∙ get_or-set_other mid k p e 0 other ∙ so.4,
    )

pub run_more : (list from i k e : ℕ) (labels : List ℤ) (before mid after : List ℕ)
    → IsRunNoted list from labels i before mid → i < length labels → get_or labels i (pos 0) ≡ pos k → k < length mid
    → after ≡ set mid k e → e ≡ entry list (from + i)
    → IsRunNoted list from labels (i + 1) before after
run_more list from i k e labels before mid after so h label low is place p inside =
    elim (eqb_tells p k) [
      | inl t ↦ inr (
        i,
        omega arith,
        h,
        label ∙ ap pos (sym t.1),
        ap (λ (ps : List ℕ). get_or ps p 0) is
            ∙ ap (λ (n : ℕ). get_or (set mid k e) n 0) t.1 ∙ get_or-set_same mid k e 0 low ∙ place,
      )
      | inr t ↦ run_step list from i p k e labels before mid after h label is t.1 (so p inside)
    ]

-- ---- a list

pub list_none : (lists : ℕ → List Row) (nlist list : ℕ) (before : List ℕ) → IsListNoted lists nlist list 0 before before
list_none lists nlist list before p h = inl (refl, refl)

module _ (lists : ℕ → List Row) (nlist list from : ℕ) (labels : List ℤ) (known : list < nlist)
    (part : IsPart (labels_on lists list) from labels) where
  long : length (labels_on lists list) ≡ length (lists list)
  long = length-map (lists list) (λ (row : Row). row.label)

  pub label_at : (j : ℕ) → j < length labels → (get_or (lists list) (from + j) no_row).label ≡ get_or labels j (pos 0)
  label_at j h =
      let all : List ℤ = labels_on lists list in
      label-get (lists list) (from + j) (omega (arith, part.within, long))
      ∙ sym (ap (λ (ls : List ℤ). get_or ls j (pos 0)) part.labels
      ∙ get_or-take (length labels) (drop from all) j (pos 0) h ∙ get_or-drop from all j (pos 0))

  absent_run : (p : ℕ) → IsAbsent p (take from (labels_on lists list)) → IsAbsent p (take (length labels) labels)
      → IsAbsent p (take (from + length labels) (labels_on lists list))
  absent_run p before now =
      let all : List ℤ = labels_on lists list in
      ap (labelled (pos p)) (take-add from (length labels) all)
      ∙ labelled-append (pos p) (take from all) (take (length labels) (drop from all))
      ∙ omega (
        arith,
        before,
        now,
        ap (labelled (pos p)) (take_all (length labels) labels (omega arith)),
        ap (labelled (pos p)) part.labels,
      )

  list_step : (p : ℕ) (before mid after : List ℕ)
      → ((get_or mid p 0 ≡ get_or before p 0) × IsAbsent p (take from (labels_on lists list))) ⊎ IsPlaced lists nlist
      p (get_or mid p 0)
      → ((get_or after p 0 ≡ get_or mid p 0) × IsAbsent p (take (length labels) labels)) ⊎
      ((j : ℕ) × (j < length labels) × (j < length labels) × (get_or labels j (pos 0) ≡ pos p)
      × (get_or after p 0 ≡ entry list (from + j)))
      → ((get_or after p 0 ≡ get_or before p 0) × IsAbsent p (take (from + length labels) (labels_on lists list))) ⊎
      IsPlaced lists nlist p (get_or after p 0)
  list_step p before mid after (inl so) (inl run) = inl (run.0 ∙ so.0, absent_run p so.1 run.1)
  list_step p before mid after (inr so) (inl run) = inr (subst (IsPlaced lists nlist p) (sym run.0) so)
  list_step p before mid after so (inr run) = inr (record {
    list = list;
    offset = from + run.0;
    is = run.4;
    list_below = known;
    within = omega (arith, part.within, long, run.1);
    label_is = label_at run.0 run.1 ∙ run.3;
  })

  pub list_more : (before mid after : List ℕ) → length mid ≡ length before
      → IsListNoted lists nlist list from before mid → IsRunNoted list from labels (length labels) mid after
      → IsListNoted lists nlist list (from + length labels) before after
  list_more before mid after same so run p h = list_step p before mid after (so p h) (run p (omega (arith, h, same)))

-- ---- all lists

get-replicate : (n e p : ℕ) → p < n → get_or (replicate n e) p 0 ≡ e
get-replicate zero e p h = absurd (omega arith)
get-replicate (suc n) e zero h = refl
get-replicate (suc n) e (suc p) h = get-replicate n e p (omega arith)

pub lists_none : (lists : ℕ → List Row) (nlist none : ℕ) (places : List ℕ) → places ≡ replicate (length places) none
    → AreNoted lists nlist 0 none places
lists_none lists nlist none places e p h = inl (
  ap (λ (ps : List ℕ). get_or ps p 0) e
      ∙ get-replicate (length places) none p h,
  λ l low. absurd (omega arith),
)

lists_step : (lists : ℕ → List Row) (nlist n none p : ℕ) (mid after : List ℕ)
    → ((get_or mid p 0 ≡ none) × ((l : ℕ) → l < n → IsAbsent p (labels_on lists l))) ⊎ IsPlaced lists nlist p
    (get_or mid p 0)
    → ((get_or after p 0 ≡ get_or mid p 0) × IsAbsent p (take (length (lists n)) (labels_on lists n))) ⊎ IsPlaced
    lists nlist p (get_or after p 0)
    → ((get_or after p 0 ≡ none) × ((l : ℕ) → l < n + 1 → IsAbsent p (labels_on lists l))) ⊎ IsPlaced lists nlist p
    (get_or after p 0)
lists_step lists nlist n none p mid after so (inr list) = inr list
lists_step lists nlist n none p mid after (inr so) (inl list) = inr (subst (IsPlaced lists nlist p) (sym list.0) so)
lists_step lists nlist n none p mid after (inl so) (inl list) =
    let whole : IsAbsent p (labels_on lists n) = sym
    (ap (labelled (pos p))
    (take_all (length (lists n)) (labels_on lists n)
    (omega (arith, length-map (lists n) (λ (row : Row). row.label))))) ∙ list.1 in
    inl (
      list.0 ∙ so.0,
      λ l low. elim (cases_lt l n) [
        | inl old ↦ so.1 l old
        | inr new ↦ let e : n ≡ l = omega arith in subst (λ m. IsAbsent p (labels_on lists m)) e whole
      ],
    )

pub lists_more : (lists : ℕ → List Row) (nlist n none : ℕ) (mid after : List ℕ) → length after ≡ length mid
    → AreNoted lists nlist n none mid → IsListNoted lists nlist n (length (lists n)) mid after
    → AreNoted lists nlist (n + 1) none after
lists_more lists nlist n none mid after same so list p h =
    let inside : p < length mid = omega (arith, h, same) in
    lists_step lists nlist n none p mid after (so p inside) (list p inside)

placed_or_none : (lists : ℕ → List Row) (nlist n none p : ℕ) (places : List ℕ) → (get_or places p 0 ≡ none → ⊥)
    → ((get_or places p 0 ≡ none) × ((l : ℕ) → l < n → IsAbsent p (labels_on lists l))) ⊎ IsPlaced lists nlist p
    (get_or places p 0) → IsPlaced lists nlist p (get_or places p 0)
placed_or_none lists nlist n none p places other (inl so) = absurd (other so.0)
placed_or_none lists nlist n none p places other (inr so) = so

pub all_placed : (lists : ℕ → List Row) (nlist n none p : ℕ) (places : List ℕ) → AreNoted lists nlist n none places
    → p < length places → (get_or places p 0 ≡ none → ⊥) → IsPlaced lists nlist p (get_or places p 0)
all_placed lists nlist n none p places so h other = placed_or_none lists nlist n none p places other (so p h)

no_such : (lists : ℕ → List Row) (nlist p e : ℕ) → nlist ≤ 4194304 → ((l : ℕ) → length (lists l) < 2147483648)
    → e ≡ 18446744073709551615 → IsPlaced lists nlist p e → ⊥
no_such lists nlist p e few small is at = omega (arith, at.is, at.list_below, at.within, small at.list)

beyond : (p : PoolLists) (l : ℕ) → length p.lists ≤ l → lists_in p l ≡ []
beyond p l h = ap (λ (list : PoolList). list.rows) (get_or-eq_default p.lists no_list h)

missing_step : (p : PoolLists) (n m : ℕ) (places : List ℕ) → length p.lists ≤ n → length p.lists ≤ 4194304
    → ((l : ℕ) → length (lists_in p l) < 2147483648) → get_or places m 0 ≡ 18446744073709551615
    → ((get_or places m 0 ≡ 18446744073709551615) × ((l : ℕ) → l < n → IsAbsent m (labels_on (lists_in p) l))) ⊎
    IsPlaced (lists_in p) (length p.lists) m (get_or places m 0) → (l : ℕ) → IsAbsent m (labels_on (lists_in p) l)
missing_step p n m places all few small is (inr so) l = absurd
    (no_such (lists_in p) (length p.lists) m (get_or places m 0) few small is so)
missing_step p n m places all few small is (inl so) l =
    elim (cases_lt l n) [
      | inl low ↦ so.1 l low
      | inr high ↦ ap (λ (rs : List Row). labelled (pos m) (map (λ (row : Row). row.label) rs)) (beyond p l (omega arith))
    ]

pub missing : (p : PoolLists) (n m : ℕ) (places : List ℕ)
    → AreNoted (lists_in p) (length p.lists) n 18446744073709551615 places → length p.lists ≤ n
    → length p.lists ≤ 4194304 → ((l : ℕ) → length (lists_in p l) < 2147483648)
    → m < length places → get_or places m 0 ≡ 18446744073709551615 → HasGap (lists_in p) (length places)
missing p n m places so all few small h is = inr (m, h, missing_step p n m places all few small is (so m h))

-- ---- what the places tell of the labels

none_step : (t : Bool) (a : ℤ) (row : ListRow) (us : List ListRow)
    → labelled a (map (λ (row : Row). row.label) (map row_of (cond t (row ∷ us) us))) ≡ 0
    → labelled a (map (λ (row : Row). row.label) (map row_of us)) ≡ 0
none_step true a row us h = omega (arith, h, labelled-cons a row.label (map (λ (row : Row). row.label) (map row_of us)))
none_step false a row us h = h

none_on : (a : ℤ) (rows : List ListRow) → ((l : ℕ) → labelled a (map (λ (row : Row). row.label) (on_list rows l)) ≡ 0)
    → labelled a (map label_on rows) ≡ 0
none_on a [] h = refl
none_on a (row ∷ rows) h =
    let mine : labelled a (row.label ∷ map (λ (r : Row). r.label) (on_list rows row.list)) ≡ 0
    = sym (ap (λ (t : Bool). labelled a
    (map (λ (r : Row). r.label)
    (map row_of (cond t (row ∷ under list_of rows row.list) (under list_of rows row.list)))))
    (eq-eqb row.list row.list refl)) ∙ h row.list in
    omega (
      arith,
      labelled-cons a row.label (map label_on rows),
      labelled-cons a row.label (map (λ (r : Row). r.label) (on_list rows row.list)),
      mine,
      none_on a rows (λ l. none_step (nat_eq l row.list) a row (under list_of rows l) (h l)),
    )

-- with a gap the labels are not the numbers below their count
pub gap_no : (order : List ℕ) (lists : ℕ → List Row) (rows : List ListRow) (count : ℕ) → IsTable order lists rows
    → count ≡ length rows → HasGap lists count → IsNumbering (map label_on rows) → ⊥
gap_no order lists rows count t e (inl out) h =
    let l : ℕ = out.0 in
    let o : ℕ = out.1 in
    let a : ℤ = (get_or (lists l) o no_row).label in
    let some : 1 ≤ labelled a (map label_on rows) = on_least a rows l o (omega (arith, out.2, ap length (t.parts l)))
    (ap (λ (rs : List Row). (get_or rs o no_row).label) (sym (t.parts l))) in
    let long : length (map label_on rows) ≡ count = length-map rows label_on ∙ sym e in
    let none : labelled a (map label_on rows) ≡ 0 = no_others (map label_on rows) a (once_least (map label_on rows) h)
    (λ m low. out.3 m (omega (arith, low, long))) in
    omega (arith, some, none)
gap_no order lists rows count t e (inr miss) h =
    let long : length (map label_on rows) ≡ count = length-map rows label_on ∙ sym e in
    let none : labelled (pos miss.0) (map label_on rows) ≡ 0
    = none_on (pos miss.0) rows
    (λ l. ap (λ (rs : List Row). labelled (pos miss.0) (map (λ (row : Row). row.label) rs)) (sym (t.parts l))
    ∙ miss.2 l) in
    omega (arith, none, h miss.0 (omega (arith, miss.1, long)))

-- a place for each label makes a direct map
pub direct_of : (order : List ℕ) (lists : ℕ → List Row) (rows : List ListRow) (nlist : ℕ) (entries : List ℕ)
    → IsTable order lists rows → length entries ≡ length rows
    → ((p : ℕ) → p < length entries → IsPlaced lists nlist p (get_or entries p 0)) → IsDirect entries nlist lists rows
direct_of order lists rows nlist entries t e placed = record {
  count = e;
  placed = placed;
  numbering = each_once (map label_on rows) (λ m low.
      let at = placed m (omega (arith, low, length-map rows label_on, e)) in
      on_least (pos m) rows at.list at.offset (omega (arith, at.within, ap length (t.parts at.list)))
      (ap (λ (rs : List Row). (get_or rs at.offset no_row).label) (sym (t.parts at.list)) ∙ at.label_is));
}
