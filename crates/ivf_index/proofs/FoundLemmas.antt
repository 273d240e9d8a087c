-- The direct map finds the code of a label.
use Rattle.std.proofs.Common.{◌≡◌, ℕ, zero, suc, ◌+◌, ◌*◌, ◌/◌, ◌%◌, ◌<◌, ◌≤◌, inl, inr, Bool, true}
use Rattle.std.proofs.Common.{false, cond, nat_eq, ℤ, pos, List, [], ◌∷◌, length, map, get_or, Option, Some, None}
use Rattle.std.proofs.Common.{unwrap_or, refl, sym, ap, ◌∙◌, subst, arith, true≢false}
use Rattle.std.specs.Option.{option_map}
use Rattle.std.specs.Ordering.{int_eq}
use Rattle.std.proofs.lemmas.List.{length-map}
use Rattle.std.proofs.lemmas.Bool.Decides.{Decides-int_eq}
use Rattle.bcodes.specs.Value.{Row, ListRow, row_of}
use Rattle.ivf_index.specs.Table.{list_of, on_list, IsTable}
use Rattle.flip_walk.specs.Patterns.{under}
use Rattle.code_pool.specs.Lists.{no_row}
use Rattle.ivf_index.specs.Direct.{IsPlaced, IsDirect, IsDirectOf, has_map, entries_or}
use Rattle.ivf_index.specs.Found.{code_labelled}
use Rattle.ivf_index.proofs.DirectLemmas.{label_on}
use Rattle.ivf_index.proofs.NumberingLemmas.{labelled, labelled-cons, int_eq_cases, here, not_here}

-- a row on a list stands among all
on_step : (t : Bool) (a : ℤ) (row : ListRow) (us rows : List ListRow) (i : ℕ)
    → i < length (map row_of (cond t (row ∷ us) us)) → (get_or (map row_of (cond t (row ∷ us) us)) i no_row).label ≡ a
    → ((j : ℕ) → j < length (map row_of us) → (get_or (map row_of us) j no_row).label ≡ a
    → 1 ≤ labelled a (map label_on rows)) → 1 ≤ labelled a (map label_on (row ∷ rows))
on_step true a row us rows zero h e rest = omega (
  arith,
  labelled-cons a row.label (map label_on rows),
  here a row.label (sym e),
)
on_step true a row us rows (suc i) h e rest = omega (
  arith,
  labelled-cons a row.label (map label_on rows),
  rest i (omega arith) e,
)
on_step false a row us rows i h e rest = omega (arith, labelled-cons a row.label (map label_on rows), rest i h e)

pub on_least : (a : ℤ) (rows : List ListRow) (l i : ℕ) → i < length (on_list rows l)
    → (get_or (on_list rows l) i no_row).label ≡ a → 1 ≤ labelled a (map label_on rows)
on_least a [] l i h e = absurd (omega arith)
on_least a (row ∷ rows) l i h e = on_step (nat_eq l row.list) a row (under list_of rows l) rows i h e
    (λ j low same. on_least a rows l j low same)

found_step : (t : Bool) (row : ListRow) (rows : List ListRow) → int_eq row.label row.label ≡ t
    → unwrap_or (option_map (λ (r : ListRow). r.code) (Some row)) [] ≡ row.code
found_step t row rows e = refl

find_here : (label : ℕ) (row : ListRow) (rows : List ListRow) → row.label ≡ pos label
    → code_labelled (row ∷ rows) label ≡ row.code
find_here label row rows e =
    let test : int_eq row.label (pos label) ≡ true = (Decides-int_eq row.label (pos label)).1 e in
    rw test refl

find_past : (label : ℕ) (row : ListRow) (rows : List ListRow) → (row.label ≡ pos label → ⊥)
    → code_labelled (row ∷ rows) label ≡ code_labelled rows label
find_past label row rows ne =
    elim (int_eq_cases row.label (pos label)) [
      | inl h ↦ absurd (ne h.1)
      | inr h ↦ rw h.0 refl
    ]

code_rest : (label : ℕ) (row : ListRow) (us rows : List ListRow) (i : ℕ)
    → labelled (pos label) (map label_on (row ∷ rows)) ≡ 1
    → (1 ≤ labelled (pos label) (map label_on rows)) × (labelled (pos label) (map label_on rows) ≡ 1
    → code_labelled rows label ≡ (get_or (map row_of us) i no_row).code)
    → code_labelled (row ∷ rows) label ≡ (get_or (map row_of us) i no_row).code
code_rest label row us rows i once rest =
    elim (int_eq_cases (pos label) row.label) [
      | inl h ↦ absurd (omega (
        arith,
        once,
        labelled-cons (pos label) row.label (map label_on rows),
        here (pos label) row.label h.1,
        rest.0,
      ))
      | inr h ↦ find_past label row rows (λ e. h.1 (sym e))
          ∙ rest.1 (omega (
            arith,
            once,
            labelled-cons (pos label) row.label (map label_on rows),
            not_here (pos label) row.label h.1,
          ))
    ]

code_step : (t : Bool) (label : ℕ) (row : ListRow) (us rows : List ListRow) (i : ℕ)
    → i < length (map row_of (cond t (row ∷ us) us)) → (get_or (map row_of (cond t (row ∷ us) us)) i no_row).label
    ≡ pos label
    → labelled (pos label) (map label_on (row ∷ rows)) ≡ 1
    → ((j : ℕ) → j < length (map row_of us) → (get_or (map row_of us) j no_row).label ≡ pos label
    → (1 ≤ labelled (pos label) (map label_on rows)) × (labelled (pos label) (map label_on rows) ≡ 1
    → code_labelled rows label ≡ (get_or (map row_of us) j no_row).code))
    → code_labelled (row ∷ rows) label ≡ (get_or (map row_of (cond t (row ∷ us) us)) i no_row).code
code_step true label row us rows zero h e once rest = find_here label row rows e
code_step true label row us rows (suc i) h e once rest = code_rest label row us rows i once (rest i (omega arith) e)
code_step false label row us rows i h e once rest = code_rest label row us rows i once (rest i h e)

-- the row of a label that stands once is the one that is found
pub code_on : (label : ℕ) (rows : List ListRow) (l i : ℕ) → i < length (on_list rows l)
    → (get_or (on_list rows l) i no_row).label ≡ pos label → labelled (pos label) (map label_on rows) ≡ 1
    → code_labelled rows label ≡ (get_or (on_list rows l) i no_row).code
code_on label [] l i h e once = absurd (omega arith)
code_on label (row ∷ rows) l i h e once =
    code_step (nat_eq l row.list) label row (under list_of rows l) rows i h e once
    (λ j low same. (on_least (pos label) rows l j low same, λ one. code_on label rows l j low same one))

-- the row of a label stands on a list at an offset
pub record IsFound (lists_most label l o : ℕ) (lists : ℕ → List Row) (rows : List ListRow) : Type 0 where
  pub list_below : l < lists_most
  pub within : o < length (lists l)
  pub code : (get_or (lists l) o no_row).code ≡ code_labelled rows label

parted : (e list offset : ℕ) → e ≡ list * 4294967296 + offset → offset < 4294967296
    → (e / 4294967296 ≡ list) × (e % 4294967296 ≡ offset)
parted e list offset is low = (omega arith, omega arith)

-- the parts of an entry
abbrev pub list_in : ℕ → ℕ
list_in e = e / 4294967296

abbrev pub offset_in : ℕ → ℕ
offset_in e = e % 4294967296

-- the row of an entry
pub found_at : (nlist label e : ℕ) (order : List ℕ) (lists : ℕ → List Row) (rows : List ListRow)
    → IsTable order lists rows → ((l : ℕ) → length (lists l) < 4294967296)
    → IsPlaced (on_list rows) nlist label e → labelled (pos label) (map label_on rows) ≡ 1
    → IsFound nlist label (list_in e) (offset_in e) lists rows
found_at nlist label e order lists rows t few at once =
    let here : lists at.list ≡ on_list rows at.list = t.parts at.list in
    let within : at.offset < length (lists at.list) = omega (arith, at.within, ap length here) in
    let parts = parted e at.list at.offset at.is (omega (arith, within, few at.list)) in
    let this : IsFound nlist label at.list at.offset lists rows = record {
      list_below = at.list_below;
      within = within;
      code = ap (λ (rs : List Row). (get_or rs at.offset no_row).code) here
          ∙ sym (code_on label rows at.list at.offset at.within at.label_is once);
    } in
    subst (λ (l : ℕ). IsFound nlist label l (offset_in e) lists rows) (sym parts.0)
    (subst (λ (o : ℕ). IsFound nlist label at.list o lists rows) (sym parts.1) this)

-- the entry of a label, and that the label comes once
pub record IsMappedOnce (nlist label : ℕ) (entries : List ℕ) (rows : List ListRow) : Type 0 where
  pub within : label < length entries
  pub placed : IsPlaced (on_list rows) nlist label (get_or entries label 0)
  pub once : labelled (pos label) (map label_on rows) ≡ 1

mapped_at : (entries : List ℕ) (nlist label : ℕ) (order : List ℕ) (lists : ℕ → List Row) (rows : List ListRow)
    → IsTable order lists rows → IsDirect entries nlist lists rows → label < length rows
    → IsMappedOnce nlist label entries rows
mapped_at entries nlist label order lists rows t d h =
    let at = d.placed label (omega (arith, h, d.count)) in
    let here : lists at.list ≡ on_list rows at.list = t.parts at.list in
    record {
      within = omega (arith, h, d.count);
      placed = record {
        list = at.list;
        offset = at.offset;
        is = at.is;
        list_below = at.list_below;
        within = omega (arith, at.within, ap length here);
        label_is = ap (λ (rs : List Row). (get_or rs at.offset no_row).label) (sym here) ∙ at.label_is;
      };
      once = d.numbering label (omega (arith, h, length-map rows label_on));
    }

pub mapped_once : (entries : Option (List ℕ)) (nlist label : ℕ) (order : List ℕ) (lists : ℕ → List Row)
    (rows : List ListRow) → IsTable order lists rows → IsDirectOf entries nlist lists rows
    → has_map entries ≡ true → label < length rows → IsMappedOnce nlist label (entries_or entries) rows
mapped_once None nlist label order lists rows t d on h = absurd (true≢false (sym on))
mapped_once (Some entries) nlist label order lists rows t d on h = mapped_at entries nlist label order lists rows t d h
