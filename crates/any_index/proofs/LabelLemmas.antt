-- Lemmas on the code of a label.
use Rattle.std.proofs.Common.{◌≡◌, ℕ, zero, suc, ◌+◌, ◌/◌, ◌<◌, ◌≤◌, pos, Bool, true, List, [], ◌∷◌, length, get_or, map, Some, refl, sym, ap, ◌∙◌}
use Rattle.std.proofs.Common.{arith, inl, inr, add-zero}
use Rattle.std.specs.Prelude.{find, unwrap_or}
use Rattle.std.specs.List.{All}
use Rattle.std.specs.Option.{option_map}
use Rattle.std.specs.Ordering.{int_eq}
use Rattle.std.proofs.lemmas.Bool.Decides.{Decides-int_eq}
use Rattle.std.proofs.lemmas.List.Elements.{All-head, All-tail}
use Rattle.std.proofs.lemmas.List.{length-map}
use Rattle.bcodes.specs.Value.{Row, ListRow, CodeList, IvfValue, Flat, Ivf, Hash, Multi, IndexValue, Bare, IdMap}
use Rattle.bcodes.specs.Value.{numbered, row_of, inner_of, count_of, dim_of, IsListRow, IsLegal}
use Rattle.ivf_index.specs.Found.{code_labelled as code_on_lists}
use Rattle.ivf_index.proofs.NumberingLemmas.{int_eq_cases, labelled, labelled-cons, not_here}
use Rattle.any_index.specs.Labels.{code_labelled, finds_labels}

-- the code of the first of some rows with a label
abbrev code_among : List Row → ℕ → List ℕ
code_among rows label =
    unwrap_or (option_map (λ (row : Row). row.code) (find (λ (row : Row). int_eq row.label (pos label)) rows)) []

pos_same : (m n : ℕ) → pos m ≡ pos n → m ≡ n
pos_same m n e = cc

-- codes under their positions
code_numbered : (i k : ℕ) (cs : List (List ℕ)) → k < length cs → code_among (numbered i cs) (i + k) ≡ get_or cs k []
code_numbered i k [] h = absurd (omega arith)
code_numbered i zero (c ∷ cs) h =
    let here : int_eq (pos i) (pos (i + 0)) ≡ true = (Decides-int_eq (pos i) (pos (i + 0))).1
    (ap (λ (n : ℕ). pos n) (sym (add-zero i))) in
    rw here refl
code_numbered i (suc k) (c ∷ cs) h =
    elim (int_eq_cases (pos i) (pos (i + suc k))) [
      | inl e ↦ let same : i ≡ i + suc k = pos_same i (i + suc k) e.1 in absurd (omega arith)
      | inr e ↦
          let on : i + suc k ≡ i + 1 + k = omega arith in
          rw e.0 (ap (λ (n : ℕ). code_among (numbered (i + 1) cs) n) on ∙ code_numbered (i + 1) k cs (omega arith))
    ]

code_rows : (rows : List ListRow) (label : ℕ) → code_on_lists rows label ≡ code_among (map row_of rows) label
code_rows [] label = refl
code_rows (row ∷ rows) label =
    elim (int_eq_cases row.label (pos label)) [
      | inl e ↦ rw e.0 refl
      | inr e ↦ rw e.0 (code_rows rows label)
    ]

-- an index that finds labels has no outer ids
pub code_in_flat : (v : IndexValue) (u : CodeList) (label : ℕ) → finds_labels v ≡ Some true → Flat u ≡ inner_of v
    → label < count_of v → get_or u.codes label [] ≡ code_labelled v label
code_in_flat (Bare w) u label finds is low =
    rw (← is)
    (let here : label < length u.codes = rw (← is) at low in
    let on : 0 + label ≡ label = omega arith in
    sym (code_numbered 0 label u.codes here) ∙ ap (λ (n : ℕ). code_among (numbered 0 u.codes) n) on)
code_in_flat (IdMap name w ids) u label finds is low = cc

pub code_in_ivf : (v : IndexValue) (u : IvfValue) (label : ℕ) → finds_labels v ≡ Some true → Ivf u ≡ inner_of v
    → code_on_lists u.rows label ≡ code_labelled v label
code_in_ivf (Bare w) u label finds is = rw (← is) (code_rows u.rows label)
code_in_ivf (IdMap name w ids) u label finds is = cc

size_on_lists : (d nlist label : ℕ) (rows : List ListRow) → All (IsListRow d nlist) rows
    → 1 ≤ labelled (pos label) (map (λ (row : ListRow). row.label) rows) → length (code_on_lists rows label) ≡ d / 8
size_on_lists d nlist label [] legal h = absurd (omega arith)
size_on_lists d nlist label (row ∷ rows) legal h =
    elim (int_eq_cases row.label (pos label)) [
      | inl e ↦ rw e.0 (All-head (IsListRow d nlist) row rows legal).code.size
      | inr e ↦ rw e.0 (size_on_lists d nlist label rows (All-tail (IsListRow d nlist) row rows legal) (omega (
        arith,
        h,
        labelled-cons (pos label) row.label (map (λ (r : ListRow). r.label) rows),
        not_here (pos label) row.label (λ same. e.1 (sym same)),
      )))
    ]

some_true : (b : Bool) → Some b ≡ Some true → b ≡ true
some_true b e = cc

pub size_labelled : (v : IndexValue) (label : ℕ) → IsLegal v → finds_labels v ≡ Some true → label < count_of v
    → length (code_labelled v label) ≡ dim_of v / 8
size_labelled (Bare (Flat u)) label legal finds low =
    ap (λ (code : List ℕ). length code) (sym (code_in_flat (Bare (Flat u)) u label finds refl low))
    ∙ (legal.codes label [] low).size
size_labelled (Bare (Ivf u)) label legal finds low =
    let once : labelled (pos label) (map (λ (row : ListRow). row.label) u.rows) ≡ 1
    = legal.direct (some_true u.direct finds) label
    (omega (arith, low, length-map u.rows (λ (row : ListRow). row.label))) in
    ap (λ (code : List ℕ). length code) (sym (code_in_ivf (Bare (Ivf u)) u label finds refl))
    ∙ size_on_lists u.dim u.nlist label u.rows legal.rows (omega (arith, once))
size_labelled (Bare (Hash u)) label legal finds low = cc
size_labelled (Bare (Multi u)) label legal finds low = cc
size_labelled (IdMap name u ids) label legal finds low = cc
