-- Labels, and the codes and the outer ids behind them.
use Rattle.std.specs.Prelude.{ℕ, ℤ, pos, nat_abs, Bool, true, List, []}
use Rattle.std.specs.Prelude.{Option, None, Some, find, unwrap_or, slice_index_or}
use Rattle.std.specs.Option.{option_map}
use Rattle.std.specs.Ordering.{int_eq}
use Rattle.bcodes.specs.Value.{Row, Flat, Ivf, IndexValue, Bare, IdMap, rows_of}

-- whether the code of a label is found: in a plain Flat it is, and in a plain IVF by its direct map
abbrev pub finds_labels : IndexValue → Option Bool
finds_labels (Bare (Flat v)) = Some true
finds_labels (Bare (Ivf v)) = Some v.direct
finds_labels v = None

-- the code of the row with a label
abbrev pub code_labelled : IndexValue → ℕ → List ℕ
code_labelled v label =
    unwrap_or (option_map (λ (row : Row). row.code) (find (λ (row : Row). int_eq row.label (pos label)) (rows_of v))) []

-- the outer id of an inner label, which is the label itself where there are no outer ids
abbrev pub outer_label : IndexValue → ℤ → ℤ
outer_label (Bare v) label = label
outer_label (IdMap name v ids) label = slice_index_or ids (nat_abs label) (pos 0)
