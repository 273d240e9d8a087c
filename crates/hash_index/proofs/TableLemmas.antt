-- Lemmas on rows in the order of addition.
use Rattle.std.proofs.Common.{◌≡◌, ℕ, List, sym, ap, ◌∙◌}
use Rattle.std.proofs.lemmas.List.{map-id}
use Rattle.bcodes.specs.Value.{Row}
use Rattle.flip_walk.specs.Patterns.{under}
use Rattle.row_lists.specs.Rows.{weave}
use Rattle.row_lists.proofs.WeaveLemmas.{woven as woven_shown}
use Rattle.hash_index.specs.Table.{number_of, IsTable}

-- lists that hold the same rows make the same table
pub table_same : (b : ℕ) (es : List (ℕ × ℕ)) (order : List ℕ) (f g : ℕ → List Row) (rows : List Row)
    → ((l : ℕ) → g l ≡ f l) → IsTable b es order f rows → IsTable b es order g rows
table_same b es order f g rows h t = record {
  numbering = t.numbering;
  known = t.known;
  numbers = t.numbers;
  parts = λ l. h l ∙ t.parts l;
  keys = t.keys;
}

-- the order and the lists give the rows back
pub woven : (b : ℕ) (es : List (ℕ × ℕ)) (order : List ℕ) (lists : ℕ → List Row) (rows : List Row)
    → IsTable b es order lists rows → weave order lists ≡ rows
woven b es order lists rows t =
    ap (λ (os : List ℕ). weave os lists) t.numbers
    ∙ woven_shown (number_of es b) (λ (row : Row). row) rows lists
    (λ l. t.parts l ∙ sym (map-id (under (number_of es b) rows l)))
    ∙ map-id rows
