-- A Hash is legal.
use Rattle.std.proofs.Common.{ℕ, Bool, true, false, cond, nat_eq, List, [], ◌∷◌}
use Rattle.std.proofs.Common.{subst, refl}
use Rattle.std.specs.List.{All}
use Rattle.std.proofs.lemmas.List.Elements.{All-nil, All-cons, All-head, All-tail, All-weaker}
use Rattle.std.proofs.lemmas.Bool.{eq-eqb}
use Rattle.bcodes.specs.Ranges.{IsDim}
use Rattle.bcodes.specs.Value.{Row, IsRow, IsLegalHash, HasBytes}
use Rattle.code_pool.specs.Lists.{PoolLists, IsPoolRow, list_at}
use Rattle.flip_walk.specs.Patterns.{under}
use Rattle.hash_index.specs.Table.{number_of}
use Rattle.row_lists.specs.Rows.{lists_in}
use Rattle.hash_index.specs.Inside.{rows_in_order, IsHash}

without : (P : Row → Type 0) (row : Row) (rows : List Row) (t : Bool) → All P (cond t (row ∷ rows) rows) → All P rows
without P row rows true h = All-tail P row rows h
without P row rows false h = h

-- what holds of the rows of each number holds of all
all_under : (P : Row → Type 0) (f : Row → ℕ) (rows : List Row) → ((l : ℕ) → All P (under f rows l)) → All P rows
all_under P f [] h = All-nil P
all_under P f (row ∷ rows) h =
    let here : All P (row ∷ under f rows (f row)) = subst
    (λ (t : Bool). All P (cond t (row ∷ under f rows (f row)) (under f rows (f row))))
    (eq-eqb (f row) (f row) refl) (h (f row)) in
    All-cons P row rows (All-head P row (under f rows (f row)) here)
    (all_under P f rows (λ l. without P row (under f rows l) (nat_eq l (f row)) (h l)))

pub legal_hash : (dim b nflip : ℕ) (es : List (ℕ × ℕ)) (order buckets : PoolLists) → IsDim dim
    → IsHash dim b nflip es order buckets → ((l : ℕ) → All (IsPoolRow buckets.code_size) (list_at buckets l).rows)
    → IsLegalHash (record { dim = dim; b = b; nflip = nflip; rows = rows_in_order order buckets })
legal_hash dim b nflip es order buckets range h rows = record {
  dim = range;
  b_least = h.b_least;
  b_most = h.b_most;
  b_within = h.b_within;
  nflip = h.flips_most;
  rows = all_under (IsRow dim) (number_of es b) (rows_in_order order buckets)
      (λ l. subst (All (IsRow dim)) (h.table.parts l)
      (All-weaker (IsPoolRow buckets.code_size) (IsRow dim)
      (λ row is. record { label = is.label; code = subst (λ (n : ℕ). HasBytes n row.code) h.size is.code })
      (lists_in buckets l) (rows l)));
  load = h.load;
}
