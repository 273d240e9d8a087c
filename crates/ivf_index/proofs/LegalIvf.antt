-- An IVF is legal.
use Rattle.std.proofs.Common.{◌≡◌, ℕ, ◌<◌, Bool, true, false, cond, nat_eq, List, [], ◌∷◌, map}
use Rattle.std.proofs.Common.{subst, refl, sym, true≢false}
use Rattle.std.specs.declared.option.Option.{Option}
use Rattle.std.specs.declared.option.Option.TheVariants.{None, Some}
use Rattle.std.specs.List.{All}
use Rattle.std.proofs.lemmas.List.Elements.{All-nil, All-cons, All-head, All-tail, All-weaker}
use Rattle.std.proofs.lemmas.Bool.{eq-eqb}
use Rattle.bcodes.specs.Ranges.{IsDim}
use Rattle.bcodes.specs.Value.{Row, ListRow, CodeList, row_of, IsRow, IsListRow, IsCode, IsLegalFlat, IsLegalIvf}
use Rattle.bcodes.specs.Value.{HasBytes, IsNumbering}
use Rattle.code_pool.specs.Lists.{PoolLists, IsPoolRow, list_at}
use Rattle.ivf_index.specs.Table.{list_of, on_list}
use Rattle.flip_walk.specs.Patterns.{under}
use Rattle.ivf_index.specs.Direct.{has_map, IsDirectOf}
use Rattle.row_lists.specs.Rows.{lists_in}
use Rattle.ivf_index.specs.Inside.{rows_in_order, IsIvf}

without : (P : Row → Type 0) (row : ListRow) (us : List ListRow) (t : Bool)
    → All P (map row_of (cond t (row ∷ us) us)) → All P (map row_of us)
without P row us true h = All-tail P (row_of row) (map row_of us) h
without P row us false h = h

-- what holds of the rows of each list holds of all
legal_rows : (d m : ℕ) (rows : List ListRow) → ((l : ℕ) → All (IsRow d) (on_list rows l))
    → All (λ n. n < m) (map list_of rows) → All (IsListRow d m) rows
legal_rows d m [] h k = All-nil (IsListRow d m)
legal_rows d m (row ∷ rows) h k =
    let here : All (IsRow d) (row_of row ∷ on_list rows row.list)
    = subst (λ (t : Bool). All (IsRow d)
    (map row_of (cond t (row ∷ under list_of rows row.list) (under list_of rows row.list))))
    (eq-eqb row.list row.list refl) (h row.list) in
    let first : IsRow d (row_of row) = All-head (IsRow d) (row_of row) (on_list rows row.list) here in
    let this : IsListRow d m row =
    record { label = first.label; code = first.code; list = All-head (λ n. n < m) row.list (map list_of rows) k }
    in
    All-cons (IsListRow d m) row rows this
    (legal_rows d m rows (λ l. without (IsRow d) row (under list_of rows l) (nat_eq l row.list) (h l))
    (All-tail (λ n. n < m) row.list (map list_of rows) k))

numbering_of : (entries : Option (List ℕ)) (nlist : ℕ) (lists : ℕ → List Row) (rows : List ListRow)
    → IsDirectOf entries nlist lists rows → has_map entries ≡ true → IsNumbering (map (λ row. row.label) rows)
numbering_of None nlist lists rows h e = absurd (true≢false (sym e))
numbering_of (Some entries) nlist lists rows h e = h.numbering

pub legal_ivf : (dim nlist nprobe codes_most : ℕ) (entries : Option (List ℕ)) (quantizer : CodeList)
    (order lists : PoolLists) → IsDim dim → IsIvf dim nlist nprobe codes_most entries quantizer order lists
    → IsLegalFlat quantizer
    → ((l : ℕ) → All (IsPoolRow lists.code_size) (list_at lists l).rows)
    → IsLegalIvf (record {
      dim = dim;
      nlist = nlist;
      nprobe = nprobe;
      max_codes = codes_most;
      direct = has_map
          entries;
      centroids = quantizer.codes;
      rows = rows_in_order order lists;
    })
legal_ivf dim nlist nprobe codes_most entries quantizer order lists range h flat rows = record {
  dim = range;
  nlist_least = h.nlist_least;
  nlist_most = h.nlist_most;
  nprobe_least = h.nprobe_least;
  nprobe_most = h.nprobe_most;
  max_codes = h.max_codes;
  centroids = subst (λ (d : ℕ). All (IsCode d) quantizer.codes) h.quantizer_dim flat.codes;
  held = h.held;
  rows = legal_rows dim nlist (rows_in_order order lists)
      (λ l. subst (All (IsRow dim)) (h.table.parts l)
      (All-weaker (IsPoolRow lists.code_size) (IsRow dim)
      (λ row is. record { label = is.label; code = subst (λ (n : ℕ). HasBytes n row.code) h.size is.code })
      (lists_in lists l) (rows l)))
      (subst (All (λ n. n < nlist)) h.table.numbers h.numbers);
  filled = h.filled;
  direct = numbering_of entries nlist (lists_in lists) (rows_in_order order lists) h.direct;
  load = h.load;
}
