-- Lemmas on rows on lists.
use Rattle.std.proofs.Common.{◌≡◌, ℕ, suc, ◌≤◌, Bool, true, false, cond, nat_eq, List, []}
use Rattle.std.proofs.Common.{◌∷◌, ◌++◌, length, map, refl, sym, ap, ◌∙◌, arith}
use Rattle.std.specs.List.{count_by}
use Rattle.std.proofs.lemmas.List.{map-append, length-map}
use Rattle.std.proofs.lemmas.List.Elements.{filter-append}
use Rattle.std.proofs.lemmas.List.Sums.{length-filter, count_by-le-length}
use Rattle.bcodes.specs.Value.{Row, ListRow, row_of}
use Rattle.flip_walk.specs.Patterns.{under}
use Rattle.ivf_index.specs.Table.{list_of, on_list, put_row, put_rows}
use Rattle.row_lists.specs.Put.{put_on}
use Rattle.row_lists.specs.Rows.{weave}
use Rattle.row_lists.proofs.WeaveLemmas.{woven}
use Rattle.row_lists.specs.Rows.{weave}
use Rattle.row_lists.proofs.WeaveLemmas.{woven}
use Rattle.ivf_index.specs.Table.{IsTable}

put_back : (rows : List ListRow) → put_rows (map list_of rows) (map row_of rows) ≡ rows
put_back [] = refl
put_back (row ∷ rows) = ap (λ (rs : List ListRow). row ∷ rs) (put_back rows)

-- the order and the lists give the rows back
pub given_back : (order : List ℕ) (lists : ℕ → List Row) (rows : List ListRow) → IsTable order lists rows
    → put_rows order (weave order lists) ≡ rows
given_back order lists rows t =
    ap (λ (os : List ℕ). put_rows os (weave os lists)) t.numbers
    ∙ ap (put_rows (map list_of rows)) (woven list_of row_of rows lists t.parts)
    ∙ put_back rows

-- lists that hold the same rows make the same table
pub table_same : (order : List ℕ) (f g : ℕ → List Row) (rows : List ListRow) → ((l : ℕ) → g l ≡ f l)
    → IsTable order f rows → IsTable order g rows
table_same order f g rows h t = record { numbers = t.numbers; parts = λ l. h l ∙ t.parts l }

-- ---- rows that are put on lists

put_step : (t : Bool) (n : ℕ) (row : Row) (xs : List Row) (us : List ListRow) → xs ≡ map row_of us
    → cond t (row ∷ xs) xs ≡ map row_of (cond t (put_row n row ∷ us) us)
put_step true n row xs us e = ap (λ (l : List Row). row ∷ l) e
put_step false n row xs us e = e

pub put_on-rows : (l : ℕ) (ns : List ℕ) (rows : List Row) → put_on l ns rows ≡ on_list (put_rows ns rows) l
put_on-rows l [] rows = refl
put_on-rows l (n ∷ ns) [] = refl
put_on-rows l (n ∷ ns) (row ∷ rows) = put_step (nat_eq l n) n row (put_on l ns rows)
    (under list_of (put_rows ns rows) l) (put_on-rows l ns rows)

pub numbers-put_rows : (ns : List ℕ) (rows : List Row) → length ns ≡ length rows → map list_of (put_rows ns rows) ≡ ns
numbers-put_rows [] rows e = refl
numbers-put_rows (n ∷ ns) [] e = absurd (omega arith)
numbers-put_rows (n ∷ ns) (row ∷ rows) e = ap (λ (ms : List ℕ). n ∷ ms) (numbers-put_rows ns rows (omega arith))

pub length-put_rows : (ns : List ℕ) (rows : List Row) → length ns ≡ length rows → length (put_rows ns rows) ≡ length rows
length-put_rows [] [] e = refl
length-put_rows [] (row ∷ rows) e = absurd (omega arith)
length-put_rows (n ∷ ns) [] e = refl
length-put_rows (n ∷ ns) (row ∷ rows) e = ap suc (length-put_rows ns rows (omega arith))

pub on_list-append : (xs ys : List ListRow) (l : ℕ) → on_list (xs ++ ys) l ≡ on_list xs l ++ on_list ys l
on_list-append xs ys l =
    ap (map row_of) (filter-append (λ (row : ListRow). nat_eq l row.list) xs ys)
    ∙ map-append row_of (under list_of xs l) (under list_of ys l)

-- the table after rows were put on their lists
pub table_added : (order ns : List ℕ) (lists after : ℕ → List Row) (rows : List ListRow) (new : List Row)
    → IsTable order lists rows → length ns ≡ length new
    → ((l : ℕ) → after l ≡ lists l ++ put_on l ns new) → IsTable (order ++ ns) after (rows ++ put_rows ns new)
table_added order ns lists after rows new t long at = record {
  numbers = ap (λ (os : List ℕ). os ++ ns) t.numbers
      ∙ ap (λ (ms : List ℕ). map list_of rows ++ ms) (sym (numbers-put_rows ns new long))
      ∙ sym (map-append list_of rows (put_rows ns new));
  parts = λ l. at l ∙ ap (λ (rs : List Row). rs ++ put_on l ns new) (t.parts l)
      ∙ ap (λ (rs : List Row). on_list rows l ++ rs) (put_on-rows l ns new)
      ∙ sym (on_list-append rows (put_rows ns new) l);
}

-- ---- how many rows stand on a list

pub length-on_list : (rows : List ListRow) (l : ℕ) → length (on_list rows l) ≡ count_by (λ row. nat_eq l row.list) rows
length-on_list rows l = length-map (under list_of rows l) row_of
    ∙ length-filter (λ (row : ListRow). nat_eq l row.list) rows

pub list_few : (order : List ℕ) (lists : ℕ → List Row) (rows : List ListRow) (l : ℕ) → IsTable order lists rows
    → length (lists l) ≤ length rows
list_few order lists rows l t =
    omega (
      arith,
      ap length (t.parts l),
      length-on_list rows l,
      count_by-le-length (λ (row : ListRow). nat_eq l row.list) rows,
    )

pub rows_count : (order : List ℕ) (lists : ℕ → List Row) (rows : List ListRow) → IsTable order lists rows
    → length order ≡ length rows
rows_count order lists rows t = ap length t.numbers ∙ length-map rows list_of
