-- Lemmas on an IVF before and after an add.
use Rattle.std.proofs.Common.{◌≡◌, ℕ, zero, suc, ◌+◌, ◌*◌, ◌/◌, ◌<◌, ◌≤◌, ◌^◌, true, false, nat_abs, ℤ, List, []}
use Rattle.std.proofs.Common.{◌∷◌, ◌++◌, length, map, get_or, replicate, refl, ap, ◌∙◌, subst, arith}
use Rattle.std.proofs.Common.{length-append}
use Rattle.std.specs.declared.option.Option.{Option}
use Rattle.std.specs.declared.option.Option.TheVariants.{None, Some}
use Rattle.std.specs.List.{All}
use Rattle.std.proofs.lemmas.List.{length-map}
use Rattle.std.proofs.lemmas.List.Elements.{All-append}
use Rattle.bcodes.specs.Ranges.{load_limit}
use Rattle.bcodes.specs.Value.{Row, ListRow, CodeList, IvfValue, Ivf, Bare, weight, load_of, labels_from}
use Rattle.bcodes.specs.Answers.{paired, onto_nearest, nearest, after_add}
use Rattle.code_pool.specs.Lists.{PoolLists, list_at, IsReserved}
use Rattle.row_lists.specs.Put.{put_on}
use Rattle.ivf_index.specs.Table.{put_row, put_rows, IsTable}
use Rattle.code_pool.specs.Lists.{no_row}
use Rattle.row_lists.specs.Rows.{weave}
use Rattle.row_lists.specs.Room.{SameRows}
use Rattle.ivf_index.specs.Entries.{ArePlaces}
use Rattle.ivf_index.specs.Near.{nearest_by}
use Rattle.ivf_index.specs.Direct.{IsPlaced, IsDirectOf, has_map, extended}
use Rattle.row_lists.specs.Rows.{order_in, lists_in}
use Rattle.ivf_index.specs.Inside.{rows_in_order, IsIvf}
use Rattle.row_lists.proofs.WeaveLemmas.{weave_same}
use Rattle.ivf_index.proofs.TableLemmas.{given_back, table_same, table_added, list_few, length-put_rows}
use Rattle.row_lists.proofs.PutLemmas.{length-paired}
use Rattle.ivf_index.proofs.DirectLemmas.{IsPutOn, direct_added, no_map}
use Rattle.ivf_index.proofs.VisitLemmas.{count_is}

pub light : (d n c : ℕ) → weight d 0 n c ≤ load_limit → n ≤ 67108864
light d n c h =
    let k : n * 16 ≤ n * (d / 8 + 16 + 64 * 0) = grind arith in
    omega arith

-- the pools with room for an add
pub record IsPrepared (order lists new_order new_lists : PoolLists) : Type 0 where
  pub order_is : order_in new_order ≡ order_in order
  pub order_one : length new_order.lists ≡ 1
  pub order_size : new_order.code_size ≡ 0
  pub same : SameRows lists new_lists

pub prepared : (order lists new_order new_lists : PoolLists) (n : ℕ) → length order.lists ≡ 1 → order.code_size ≡ 0
    → IsReserved order new_order 0 n → SameRows lists new_lists → IsPrepared order lists new_order new_lists
prepared order lists new_order new_lists n one size r s = record {
  order_is = ap (λ (rows : List Row). map (λ (row : Row). nat_abs row.label) rows) (r.rows 0);
  order_one = r.lists ∙ one;
  order_size = r.code_size ∙ size;
  same = s;
}

-- room for rows of one list leaves all rows, and so does what changes nothing
pub same_rows : (p q : PoolLists) (list n : ℕ) → IsReserved p q list n → SameRows p q
same_rows p q list n r = record { size = r.code_size; lists = r.lists; rows = r.rows }

pub unmoved : (p q : PoolLists) → q ≡ p → SameRows p q
unmoved p q e = record {
  size = ap (λ (r : PoolLists). r.code_size) e;
  lists = ap (λ (r : PoolLists). length r.lists) e;
  rows = λ l. ap (λ (r : PoolLists). (list_at r l).rows) e;
}

pub rows_prepared : (order lists new_order new_lists : PoolLists) → IsPrepared order lists new_order new_lists
    → rows_in_order new_order new_lists ≡ rows_in_order order lists
rows_prepared order lists new_order new_lists p =
    ap (λ (os : List ℕ). put_rows os (weave os (lists_in new_lists))) p.order_is
    ∙ ap (put_rows (order_in order))
    (weave_same (order_in order) (lists_in new_lists) (lists_in lists) p.same.rows)

placed_same : (f g : ℕ → List Row) (nlist p e : ℕ) → ((l : ℕ) → g l ≡ f l) → IsPlaced f nlist p e → IsPlaced g nlist p e
placed_same f g nlist p e h at = record {
  list = at.list;
  offset = at.offset;
  is = at.is;
  list_below = at.list_below;
  within = rw (h at.list) at.within;
  label_is = ap (λ (rs : List Row). (get_or rs at.offset no_row).label) (h at.list) ∙ at.label_is;
}

direct_same : (entries : Option (List ℕ)) (nlist : ℕ) (f g : ℕ → List Row) (rows : List ListRow)
    → ((l : ℕ) → g l ≡ f l) → IsDirectOf entries nlist f rows → IsDirectOf entries nlist g rows
direct_same None nlist f g rows h d = tt
direct_same (Some entries) nlist f g rows h d = record {
  count = d.count;
  placed = λ p low. placed_same f g nlist p
      (get_or entries p 0) h (d.placed p low);
  numbering = d.numbering;
}

pub ivf_prepared : (dim nlist nprobe codes_most : ℕ) (entries es : Option (List ℕ)) (quantizer : CodeList)
    (order lists new_order new_lists : PoolLists) → IsIvf dim nlist nprobe codes_most entries quantizer order lists
    → IsPrepared order lists new_order new_lists → es ≡ entries
    → IsIvf dim nlist nprobe codes_most es quantizer new_order new_lists
ivf_prepared dim nlist nprobe codes_most entries es quantizer order lists new_order new_lists h p e =
    let rows = rows_prepared order lists new_order new_lists p in
    record {
      nlist_least = h.nlist_least;
      nlist_most = h.nlist_most;
      nprobe_least = h.nprobe_least;
      nprobe_most = h.nprobe_most;
      max_codes = h.max_codes;
      quantizer_dim = h.quantizer_dim;
      held = h.held;
      order_one = p.order_one;
      order_size = p.order_size;
      lists = p.same.lists ∙ h.lists;
      size = p.same.size ∙ h.size;
      table = rw (rows, p.order_is)
          (table_same (order_in order) (lists_in lists) (lists_in new_lists)
          (rows_in_order order lists) p.same.rows h.table);
      numbers = rw p.order_is h.numbers;
      filled = rw rows h.filled;
      direct = rw (rows, e)
          (direct_same entries nlist (lists_in lists) (lists_in new_lists)
          (rows_in_order order lists) p.same.rows h.direct);
      load = rw rows h.load;
    }

-- the pools after an add
pub record IsAdded (order lists new_order new_lists : PoolLists) (ns : List ℕ) (rows : List Row) : Type 0 where
  pub order_is : order_in new_order ≡ order_in order ++ ns
  pub order_one : length new_order.lists ≡ 1
  pub order_size : new_order.code_size ≡ 0
  pub rows_are : (l : ℕ) → lists_in new_lists l ≡ lists_in lists l ++ put_on l ns rows
  pub count : length new_lists.lists ≡ length lists.lists
  pub size : new_lists.code_size ≡ lists.code_size

-- rows that were put into room which was made before
pub put_in_room : (order lists mid_order mid_lists new_order new_lists : PoolLists) (ns : List ℕ) (rows : List Row)
    → IsPrepared order lists mid_order mid_lists → order_in new_order ≡ order_in mid_order ++ ns
    → length new_order.lists ≡ 1 → new_order.code_size ≡ 0
    → ((l : ℕ) → lists_in new_lists l ≡ lists_in mid_lists l ++ put_on l ns rows)
    → length new_lists.lists ≡ length mid_lists.lists → new_lists.code_size ≡ mid_lists.code_size
    → IsAdded order lists new_order new_lists ns rows
put_in_room order lists mid_order mid_lists new_order new_lists ns rows p order_is one order_size put count size =
    record {
      order_is = order_is ∙ ap (λ (os : List ℕ). os ++ ns) p.order_is;
      order_one = one;
      order_size = order_size;
      rows_are = λ l. put l ∙ ap (λ (rs : List Row). rs ++ put_on l ns rows) (p.same.rows l);
      count = count ∙ p.same.lists;
      size = size ∙ p.same.size;
    }

module _ (dim nlist nprobe codes_most : ℕ) (entries : Option (List ℕ)) (quantizer : CodeList)
    (order lists new_order new_lists : PoolLists) (ns : List ℕ) (new : List Row)
    (h : IsIvf dim nlist nprobe codes_most entries quantizer order lists) (same : length ns ≡ length new)
    (known : All (λ n. n < nlist) ns) (added : IsAdded order lists new_order new_lists ns new) where
  table : IsTable (order_in order ++ ns) (lists_in new_lists) (rows_in_order order lists ++ put_rows ns new)
  table = table_added (order_in order) ns (lists_in lists) (lists_in new_lists)
      (rows_in_order order lists) new h.table same added.rows_are

  pub rows_added : rows_in_order new_order new_lists ≡ rows_in_order order lists ++ put_rows ns new
  rows_added = ap (λ (os : List ℕ). put_rows os (weave os (lists_in new_lists))) added.order_is
      ∙ given_back (order_in order ++ ns) (lists_in new_lists) (rows_in_order order lists ++ put_rows ns new) table

  ivf_grown : (es : Option (List ℕ))
      → IsDirectOf es nlist (lists_in new_lists) (rows_in_order order lists ++ put_rows ns new)
      → length quantizer.codes ≡ nlist
      → weight dim 0 (length (rows_in_order order lists) + length new) (length quantizer.codes) ≤ load_limit
      → IsIvf dim nlist nprobe codes_most es quantizer new_order new_lists
  ivf_grown es direct trained load =
      let many : length (rows_in_order new_order new_lists) ≡ length (rows_in_order order lists) + length new
      = ap length rows_added ∙ length-append (rows_in_order order lists) (put_rows ns new)
      ∙ ap (λ (n : ℕ). length (rows_in_order order lists) + n) (length-put_rows ns new same) in
      record {
        nlist_least = h.nlist_least;
        nlist_most = h.nlist_most;
        nprobe_least = h.nprobe_least;
        nprobe_most = h.nprobe_most;
        max_codes = h.max_codes;
        quantizer_dim = h.quantizer_dim;
        held = h.held;
        order_one = added.order_one;
        order_size = added.order_size;
        lists = added.count ∙ h.lists;
        size = added.size ∙ h.size;
        table = rw (rows_added, added.order_is) table;
        numbers = rw added.order_is (All-append (λ n. n < nlist) (order_in order) ns h.numbers known);
        filled = λ some. trained;
        direct = rw rows_added direct;
        load = rw many load;
      }

  pub ivf_added : (places : List ℕ) → ArePlaces lists ns (length ns) places → (es : Option (List ℕ))
      → es ≡ extended entries places → length quantizer.codes ≡ nlist
      → (has_map entries ≡ true
      → map (λ (row : Row). row.label) new ≡ labels_from (length (rows_in_order order lists)) (length ns))
      → weight dim 0 (length (rows_in_order order lists) + length new) (length quantizer.codes) ≤ load_limit
      → IsIvf dim nlist nprobe codes_most es quantizer new_order new_lists
  ivf_added places at es e trained labels load =
      let put : IsPutOn (lists_in lists) (lists_in new_lists) ns new nlist =
      record { same = same; known = known; rows = added.rows_are } in
      let direct : IsDirectOf es nlist (lists_in new_lists) (rows_in_order order lists ++ put_rows ns new) =
      rw e (direct_added lists (lists_in new_lists) entries ns places new (rows_in_order order lists) nlist put at
      labels h.direct) in
      ivf_grown es direct trained load

  -- where there is no direct map
  pub ivf_added_unmapped : has_map entries ≡ false → length quantizer.codes ≡ nlist
      → weight dim 0 (length (rows_in_order order lists) + length new) (length quantizer.codes) ≤ load_limit
      → IsIvf dim nlist nprobe codes_most entries quantizer new_order new_lists
  ivf_added_unmapped off trained load =
      let rows = rows_in_order order lists ++ put_rows ns new in
      ivf_grown entries (no_map entries nlist (lists_in new_lists) rows off) trained load

-- how many rows a list may have after an add
pub rows_few : (dim nlist nprobe codes_most n : ℕ) (entries : Option (List ℕ)) (quantizer : CodeList)
    (order lists : PoolLists) → IsIvf dim nlist nprobe codes_most entries quantizer order lists
    → weight dim 0 (length (rows_in_order order lists) + n) (length quantizer.codes) ≤ load_limit → (l : ℕ)
    → length (list_at lists l).rows + n < 2 ^ 31
rows_few dim nlist nprobe codes_most n entries quantizer order lists h load l =
    omega (
      arith,
      light dim (length (rows_in_order order lists) + n) (length quantizer.codes) load,
      list_few (order_in order) (lists_in lists) (rows_in_order order lists) l h.table,
    )

pub order_few : (dim nlist nprobe codes_most n : ℕ) (entries : Option (List ℕ)) (quantizer : CodeList)
    (order lists : PoolLists) → IsIvf dim nlist nprobe codes_most entries quantizer order lists
    → weight dim 0 (length (rows_in_order order lists) + n) (length quantizer.codes) ≤ load_limit
    → length (list_at order 0).rows + n < 2 ^ 31
order_few dim nlist nprobe codes_most n entries quantizer order lists h load =
    omega (
      arith,
      light dim (length (rows_in_order order lists) + n) (length quantizer.codes) load,
      count_is dim nlist nprobe codes_most entries quantizer order lists h,
    )

-- the load of the value, seen from inside
pub inside_load : (v seen : IvfValue) (n : ℕ) → v ≡ seen
    → weight seen.dim 0 (length seen.rows + n) (length seen.centroids) ≤ load_limit
    → weight v.dim 0 (length v.rows + n) (length v.centroids) ≤ load_limit
inside_load v seen n e h = rw e h

-- ---- rows on the lists of their nearest centroids

pub onto_nearest_is : (v : IvfValue) (ls : List ℤ) (cs : List (List ℕ)) → length ls ≡ length cs
    → put_rows (map (nearest_by v.centroids) cs) (paired ls cs) ≡ map (onto_nearest v) (paired ls cs)
onto_nearest_is v [] [] h = refl
onto_nearest_is v [] (c ∷ cs) h = absurd (omega arith)
onto_nearest_is v (l ∷ ls) [] h = refl
onto_nearest_is v (l ∷ ls) (c ∷ cs) h =
    ap (λ (rows : List ListRow). record { label = l; code = c; list = nearest v c } ∷ rows)
    (onto_nearest_is v ls cs (omega arith))

pub labels-paired : (ls : List ℤ) (cs : List (List ℕ)) → length ls ≡ length cs
    → map (λ (row : Row). row.label) (paired ls cs) ≡ ls
labels-paired [] [] h = refl
labels-paired [] (c ∷ cs) h = absurd (omega arith)
labels-paired (l ∷ ls) [] h = absurd (omega arith)
labels-paired (l ∷ ls) (c ∷ cs) h = ap (λ (ms : List ℤ). l ∷ ms) (labels-paired ls cs (omega arith))

pub after_add_ivf : (v : IvfValue) (ls : List ℤ) (cs : List (List ℕ))
    → after_add (Bare (Ivf v)) ls cs ≡ Bare (Ivf (record v { rows = v.rows ++ map (onto_nearest v) (paired ls cs) }))
unfolding after_add
after_add_ivf v ls cs = refl

pub load_after : (v : IvfValue) (ls : List ℤ) (cs : List (List ℕ)) → length ls ≡ length cs
    → load_of (after_add (Bare (Ivf v)) ls cs) ≡ weight v.dim 0 (length v.rows + length cs) (length v.centroids)
load_after v ls cs same =
    let long : length (v.rows ++ map (onto_nearest v) (paired ls cs)) ≡ length v.rows + length cs
    = length-append v.rows (map (onto_nearest v) (paired ls cs))
    ∙ ap (λ (n : ℕ). length v.rows + n) (length-map (paired ls cs) (onto_nearest v) ∙ length-paired ls cs same) in
    ap load_of (after_add_ivf v ls cs) ∙ ap (λ (n : ℕ). weight v.dim 0 n (length v.centroids)) long

pub load_added : (v : IvfValue) (ls : List ℤ) (cs : List (List ℕ)) → length ls ≡ length cs
    → load_of (after_add (Bare (Ivf v)) ls cs) ≤ load_limit
    → weight v.dim 0 (length v.rows + length cs) (length v.centroids) ≤ load_limit
load_added v ls cs same h = subst (λ (n : ℕ). n ≤ load_limit) (load_after v ls cs same) h

-- the rows of any list fit 31 bits
pub lists_small : (dim nlist nprobe codes_most : ℕ) (entries : Option (List ℕ)) (quantizer : CodeList)
    (order lists : PoolLists) → IsIvf dim nlist nprobe codes_most entries quantizer order lists → (l : ℕ)
    → length (lists_in lists l) < 4294967296
lists_small dim nlist nprobe codes_most entries quantizer order lists h l =
    omega (
      arith,
      light dim (length (rows_in_order order lists)) (length quantizer.codes) h.load,
      list_few (order_in order) (lists_in lists) (rows_in_order order lists) l h.table,
    )

pub put_rows-replicate : (l n : ℕ) (rows : List Row) → length rows ≡ n
    → put_rows (replicate n l) rows ≡ map (put_row l) rows
put_rows-replicate l zero [] e = refl
put_rows-replicate l zero (row ∷ rows) e = absurd (omega arith)
put_rows-replicate l (suc n) [] e = refl
put_rows-replicate l (suc n) (row ∷ rows) e = ap (λ (rs : List ListRow). put_row l row ∷ rs)
    (put_rows-replicate l n rows (omega arith))

-- the same with another direct map
pub with_direct : (dim nlist nprobe codes_most : ℕ) (entries es : Option (List ℕ)) (quantizer : CodeList)
    (order lists : PoolLists) → IsIvf dim nlist nprobe codes_most entries quantizer order lists
    → IsDirectOf es nlist (lists_in lists) (rows_in_order order lists)
    → IsIvf dim nlist nprobe codes_most es quantizer order lists
with_direct dim nlist nprobe codes_most entries es quantizer order lists h d = record {
  nlist_least = h.nlist_least;
  nlist_most = h.nlist_most;
  nprobe_least = h.nprobe_least;
  nprobe_most = h.nprobe_most;
  max_codes = h.max_codes;
  quantizer_dim = h.quantizer_dim;
  held = h.held;
  order_one = h.order_one;
  order_size = h.order_size;
  lists = h.lists;
  size = h.size;
  table = h.table;
  numbers = h.numbers;
  filled = h.filled;
  direct = d;
  load = h.load;
}

pub lists_half : (dim nlist nprobe codes_most : ℕ) (entries : Option (List ℕ)) (quantizer : CodeList)
    (order lists : PoolLists) → IsIvf dim nlist nprobe codes_most entries quantizer order lists → (l : ℕ)
    → length (lists_in lists l) < 2147483648
lists_half dim nlist nprobe codes_most entries quantizer order lists h l =
    omega (
      arith,
      light dim (length (rows_in_order order lists)) (length quantizer.codes) h.load,
      list_few (order_in order) (lists_in lists) (rows_in_order order lists) l h.table,
    )
