-- Lemmas on rows that leave an IVF.
use Rattle.std.proofs.Common.{◌≡◌, ℕ, zero, suc, ◌+◌, ◌-◌, ◌*◌, ◌/◌, ◌<◌, ◌≤◌, pos, nat_abs, Bool, true, false, cond, nat_eq}
use Rattle.std.proofs.Common.{inl, inr, List, [], ◌∷◌, length, map, take, drop, get_or, set, refl, sym, ap, ◌∙◌, arith}
use Rattle.std.proofs.Common.{length-take, length-drop, get_or-set_same}
use Rattle.std.specs.declared.option.Option.{Option}
use Rattle.std.specs.declared.option.Option.TheVariants.{None, Some}
use Rattle.std.specs.List.{All, filter, items_where_true}
use Rattle.std.proofs.lemmas.Bool.{cases_eq, cases_lt, eq-eqb, ne_eqb}
use Rattle.std.proofs.lemmas.List.{get_or-drop, get_or-map, get_or-take, get_or_default, get_or_past, length-map, length-set, same_lists}
use Rattle.bcodes.specs.Ranges.{load_limit}
use Rattle.bcodes.specs.Value.{Row, ListRow, CodeList, row_of, weight}
use Rattle.bcodes.proofs.LegalLemmas.{length-filter-le}
use Rattle.bcodes.proofs.OrderLemmas.{either}
use Rattle.bcodes.proofs.ScanLemmas.{filter-map}
use Rattle.code_pool.specs.Lists.{PoolList, PoolLists, kept, list_at, no_list, no_row, with_kept}
use Rattle.flat_index.proofs.KeepLemmas.{map-kept_rows}
use Rattle.flip_walk.specs.Patterns.{times, under}
use Rattle.row_lists.specs.Rows.{lists_in, order_in}
use Rattle.row_lists.proofs.PutLemmas.{times-take_less}
use Rattle.id_select.specs.Removal.{stays}
use Rattle.id_select.specs.declared.selector.Selector.{Selector}
use Rattle.id_select.proofs.FlagLemmas.{kept_filter, map-kept}
use Rattle.id_select.proofs.LegalLemmas.{All-kept}
use Rattle.ivf_index.specs.Table.{IsTable, list_of, on_list}
use Rattle.ivf_index.specs.Direct.{IsDirectOf, has_map}
use Rattle.ivf_index.specs.Flags.{AreListFlags, AreOrderFlags, flags_to, row_stays}
use Rattle.ivf_index.specs.Inside.{rows_in_order, IsIvf}
use Rattle.ivf_index.proofs.DirectLemmas.{no_map}
use Rattle.ivf_index.proofs.TableLemmas.{given_back}
use Rattle.ivf_index.proofs.VisitLemmas.{count_is}

-- ---- where a row stands on its list

turned : (m n : ℕ) → nat_eq m n ≡ nat_eq n m
turned m n = elim (cases_eq m n) [
  | inl same ↦ eq-eqb m n same ∙ sym (eq-eqb n m (sym same))
  | inr other ↦ ne_eqb m n other ∙ sym (ne_eqb n m (λ e. other (sym e)))
]

count_step : (b t : Bool) (n : ℕ) (row : ListRow) (us : List ListRow) → t ≡ b → n ≡ length (map row_of us)
    → cond {A = ℕ} t 1 0 + n ≡ length (map row_of (cond b (row ∷ us) us))
count_step true t n row us e h = omega (arith, h, ap (λ (x : Bool). cond {A = ℕ} x 1 0) e)
count_step false t n row us e h = omega (arith, h, ap (λ (x : Bool). cond {A = ℕ} x 1 0) e)

-- a number comes as often as there are rows on its list
pub times-list : (l : ℕ) (rows : List ListRow) → times l (map list_of rows) ≡ length (on_list rows l)
times-list l [] = refl
times-list l (row ∷ rows) =
    count_step (nat_eq l row.list) (nat_eq row.list l) (times l (map list_of rows)) row (under list_of rows l)
    (turned row.list l) (times-list l rows)

row_step : (b t : Bool) (n : ℕ) (x y : Row) (row : ListRow) (us : List ListRow) → t ≡ b
    → get_or (map row_of us) n no_row ≡ y → get_or (map row_of (cond b (row ∷ us) us)) (cond {A = ℕ} t 1 0 + n) no_row ≡ y
row_step true t n x y row us e h =
    let one : cond {A = ℕ} t 1 0 + n ≡ suc n = omega (arith, ap (λ (c : Bool). cond {A = ℕ} c 1 0) e) in
    rw one h
row_step false t n x y row us e h =
    let none : cond {A = ℕ} t 1 0 + n ≡ n = omega (arith, ap (λ (c : Bool). cond {A = ℕ} c 1 0) e) in
    rw none h

-- a row stands on its list behind those rows of the list that were added before
row_at : (rows : List ListRow) (i : ℕ) (d : ListRow) → i < length rows
    → get_or (on_list rows (get_or rows i d).list) (times (get_or rows i d).list (take i (map list_of rows))) no_row
    ≡ row_of (get_or rows i d)
row_at [] i d low = absurd (omega arith)
row_at (row ∷ rows) zero d low = let here = eq-eqb row.list row.list refl in rw here refl
row_at (row ∷ rows) (suc i) d low =
    let r : ListRow = get_or rows i d in
    row_step (nat_eq r.list row.list) (nat_eq row.list r.list) (times r.list (take i (map list_of rows))) (row_of row)
    (row_of r) row (under list_of rows r.list) (turned row.list r.list) (row_at rows i d (omega arith))

kept_step : (b : Bool) (row : Row) (rows us : List Row) (flags : List Bool) → kept rows flags ≡ us
    → kept (row ∷ rows) (b ∷ flags) ≡ cond b (row ∷ us) us
kept_step true row rows us flags e = ap (λ (rs : List Row). row ∷ rs) e
kept_step false row rows us flags e = e

-- flags that a test gives keep the rows that pass it
kept_rows : (p : Row → Bool) (rows : List Row) → kept rows (map p rows) ≡ filter p rows
kept_rows p [] = refl
kept_rows p (row ∷ rows) = kept_step (p row) row rows (filter p rows) (map p rows) (kept_rows p rows)

-- ---- flags

-- the rows of lists with a flag each
pub record IsFlagged (s : Selector) (order : List ℕ) (lists : PoolLists) (rows : List ListRow) (flags : List Bool)
    (starts : List ℕ) : Type 0 where
  pub table : IsTable order (lists_in lists) rows
  pub count : length starts ≡ length lists.lists
  pub known : All (λ n. n < length starts) order
  pub are : AreListFlags s (lists_in lists) flags starts

pub flagged : (dim nlist nprobe codes_most : ℕ) (entries : Option (List ℕ)) (quantizer : CodeList)
    (order lists : PoolLists) (s : Selector) (flags : List Bool) (starts : List ℕ)
    → IsIvf dim nlist nprobe codes_most entries quantizer order lists
    → length starts ≡ length lists.lists → AreListFlags s (lists_in lists) flags starts
    → IsFlagged s (order_in order) lists (rows_in_order order lists) flags starts
flagged dim nlist nprobe codes_most entries quantizer order lists s flags starts h count are =
    let same : nlist ≡ length starts = sym (count ∙ h.lists) in
    record { table = h.table; count = count; known = rw same at h.numbers; are = are }

module _ (s : Selector) (order : List ℕ) (lists : PoolLists) (rows : List ListRow) (flags : List Bool)
    (starts : List ℕ) (k : IsFlagged s order lists rows flags starts) where
  list_count : (l : ℕ) → times l order ≡ length (lists_in lists l)
  list_count l = ap (times l) k.table.numbers ∙ times-list l rows ∙ ap length (sym (k.table.parts l))

  pub flags_within : (l : ℕ) → l < length starts → get_or starts l 0 + times l order ≤ length flags
  flags_within l low = omega (arith, list_count l, k.are.within l low)

  none_past : (l : ℕ) → length starts ≤ l → lists_in lists l ≡ []
  none_past l past = ap (λ (x : PoolList). x.rows) (get_or_past lists.lists l no_list (omega (arith, k.count)))

  module _ (ends : List ℕ) (found : List Bool) (o : AreOrderFlags flags starts order ends found)
      (same : length ends ≡ length starts) where
    end_is : (l : ℕ) → l < length starts → get_or ends l 0 ≡ get_or starts l 0 + length (lists_in lists l)
    end_is l low = omega (arith, o.ends l low, list_count l)

    pub ends_room : (l : ℕ) → length (lists_in lists l) ≤ get_or ends l 0
    ends_room l = elim (cases_lt l (length starts)) [
      | inl low ↦ omega (arith, end_is l low)
      | inr past ↦ omega (arith, ap length (none_past l past))
    ]

    pub ends_within : (l : ℕ) → get_or ends l 0 ≤ length flags
    ends_within l = elim (cases_lt l (length starts)) [
      | inl low ↦ omega (arith, end_is l low, k.are.within l low)
      | inr past ↦ omega (arith, get_or_past ends l 0 (omega arith))
    ]

    -- the flags of a list are those of its rows
    own_flags : (l : ℕ) → l < length starts
        → flags_to flags (get_or ends l 0) (length (lists_in lists l)) ≡ map (row_stays s) (lists_in lists l)
    own_flags l low =
        let n : ℕ = length (lists_in lists l) in
        let start : get_or ends l 0 - n ≡ get_or starts l 0 = omega (arith, end_is l low) in
        let inside : get_or starts l 0 + n ≤ length flags = k.are.within l low in
        same_lists (flags_to flags (get_or ends l 0) n) (map (row_stays s) (lists_in lists l))
        (omega (
          arith,
          start,
          inside,
          length-take n (drop (get_or ends l 0 - n) flags),
          length-drop (get_or ends l 0 - n) flags,
          length-map (lists_in lists l) (row_stays s),
        ))
        (λ j d small.
        let here : j < n = omega (
          arith,
          small,
          length-take n (drop (get_or ends l 0 - n) flags),
        ) in
        get_or-take n (drop (get_or ends l 0 - n) flags) j d here
        ∙ get_or-drop (get_or ends l 0 - n) flags j d
        ∙ ap (λ (m : ℕ). get_or flags (m + j) d) start
        ∙ get_or_default flags (get_or starts l 0 + j) d false (omega (arith, inside, here))
        ∙ k.are.each l j low here
        ∙ sym (get_or-map (row_stays s) (lists_in lists l) j no_row d here))

    pub list_left : (l : ℕ)
        → kept (lists_in lists l) (flags_to flags (get_or ends l 0) (length (lists_in lists l)))
        ≡ filter (row_stays s) (lists_in lists l)
    list_left l = elim (cases_lt l (length starts)) [
      | inl low ↦
          ap (kept (lists_in lists l)) (own_flags l low) ∙ kept_rows (row_stays s) (lists_in lists l)
      | inr past ↦ rw (none_past l past) refl
    ]

    -- the flags in the order of addition are those of the rows
    pub found_rows : found ≡ map (λ (row : ListRow). stays s row.label) rows
    found_rows =
        let numbers : length order ≡ length rows = ap length k.table.numbers ∙ length-map rows list_of in
        same_lists found (map (λ (row : ListRow). stays s row.label) rows)
        (omega (arith, o.count, numbers, length-map rows (λ (row : ListRow). stays s row.label)))
        (λ i d small.
        let e : ListRow = record { label = pos 0; code = []; list = 0 } in
        let r : ListRow = get_or rows i e in
        let low : i < length rows = omega (arith, small, o.count, numbers) in
        let number : get_or order i 0 ≡ r.list =
        ap (λ (ns : List ℕ). get_or ns i 0) k.table.numbers ∙ get_or-map list_of rows i e 0 low in
        let before : times r.list (take i order) ≡ times r.list (take i (map list_of rows)) =
        ap (λ (ns : List ℕ). times r.list (take i ns)) k.table.numbers in
        let known : r.list < length starts = rw number at (k.known i 0 (omega (arith, low, numbers))) in
        let place : times r.list (take i order) < length (lists_in lists r.list) =
        omega (arith, rw number at (times-take_less order i (omega (arith, low, numbers))), list_count r.list) in
        get_or_default found i d false small ∙ o.each i (omega (arith, low, numbers))
        ∙ ap (λ (n : ℕ). get_or flags (get_or starts n 0 + times n (take i order)) false) number
        ∙ k.are.each r.list (times r.list (take i order)) known place
        ∙ ap (λ (n : ℕ). row_stays s (get_or (lists_in lists r.list) n no_row)) before
        ∙ ap (λ (rs : List Row). row_stays s (get_or rs (times r.list (take i (map list_of rows))) no_row))
        (k.table.parts r.list) ∙ ap (row_stays s) (row_at rows i e low)
        ∙ sym (get_or-map (λ (row : ListRow). stays s row.label) rows i e d low))

-- ---- the table without the rows that leave

filter_swap : {X : Type 0} (p q : X → Bool) (xs : List X) → filter p (filter q xs) ≡ filter q (filter p xs)
filter_swap p q [] = refl
filter_swap {X} p q (x ∷ xs) =
    elim (either (p x)) [
      | inl e ↦ elim (either (q x)) [
        | inl f ↦ rw (f, e, f) (ap (λ (ys : List X). x ∷ ys) (filter_swap p q xs))
        | inr f ↦ rw (f, e, f) (filter_swap p q xs)
      ]
      | inr e ↦ elim (either (q x)) [
        | inl f ↦ rw (f, e) (filter_swap p q xs)
        | inr f ↦ rw (f, e) (filter_swap p q xs)
      ]
    ]

left_parts : (s : Selector) (rows : List ListRow) (l : ℕ)
    → filter (row_stays s) (on_list rows l)
    ≡ on_list (filter (λ (row : ListRow). stays s row.label) rows) l
left_parts s rows l =
    filter-map row_of (row_stays s) (under list_of rows l)
    ∙ ap (map row_of)
    (filter_swap (λ (row : ListRow). stays s row.label) (λ (row : ListRow). nat_eq l row.list) rows)

pub left_table : (s : Selector) (order left : List ℕ) (lists after : ℕ → List Row) (rows : List ListRow)
    → IsTable order lists rows
    → left ≡ items_where_true (map (λ (row : ListRow). stays s row.label) rows) order
    → ((l : ℕ) → after l ≡ filter (row_stays s) (lists l))
    → IsTable left after (filter (λ (row : ListRow). stays s row.label) rows)
left_table s order left lists after rows t is gone =
    let p : ListRow → Bool = λ row. stays s row.label in
    record {
      numbers = is ∙ ap (items_where_true (map p rows)) t.numbers ∙ sym (map-kept list_of (map p rows) rows)
          ∙ ap (map list_of) (kept_filter p rows);
      parts = λ l. gone l ∙ ap (filter (row_stays s)) (t.parts l) ∙ left_parts s rows l;
    }

-- ---- the IVF without them

lighter : (d m n c : ℕ) → m ≤ n → weight d 0 n c ≤ load_limit → weight d 0 m c ≤ load_limit
lighter d m n c less h =
    let k : m * (d / 8 + 16 + 64 * 0) ≤ n * (d / 8 + 16 + 64 * 0) = grind arith in
    omega arith

-- the pools after rows left
pub record AreLeft (s : Selector) (order lists new_order new_lists : PoolLists) (found : List Bool) : Type 0 where
  pub order_is : new_order.lists ≡ set order.lists 0 (with_kept (list_at order 0) found)
  pub order_size : new_order.code_size ≡ order.code_size
  pub rows_are : (l : ℕ) → lists_in new_lists l ≡ filter (row_stays s) (lists_in lists l)
  pub count : length new_lists.lists ≡ length lists.lists
  pub size : new_lists.code_size ≡ lists.code_size

module _ (dim nlist nprobe codes_most : ℕ) (entries : Option (List ℕ)) (quantizer : CodeList)
    (order lists new_order new_lists : PoolLists) (s : Selector) (found : List Bool)
    (h : IsIvf dim nlist nprobe codes_most entries quantizer order lists)
    (flags : found ≡ map (λ (row : ListRow). stays s row.label) (rows_in_order order lists))
    (a : AreLeft s order lists new_order new_lists found) where
  abbrev pub left : List ListRow
  left = filter (λ (row : ListRow). stays s row.label) (rows_in_order order lists)

  order_left : order_in new_order
      ≡ items_where_true (map (λ (row : ListRow). stays s row.label) (rows_in_order order lists)) (order_in order)
  order_left =
      ap (λ (ls : List PoolList). map (λ (row : Row). nat_abs row.label) (get_or ls 0 no_list).rows) a.order_is
      ∙ ap (λ (l : PoolList). map (λ (row : Row). nat_abs row.label) l.rows)
      (get_or-set_same order.lists 0 (with_kept (list_at order 0) found) no_list (omega (arith, h.order_one)))
      ∙ map-kept_rows (λ (row : Row). nat_abs row.label) (list_at order 0).rows found
      ∙ ap (λ (bs : List Bool). items_where_true bs (order_in order)) flags

  table_left : IsTable (order_in new_order) (lists_in new_lists) left
  table_left = left_table s (order_in order) (order_in new_order) (lists_in lists) (lists_in new_lists)
      (rows_in_order order lists) h.table order_left a.rows_are

  pub rows_left : rows_in_order new_order new_lists ≡ left
  rows_left = given_back (order_in new_order) (lists_in new_lists) left table_left

  pub fewer : length left ≤ length (rows_in_order order lists)
  fewer = length-filter-le (λ (row : ListRow). stays s row.label) (rows_in_order order lists)

  pub ivf_left : has_map entries ≡ false → IsIvf dim nlist nprobe codes_most entries quantizer new_order new_lists
  ivf_left none = record {
    nlist_least = h.nlist_least;
    nlist_most = h.nlist_most;
    nprobe_least = h.nprobe_least;
    nprobe_most = h.nprobe_most;
    max_codes = h.max_codes;
    quantizer_dim = h.quantizer_dim;
    held = h.held;
    order_one = ap length a.order_is ∙ length-set order.lists 0 (with_kept (list_at order 0) found) ∙ h.order_one;
    order_size = a.order_size ∙ h.order_size;
    lists = a.count ∙ h.lists;
    size = a.size ∙ h.size;
    table = rw rows_left table_left;
    numbers = rw order_left (All-kept (λ n. n < nlist)
        (map (λ (row : ListRow). stays s row.label) (rows_in_order order lists)) (order_in order) h.numbers);
    filled = λ some. h.filled (omega (arith, some, ap length rows_left, fewer));
    direct = no_map entries nlist (lists_in new_lists) (rows_in_order new_order new_lists) none;
    load = rw rows_left (lighter dim (length left) (length (rows_in_order order lists)) (length quantizer.codes) fewer h.load);
  }

-- ---- the whole removal

-- what the flags of the rows tell of their lists
pub record AreMarked (s : Selector) (order lists : PoolLists) (flags : List Bool) (ends : List ℕ) (found : List Bool)
    : Type 0 where
  pub room : (l : ℕ) → length (lists_in lists l) ≤ get_or ends l 0
  pub within : (l : ℕ) → get_or ends l 0 ≤ length flags
  pub found_is : found ≡ map (λ (row : ListRow). stays s row.label) (rows_in_order order lists)
  pub left : (l : ℕ)
      → kept (lists_in lists l) (flags_to flags (get_or ends l 0) (length (lists_in lists l)))
      ≡ filter (row_stays s) (lists_in lists l)

pub marked : (dim nlist nprobe codes_most : ℕ) (entries : Option (List ℕ)) (quantizer : CodeList)
    (order lists : PoolLists) (s : Selector) (flags : List Bool) (starts ends : List ℕ) (found : List Bool)
    → IsIvf dim nlist nprobe codes_most entries quantizer order lists → length starts ≡ length lists.lists
    → AreListFlags s (lists_in lists) flags starts → AreOrderFlags flags starts (order_in order) ends found
    → length ends ≡ length starts → AreMarked s order lists flags ends found
marked dim nlist nprobe codes_most entries quantizer order lists s flags starts ends found h count are o same =
    let rows : List ListRow = rows_in_order order lists in
    let k = flagged dim nlist nprobe codes_most entries quantizer order lists s flags starts h count are in
    record {
      room = ends_room s (order_in order) lists rows flags starts k ends found o same;
      within = ends_within s (order_in order) lists rows flags starts k ends found o same;
      found_is = found_rows s (order_in order) lists rows flags starts k ends found o same;
      left = list_left s (order_in order) lists rows flags starts k ends found o same;
    }

-- the IVF after a removal
pub record IsRemoved (dim nlist nprobe codes_most : ℕ) (entries : Option (List ℕ)) (quantizer : CodeList)
    (order lists new_order new_lists : PoolLists) (s : Selector) : Type 0 where
  pub ivf : IsIvf dim nlist nprobe codes_most entries quantizer new_order new_lists
  pub rows : rows_in_order new_order new_lists
      ≡ filter (λ (row : ListRow). stays s row.label) (rows_in_order order lists)
  pub fewer : length (rows_in_order new_order new_lists) ≤ length (rows_in_order order lists)
  pub count : length (list_at new_order 0).rows ≡ length (rows_in_order new_order new_lists)

pub is_removed : (dim nlist nprobe codes_most : ℕ) (entries : Option (List ℕ)) (quantizer : CodeList)
    (order lists new_order new_lists : PoolLists) (s : Selector) (flags : List Bool) (ends : List ℕ)
    (found : List Bool) → IsIvf dim nlist nprobe codes_most entries quantizer order lists
    → has_map entries ≡ false → AreMarked s order lists flags ends found
    → new_order.lists ≡ set order.lists 0 (with_kept (list_at order 0) found)
    → new_order.code_size ≡ order.code_size
    → ((l : ℕ) → lists_in new_lists l
    ≡ kept (lists_in lists l) (flags_to flags (get_or ends l 0) (length (lists_in lists l))))
    → length new_lists.lists ≡ length lists.lists → new_lists.code_size ≡ lists.code_size
    → IsRemoved dim nlist nprobe codes_most entries quantizer order lists new_order new_lists s
is_removed dim nlist nprobe codes_most entries quantizer order lists new_order new_lists s flags ends found h none m
    order_is order_size rows_are count size =
    let a : AreLeft s order lists new_order new_lists found = record {
      order_is = order_is;
      order_size = order_size;
      rows_are = λ l. rows_are l ∙ m.left l;
      count = count;
      size = size;
    } in
    let ivf = ivf_left dim nlist nprobe codes_most entries quantizer order lists new_order new_lists s found h m.found_is
    a none in
    let rows = rows_left dim nlist nprobe codes_most entries quantizer order lists new_order new_lists s found h
    m.found_is a in
    record {
      ivf = ivf;
      rows = rows;
      fewer = omega (
        arith,
        ap length rows,
        fewer dim nlist nprobe codes_most entries quantizer order lists new_order new_lists s found h m.found_is a,
      );
      count = count_is dim nlist nprobe codes_most entries quantizer new_order new_lists ivf;
    }
