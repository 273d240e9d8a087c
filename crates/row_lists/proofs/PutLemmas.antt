-- Lemmas on rows that are put on lists.
use Rattle.std.proofs.Common.{◌≡◌, ℕ, zero, suc, ◌+◌, ◌-◌, ◌<◌, ◌≤◌, inl, inr, Bool, true, false, cond}
use Rattle.std.proofs.Common.{nat_eq, nat_abs, ℤ, pos, List, [], ◌∷◌, ◌++◌, length, take, drop, map, get_or, refl, sym, ap}
use Rattle.std.proofs.Common.{◌∙◌, arith, length-append, append_assoc, append-nil, length-set, length-take, replicate}
use Rattle.std.proofs.lemmas.List.{length-replicate, map-append, replicate-append-replicate, take_more}
use Rattle.std.proofs.lemmas.Bool.{eq-eqb, ne_eqb}
use Rattle.std.proofs.lemmas.Bool.Decides.{eqb_tells}
use Rattle.bcodes.specs.Value.{Row}
use Rattle.bcodes.specs.Answers.{paired}
use Rattle.bcodes.specs.Chunks.{chunks_of}
use Rattle.bcodes.proofs.ChunkLemmas.{length-chunks_of}
use Rattle.code_pool.specs.Lists.{PoolLists, PoolList, list_at, rows_in, with_list, with_row, with_rows, no_row}
use Rattle.code_pool.proofs.RowLemmas.{length-rows_in}
use Rattle.flip_walk.specs.Patterns.{times, under}
use Rattle.row_lists.specs.Put.{put_on, mark_of, IsPushed, IsPut}
use Rattle.row_lists.specs.Room.{HasRoomFor}
use Rattle.row_lists.specs.Rows.{order_in, lists_in}
use Rattle.row_lists.proofs.RoomLemmas.{at_same, at_other, times-push}

-- the rows of labels and codes
pub length-paired : (ls : List ℤ) (cs : List (List ℕ)) → length ls ≡ length cs → length (paired ls cs) ≡ length cs
length-paired [] [] h = refl
length-paired [] (c ∷ cs) h = absurd (omega arith)
length-paired (l ∷ ls) [] h = refl
length-paired (l ∷ ls) (c ∷ cs) h = ap suc (length-paired ls cs (omega arith))

pub get-paired : (ls : List ℤ) (cs : List (List ℕ)) (k : ℕ) (d : Row) → length ls ≡ length cs → k < length cs
    → get_or (paired ls cs) k d ≡ record { label = get_or ls k (pos 0); code = get_or cs k [] }
get-paired [] [] k d h low = absurd (omega arith)
get-paired [] (c ∷ cs) k d h low = absurd (omega arith)
get-paired (l ∷ ls) [] k d h low = absurd (omega arith)
get-paired (l ∷ ls) (c ∷ cs) zero d h low = refl
get-paired (l ∷ ls) (c ∷ cs) (suc k) d h low = get-paired ls cs k d (omega arith) (omega arith)

-- ---- the rows so far

put_step : (t : Bool) (r : Row) (xs ys zs : List Row) → xs ≡ ys ++ zs → cond t (r ∷ xs) xs ≡ cond t (r ∷ ys) ys ++ zs
put_step true r xs ys zs e = ap (λ (l : List Row). r ∷ l) e
put_step false r xs ys zs e = e

-- one more row
pub put_on-more : (l : ℕ) (ns : List ℕ) (rows : List Row) (i : ℕ) (row : Row) → i < length ns → i < length rows
    → row ≡ get_or rows i no_row
    → put_on l (take (i + 1) ns) (take (i + 1) rows) ≡ put_on l (take i ns) (take i rows) ++ cond
    (nat_eq l (get_or ns i 0)) (row ∷ []) []
put_on-more l [] rows i row h k e = absurd (omega arith)
put_on-more l (n ∷ ns) [] i row h k e = absurd (omega arith)
put_on-more l (n ∷ ns) (r ∷ rows) zero row h k e = ap (λ (x : Row). cond (nat_eq l n) (x ∷ []) []) (sym e)
put_on-more l (n ∷ ns) (r ∷ rows) (suc i) row h k e =
    let s : suc i + 1 ≡ suc (i + 1) = omega arith in
    ap (λ (m : ℕ). put_on l (take m (n ∷ ns)) (take m (r ∷ rows))) s
    ∙ put_step (nat_eq l n) r (put_on l (take (i + 1) ns) (take (i + 1) rows)) (put_on l (take i ns) (take i rows))
    (cond (nat_eq l (get_or ns i 0)) (row ∷ []) []) (put_on-more l ns rows i row (omega arith) (omega arith) e)

-- where the numbers are those of the rows
pub put_on-under : (f : Row → ℕ) (l : ℕ) (rows : List Row) → put_on l (map f rows) rows ≡ under f rows l
put_on-under f l [] = refl
put_on-under f l (row ∷ rows) = ap (λ (us : List Row). cond (nat_eq l (f row)) (row ∷ us) us) (put_on-under f l rows)

pub pushed_here : (p q : PoolLists) (l : ℕ) (row : Row) → IsPushed p q l row → list_at q l ≡ with_row (list_at p l) row
pushed_here p q l row h = ap (λ (x : PoolLists). list_at x l) h.is ∙ at_same p l _ h.inside

pub pushed_other : (p q : PoolLists) (l m : ℕ) (row : Row) → IsPushed p q l row → (m ≡ l → ⊥) → list_at q m ≡ list_at p m
pushed_other p q l m row h ne = ap (λ (x : PoolLists). list_at x m) h.is ∙ at_other p l m _ ne

pub times-take_less : (xs : List ℕ) (i : ℕ) → i < length xs
    → times (get_or xs i 0) (take i xs) + 1 ≤ times (get_or xs i 0) xs
times-take_less [] i h = absurd (omega arith)
times-take_less (x ∷ xs) zero h = omega (arith, ap (λ (t : Bool). cond {A = ℕ} t 1 0 + times x xs) (eq-eqb x x refl))
times-take_less (x ∷ xs) (suc i) h = omega (arith, times-take_less xs i (omega arith))

pub room_here : (numbers : List ℕ) (p : PoolLists) (i : ℕ) → i < length numbers
    → ((k : ℕ) → times k numbers ≤ (list_at p k).spare + times k (take i numbers))
    → 0 < (list_at p (get_or numbers i 0)).spare
room_here numbers p i h room = omega (arith, room (get_or numbers i 0), times-take_less numbers i h)

pub order_pushed : (p q : PoolLists) (os ns : List ℕ) (i : ℕ) (row : Row) → IsPushed p q 0 row
    → nat_abs row.label ≡ get_or ns i 0 → i < length ns → order_in p ≡ os ++ take i ns
    → order_in q ≡ os ++ take (i + 1) ns
order_pushed p q os ns i row h e low before =
    ap (λ (x : PoolList). map (λ (r : Row). nat_abs r.label) x.rows) (pushed_here p q 0 row h)
    ∙ map-append (λ (r : Row). nat_abs r.label) (list_at p 0).rows (row ∷ [])
    ∙ ap (λ (n : ℕ). order_in p ++ n ∷ []) e
    ∙ ap (λ (ms : List ℕ). ms ++ get_or ns i 0 ∷ []) before
    ∙ append_assoc os (take i ns) (get_or ns i 0 ∷ [])
    ∙ ap (λ (ms : List ℕ). os ++ ms) (sym (take_more ns i 0 low))

grown : (a b c d : List Row) → b ≡ a ++ c → b ++ d ≡ a ++ (c ++ d)
grown a b c d e = ap (λ (l : List Row). l ++ d) e ∙ append_assoc a c d

pub rows_pushed : (first p q : PoolLists) (ns : List ℕ) (rows : List Row) (i : ℕ) (row : Row)
    → IsPushed p q (get_or ns i 0) row → row ≡ get_or rows i no_row → i < length ns → i < length rows
    → ((k : ℕ) → lists_in p k ≡ lists_in first k ++ put_on k (take i ns) (take i rows))
    → (k : ℕ) → lists_in q k ≡ lists_in first k ++ put_on k (take (i + 1) ns) (take (i + 1) rows)
rows_pushed first p q ns rows i row h e low inside before k =
    elim (eqb_tells k (get_or ns i 0)) [
      | inl t ↦ ap (lists_in q) t.1 ∙ ap (λ (x : PoolList). x.rows) (pushed_here p q (get_or ns i 0) row h)
          ∙ ap (λ (l : ℕ). lists_in p l ++ row ∷ []) (sym t.1)
          ∙ grown (lists_in first k) (lists_in p k) (put_on k (take i ns) (take i rows)) (row ∷ []) (before k)
          ∙ ap (λ (rs : List Row). lists_in first k ++ rs)
          (ap (λ (b : Bool). put_on k (take i ns) (take i rows) ++ cond b (row ∷ []) []) (sym t.0)
          ∙ sym (put_on-more k ns rows i row low inside e))
      | inr t ↦ ap (λ (x : PoolList). x.rows) (pushed_other p q (get_or ns i 0) k row h t.1) ∙ before k
          ∙ ap (λ (rs : List Row). lists_in first k ++ rs) (sym (append-nil (put_on k (take i ns) (take i rows)))
          ∙ ap (λ (b : Bool). put_on k (take i ns) (take i rows) ++ cond b (row ∷ []) []) (sym t.0)
          ∙ sym (put_on-more k ns rows i row low inside e))
    ]

pub room_pushed : (p q : PoolLists) (ns : List ℕ) (i : ℕ) (row : Row) → IsPushed p q (get_or ns i 0) row
    → i < length ns → ((k : ℕ) → times k ns ≤ (list_at p k).spare + times k (take i ns))
    → (k : ℕ) → times k ns ≤ (list_at q k).spare + times k (take (i + 1) ns)
room_pushed p q ns i row h low room k =
    let more : times k (take (i + 1) ns) ≡ times k (take i ns) + cond (nat_eq (get_or ns i 0) k) 1 0 = ap (times k)
    (take_more ns i 0 low) ∙ times-push k (get_or ns i 0) (take i ns) in
    elim (eqb_tells (get_or ns i 0) k) [
      | inl t ↦ omega (
        arith,
        room k,
        more ∙ ap (λ b. times k (take i ns) + cond {A = ℕ} b 1 0) t.0,
        ap (λ (l : ℕ). (list_at q l).spare) t.1,
        ap (λ (l : ℕ). (list_at p l).spare) t.1,
        ap (λ (x : PoolList). x.spare) (pushed_here p q (get_or ns i 0) row h),
      )
      | inr t ↦ omega (
        arith,
        room k,
        more ∙ ap (λ b. times k (take i ns) + cond {A = ℕ} b 1 0) t.0,
        ap (λ (x : PoolList). x.spare) (pushed_other p q (get_or ns i 0) k row h (λ f. t.1 (sym f))),
      )
    ]

-- ---- how many rows stand on a list

pub turned : (m n : ℕ) → nat_eq m n ≡ nat_eq n m
turned m n =
    elim (eqb_tells m n) [
      | inl t ↦ t.0 ∙ sym (eq-eqb n m (sym t.1))
      | inr t ↦ t.0 ∙ sym (ne_eqb n m (λ e. t.1 (sym e)))
    ]

count_step : (t : Bool) (row : Row) (rows : List Row) (n : ℕ) → length rows ≡ n
    → length (cond t (row ∷ rows) rows) ≡ cond {A = ℕ} t 1 0 + n
count_step true row rows n e = omega (arith, e)
count_step false row rows n e = omega (arith, e)

pub length-put_on : (l : ℕ) (ns : List ℕ) (rows : List Row) → length ns ≡ length rows
    → length (put_on l ns rows) ≡ times l ns
length-put_on l [] rows h = refl
length-put_on l (n ∷ ns) [] h = absurd (omega arith)
length-put_on l (n ∷ ns) (row ∷ rows) h =
    count_step (nat_eq l n) row (put_on l ns rows) (times l ns) (length-put_on l ns rows (omega arith))
    ∙ ap (λ (t : Bool). cond {A = ℕ} t 1 0 + times l ns) (turned l n)

-- how many rows a list has before the next row
pub offset_is : (first p : PoolLists) (ns : List ℕ) (rows : List Row) (i l : ℕ) → length ns ≡ length rows
    → lists_in p l ≡ lists_in first l ++ put_on l (take i ns) (take i rows)
    → length (list_at p l).rows ≡ length (list_at first l).rows + times l (take i ns)
offset_is first p ns rows i l same is =
    ap length is ∙ length-append (lists_in first l) (put_on l (take i ns) (take i rows))
    ∙ ap (λ n. length (lists_in first l) + n)
    (length-put_on l (take i ns) (take i rows) (omega (arith, same, length-take i ns, length-take i rows)))

-- a list that is no number gets none
none_step : (l n : ℕ) (row : Row) (ns : List ℕ) (us : List Row) → times l (n ∷ ns) ≡ 0 → us ≡ []
    → cond (nat_eq l n) (row ∷ us) us ≡ []
none_step l n row ns us none e =
    elim (eqb_tells n l) [
      | inl t ↦ absurd (omega (arith, none, ap (λ (b : Bool). cond {A = ℕ} b 1 0 + times l ns) t.0))
      | inr t ↦ ap (λ (b : Bool). cond b (row ∷ us) us) (ne_eqb l n (λ s. t.1 (sym s))) ∙ e
    ]

pub put_on-none : (l : ℕ) (ns : List ℕ) (rows : List Row) → times l ns ≡ 0 → put_on l ns rows ≡ []
put_on-none l [] rows none = refl
put_on-none l (n ∷ ns) [] none = refl
put_on-none l (n ∷ ns) (row ∷ rows) none =
    none_step l n row ns (put_on l ns rows) none (put_on-none l ns rows (omega arith))

-- ---- the loop

pub put_none : (order lists : PoolLists) (ns : List ℕ) (rows : List Row) → length order.lists ≡ 1
    → order.code_size ≡ 0 → length ns ≤ (list_at order 0).spare → HasRoomFor ns lists
    → IsPut order lists ns rows 0 order lists
put_none order lists ns rows one size order_room room = record {
  order = sym (append-nil (order_in order));
  order_one = one;
  order_size = size;
  order_room = omega (arith, order_room);
  rows = λ k. sym (append-nil (lists_in lists k));
  room = λ k. omega (arith, room k);
  lists = refl;
  size = refl;
}

pub put_more : (order lists mid_order mid_lists new_order new_lists : PoolLists) (ns : List ℕ) (rows : List Row)
    (n : ℕ) (row : Row) → IsPut order lists ns rows n mid_order mid_lists
    → IsPushed mid_lists new_lists (get_or ns n 0) row → IsPushed mid_order new_order 0 (mark_of (get_or ns n 0))
    → row ≡ get_or rows n no_row → n < length ns → n < length rows
    → IsPut order lists ns rows (n + 1) new_order new_lists
put_more order lists mid_order mid_lists new_order new_lists ns rows n row put one two e low inside = record {
  order = order_pushed mid_order new_order (order_in order) ns n (mark_of (get_or ns n 0)) two refl low put.order;
  order_one = ap (λ (p : PoolLists). length p.lists) two.is ∙ length-set mid_order.lists 0 _ ∙ put.order_one;
  order_size = ap (λ (p : PoolLists). p.code_size) two.is ∙ put.order_size;
  order_room = omega (
    arith,
    put.order_room,
    two.room,
    ap (λ (l : PoolList). l.spare) (pushed_here mid_order new_order 0 (mark_of (get_or ns n 0)) two),
  );
  rows = rows_pushed lists mid_lists new_lists ns rows n row one e low inside put.rows;
  room = room_pushed mid_lists new_lists ns n row one low put.room;
  lists = ap (λ (p : PoolLists). length p.lists) one.is ∙ length-set mid_lists.lists (get_or ns n 0) _ ∙ put.lists;
  size = ap (λ (p : PoolLists). p.code_size) one.is ∙ put.size;
}

-- ---- rows that go on one list

step_replicate : (t : Bool) (n : ℕ) → cond {A = ℕ} t 1 0 + cond {A = ℕ} t n 0 ≡ cond {A = ℕ} t (suc n) 0
step_replicate true n = omega arith
step_replicate false n = refl

pub times-replicate : (l list n : ℕ) → times l (replicate n list) ≡ cond {A = ℕ} (nat_eq list l) n 0
times-replicate l list zero = none (nat_eq list l)
  where
    none : (t : Bool) → 0 ≡ cond {A = ℕ} t 0 0
    none true = refl
    none false = refl
times-replicate l list (suc n) = ap (λ (m : ℕ). cond {A = ℕ} (nat_eq list l) 1 0 + m) (times-replicate l list n)
    ∙ step_replicate (nat_eq list l) n

pub put_on-one : (list : ℕ) (rows : List Row) → put_on list (replicate (length rows) list) rows ≡ rows
put_on-one list [] = refl
put_on-one list (row ∷ rows) =
    ap (λ (b : Bool). cond b (row ∷ put_on list (replicate (length rows) list) rows)
    (put_on list (replicate (length rows) list) rows)) (eq-eqb list list refl)
    ∙ ap (λ (rs : List Row). row ∷ rs) (put_on-one list rows)

pub put_on-another : (l list n : ℕ) (rows : List Row) → nat_eq list l ≡ false → put_on l (replicate n list) rows ≡ []
put_on-another l list n rows ne =
    put_on-none l (replicate n list) rows
    (times-replicate l list n ∙ ap (λ (b : Bool). cond {A = ℕ} b n 0) ne)

pub rows_in-paired : (size : ℕ) (ls : List ℤ) (bs : List ℕ)
    → rows_in size ls bs ≡ paired ls (chunks_of size (length ls) bs)
unfolding rows_in chunks_of
rows_in-paired size [] bs = refl
rows_in-paired size (l ∷ ls) bs =
    ap (λ (rs : List Row). record { label = l; code = take size bs } ∷ rs) (rows_in-paired size ls (drop size bs))

-- a run that is pushed on a list
pub rows_run : (p q : PoolLists) (list size : ℕ) (ls : List ℤ) (bs : List ℕ) → list < length p.lists
    → p.code_size ≡ size
    → q ≡ with_list p list (with_rows (list_at p list) (rows_in p.code_size ls bs))
    → (l : ℕ) → lists_in q l
    ≡ lists_in p l ++ put_on l (replicate (length ls) list) (paired ls (chunks_of size (length ls) bs))
rows_run p q list size ls bs here same is l =
    let rows : rows_in p.code_size ls bs ≡ paired ls (chunks_of size (length ls) bs) =
    ap (λ (n : ℕ). rows_in n ls bs) same ∙ rows_in-paired size ls bs in
    let many : length (paired ls (chunks_of size (length ls) bs)) ≡ length ls =
    length-paired ls (chunks_of size (length ls) bs) (sym (length-chunks_of size (length ls) bs))
    ∙ length-chunks_of size (length ls) bs in
    elim (eqb_tells list l) [
      | inl t ↦ rw (← t.1) (
          ap (λ (x : PoolLists). lists_in x list) is
          ∙ ap (λ (x : PoolList). x.rows) (at_same p list _ here)
          ∙ ap (λ (rs : List Row). lists_in p list ++ rs) (rows
          ∙ sym (put_on-one list (paired ls (chunks_of size (length ls) bs)))
          ∙ ap (λ (n : ℕ). put_on list (replicate n list) (paired ls (chunks_of size (length ls) bs))) many)
          )
      | inr t ↦ ap (λ (x : PoolLists). lists_in x l) is
          ∙ ap (λ (x : PoolList). x.rows) (at_other p list l _ (λ e. t.1 (sym e)))
          ∙ sym (append-nil (lists_in p l))
          ∙ ap (λ (rs : List Row). lists_in p l ++ rs)
          (sym (put_on-another l list (length ls) (paired ls (chunks_of size (length ls) bs)) t.0))
    ]

order-marks : (size list n : ℕ) (bs : List ℕ)
    → map (λ (row : Row). nat_abs row.label) (rows_in size (replicate n (pos list)) bs) ≡ replicate n list
unfolding rows_in
order-marks size list zero bs = refl
order-marks size list (suc n) bs = ap (λ (ns : List ℕ). list ∷ ns) (order-marks size list n (drop size bs))

-- a run of marks of a list that is pushed on the order
pub order_run : (p q : PoolLists) (os : List ℕ) (list n more : ℕ) (ls : List ℤ) (bs : List ℕ) → length p.lists ≡ 1
    → q ≡ with_list p 0 (with_rows (list_at p 0) (rows_in p.code_size ls bs)) → ls ≡ replicate more (pos list)
    → order_in p ≡ os ++ replicate n list → order_in q ≡ os ++ replicate (n + more) list
order_run p q os list n more ls bs one is marks before =
    ap order_in is
    ∙ ap (λ (x : PoolList). map (λ (row : Row). nat_abs row.label) x.rows) (at_same p 0 _ (omega arith))
    ∙ map-append (λ (row : Row). nat_abs row.label) (list_at p 0).rows (rows_in p.code_size ls bs)
    ∙ ap (λ (xs : List ℤ). order_in p ++ map (λ (row : Row). nat_abs row.label) (rows_in p.code_size xs bs)) marks
    ∙ ap (λ (ns : List ℕ). order_in p ++ ns) (order-marks p.code_size list more bs)
    ∙ ap (λ (ns : List ℕ). ns ++ replicate more list) before
    ∙ append_assoc os (replicate n list) (replicate more list)
    ∙ ap (λ (ns : List ℕ). os ++ ns) (replicate-append-replicate n more list)

-- and how much room is left
pub order_room : (p q : PoolLists) (list more : ℕ) (ls : List ℤ) (bs : List ℕ) → length p.lists ≡ 1
    → q ≡ with_list p 0 (with_rows (list_at p 0) (rows_in p.code_size ls bs)) → ls ≡ replicate more (pos list)
    → (list_at q 0).spare ≡ (list_at p 0).spare - more
order_room p q list more ls bs one is marks =
    let count : length (rows_in p.code_size ls bs) ≡ more = length-rows_in p.code_size ls bs
    ∙ ap (λ (xs : List ℤ). length xs) marks ∙ length-replicate more (pos list) in
    ap (λ (x : PoolLists). (list_at x 0).spare) is
    ∙ ap (λ (x : PoolList). x.spare) (at_same p 0 (with_rows (list_at p 0) (rows_in p.code_size ls bs)) (omega arith))
    ∙ ap (λ (n : ℕ). (list_at p 0).spare - n) count
