-- Lemmas on a Hash before and after an add.
use Rattle.std.proofs.Common.{◌≡◌, ℕ, ◌+◌, ◌*◌, ◌/◌, ◌<◌, ◌≤◌, ◌^◌, nat_eq}
use Rattle.std.proofs.Common.{nat_abs, ℤ, List, ◌++◌, length, take, map, refl, ap}
use Rattle.std.proofs.Common.{◌∙◌, subst, arith, length-append}
use Rattle.std.proofs.Math.Nat.{mul-le-mul_left}
use Rattle.std.proofs.lemmas.List.{length-map}
use Rattle.std.proofs.lemmas.List.Sums.{length-filter, count_by-le-length}
use Rattle.bcodes.specs.Ranges.{load_limit}
use Rattle.bcodes.specs.Value.{Row, HashValue, Hash, Bare, weight, load_of}
use Rattle.bcodes.specs.Answers.{paired, after_add}
use Rattle.code_pool.specs.Lists.{PoolLists, list_at, IsReserved}
use Rattle.key_buckets.specs.Keys.{key_in}
use Rattle.row_lists.specs.Put.{put_on}
use Rattle.hash_index.specs.Table.{number_of, IsTable}
use Rattle.row_lists.specs.Rows.{order_in, lists_in, weave}
use Rattle.hash_index.specs.Inside.{rows_in_order, IsHash}
use Rattle.key_buckets.specs.Room.{IsRoomed, IsUndoable}
use Rattle.row_lists.proofs.WeaveLemmas.{weave_same}
use Rattle.hash_index.proofs.TableLemmas.{table_same, woven}
use Rattle.hash_index.proofs.AddLemmas.{table_added}
use Rattle.row_lists.proofs.PutLemmas.{length-paired}

least_weight : (n : ℕ) → 80 ≤ n + 16 + 64 * 1
least_weight n = omega arith

pub light : (d n : ℕ) → weight d 1 n 0 ≤ load_limit → n ≤ 13421772
light d n h =
    let k : n * 80 ≤ n * (d / 8 + 16 + 64 * 1) = mul-le-mul_left n (least_weight (d / 8)) in
    omega arith

pub part_few : (b : ℕ) (es : List (ℕ × ℕ)) (order : List ℕ) (lists : ℕ → List Row) (rows : List Row) (l : ℕ)
    → IsTable b es order lists rows → length (lists l) ≤ length rows
part_few b es order lists rows l t =
    omega (
      arith,
      ap length (t.parts l),
      length-filter (λ (row : Row). nat_eq l (number_of es b row)) rows,
      count_by-le-length (λ (row : Row). nat_eq l (number_of es b row)) rows,
    )

pub rows_few : (dim b nflip n : ℕ) (es : List (ℕ × ℕ)) (order buckets : PoolLists)
    → IsHash dim b nflip es order buckets → weight dim 1 (length (rows_in_order order buckets) + n) 0 ≤ load_limit
    → (l : ℕ)
    → length (list_at buckets l).rows + n < 2 ^ 31
rows_few dim b nflip n es order buckets h load l = omega (
  arith,
  light dim (length (rows_in_order order buckets) + n) load,
  part_few b es (order_in order) (lists_in buckets) (rows_in_order order buckets) l h.table,
)

-- a pool whose list 0 got room
pub order_kept : (p q : PoolLists) (n : ℕ) → IsReserved p q 0 n → order_in q ≡ order_in p
order_kept p q n r = ap (λ (rows : List Row). map (λ (row : Row). nat_abs row.label) rows) (r.rows 0)

-- as many rows as the order has
pub count_is : (dim b nflip : ℕ) (es : List (ℕ × ℕ)) (order buckets : PoolLists) → IsHash dim b nflip es order buckets
    → length (list_at order 0).rows ≡ length (rows_in_order order buckets)
count_is dim b nflip es order buckets h =
    omega (
      arith,
      length-map (list_at order 0).rows (λ (row : Row). nat_abs row.label),
      ap length h.table.numbers,
      length-map (rows_in_order order buckets) (number_of es b),
    )

pub order_few : (dim b nflip n : ℕ) (es : List (ℕ × ℕ)) (order buckets : PoolLists)
    → IsHash dim b nflip es order buckets → weight dim 1 (length (rows_in_order order buckets) + n) 0 ≤ load_limit
    → length (list_at order 0).rows + n < 2 ^ 31
order_few dim b nflip n es order buckets h load = omega
    (arith, light dim (length (rows_in_order order buckets) + n) load, count_is dim b nflip es order buckets h)

-- the pools after an add
pub record IsAdded (order buckets room_buckets new_order new_buckets : PoolLists) (ns : List ℕ)
    (rows : List Row) : Type 0 where
  pub order_is : order_in new_order ≡ order_in order ++ ns
  pub order_one : length new_order.lists ≡ 1
  pub order_size : new_order.code_size ≡ 0
  pub rows_are : (l : ℕ) → lists_in new_buckets l ≡ lists_in room_buckets l ++ put_on l ns rows
  pub lists : length new_buckets.lists ≡ length room_buckets.lists
  pub size : new_buckets.code_size ≡ room_buckets.code_size

module _ (dim b nflip : ℕ) (es fs : List (ℕ × ℕ)) (order buckets room_buckets new_order new_buckets : PoolLists)
    (ks ns : List ℕ) (ls : List ℤ) (cs : List (List ℕ))
    (h : IsHash dim b nflip es order buckets) (same : length ls ≡ length cs) (are : ks ≡ map (key_in 0 b) cs)
    (roomed : IsRoomed 0 es fs ks (length ks) ns)
    (undo : IsUndoable 0 es fs buckets room_buckets)
    (added : IsAdded order buckets room_buckets new_order new_buckets ns (paired ls cs)) where
  table : IsTable b fs (order_in order ++ ns) (lists_in new_buckets) (rows_in_order order buckets ++ paired ls cs)
  table = table_added b es fs (order_in order) (lists_in buckets) (lists_in new_buckets)
      (rows_in_order order buckets) ls cs ns h.table same
      (subst (λ (js : List ℕ). IsRoomed 0 es fs js (length js) ns) are roomed)
      (λ l. added.rows_are l ∙ ap (λ (rs : List Row). rs ++ put_on l ns (paired ls cs)) (undo.rows l))

  pub rows_added : rows_in_order new_order new_buckets ≡ rows_in_order order buckets ++ paired ls cs
  rows_added = ap (λ (os : List ℕ). weave os (lists_in new_buckets)) added.order_is
      ∙ woven b fs (order_in order ++ ns) (lists_in new_buckets) (rows_in_order order buckets ++ paired ls cs) table

  pub hash_added : weight dim 1 (length (rows_in_order order buckets) + length cs) 0 ≤ load_limit
      → IsHash dim b nflip fs new_order new_buckets
  hash_added load =
      let many : length (rows_in_order new_order new_buckets) ≡ length (rows_in_order order buckets) + length cs
      = ap length rows_added ∙ length-append (rows_in_order order buckets) (paired ls cs)
      ∙ ap (λ (n : ℕ). length (rows_in_order order buckets) + n) (length-paired ls cs same) in
      record {
        b_least = h.b_least;
        b_most = h.b_most;
        b_within = h.b_within;
        flips_most = h.flips_most;
        order_one = added.order_one;
        order_size = added.order_size;
        size = added.size ∙ undo.size ∙ h.size;
        table = rw (rows_added, added.order_is) table;
        keys_few = omega (arith, many, roomed.most, ap length are, length-map cs (key_in 0 b), h.keys_few);
        keys_most = omega (arith, added.lists, undo.keys_most);
        lists_few = omega (arith, added.lists, undo.lists_few, h.lists_few);
        load = rw many load;
      }

-- the pools after an add that was given up
module _ (dim b nflip : ℕ) (es mid fs : List (ℕ × ℕ)) (order buckets new_order new_buckets : PoolLists)
    (h : IsHash dim b nflip es order buckets) (undo : IsUndoable 0 es mid buckets new_buckets)
    (back : fs ≡ take (length es) mid)
    (same_order : order_in new_order ≡ order_in order) (one : length new_order.lists ≡ 1)
    (size : new_order.code_size ≡ 0) where
  pub rows_undone : rows_in_order new_order new_buckets ≡ rows_in_order order buckets
  rows_undone = ap (λ (os : List ℕ). weave os (lists_in new_buckets)) same_order
      ∙ weave_same (order_in order) (lists_in new_buckets) (lists_in buckets) undo.rows

  pub hash_undone : IsHash dim b nflip fs new_order new_buckets
  hash_undone =
      let is : fs ≡ es = back ∙ undo.prefix in
      record {
        b_least = h.b_least;
        b_most = h.b_most;
        b_within = h.b_within;
        flips_most = h.flips_most;
        order_one = one;
        order_size = size;
        size = undo.size ∙ h.size;
        table = rw (rows_undone, same_order, is)
            (table_same b es (order_in order) (lists_in buckets) (lists_in new_buckets)
            (rows_in_order order buckets) undo.rows h.table);
        keys_few = rw (rows_undone, is) h.keys_few;
        keys_most = omega (arith, ap length is, undo.lists_least, h.keys_most);
        lists_few = omega (arith, undo.lists_few, h.lists_few);
        load = rw rows_undone h.load;
      }

-- ---- the value after an add

pub after_add_hash : (v : HashValue) (ls : List ℤ) (cs : List (List ℕ))
    → after_add (Bare (Hash v)) ls cs ≡ Bare (Hash (record v { rows = v.rows ++ paired ls cs }))
unfolding after_add
after_add_hash v ls cs = refl

pub load_added : (v : HashValue) (ls : List ℤ) (cs : List (List ℕ)) → length ls ≡ length cs
    → load_of (after_add (Bare (Hash v)) ls cs) ≤ load_limit
    → weight v.dim 1 (length v.rows + length cs) 0 ≤ load_limit
load_added v ls cs same h =
    let long : length (v.rows ++ paired ls cs) ≡ length v.rows + length cs = length-append v.rows (paired ls cs)
    ∙ ap (λ (n : ℕ). length v.rows + n) (length-paired ls cs same) in
    subst (λ (n : ℕ). weight v.dim 1 n 0 ≤ load_limit) long (rw (after_add_hash v ls cs) at h)
