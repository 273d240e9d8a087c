use Rattle.std.proofs.Common.{◌≡◌, ◌+◌, ◌<◌, ◌^◌, ◌≤◌, ◌++◌, ℕ, List, length, sym, ap, ◌∙◌, arith, subst, take}
use Rattle.bcodes.specs.Ranges.{load_limit}
use Rattle.bcodes.specs.Value.{Row, HashValue, weight}
use Rattle.bcodes.specs.Answers.{paired}
use Rattle.row_lists.specs.Rows.{order_in}
use Rattle.hash_index.specs.Inside.{rows_in_order}
use Rattle.std.proofs.lemmas.List.{length-map}
use Rattle.code_pool.specs.Lists.{list_at}
use Rattle.key_buckets.specs.Keys.{key_in}
use Rattle.key_buckets.proofs.RoomLemmas.{numbers_in}
use Rattle.hash_index.proofs.HashLemmas.{light, rows_few, order_kept, IsAdded, rows_added, hash_added}
use Rattle.hash_index.proofs.HashLemmas.{rows_undone, hash_undone}
use Rattle.hash_index.proofs.hash.Hash.append.Goals as goal

pub make_room-requires-clause-few : goal.make_room-requires-clause-few
make_room-requires-clause-few g c =
    let i = c.self.inside in
    let load : weight i.dim.bits 1 (length (rows_in_order i.order i.buckets) + length c.args.codes.now.codes) 0 ≤
    load_limit
    = subst (λ (v : HashValue). weight v.dim 1 (length v.rows + length c.args.codes.now.codes) 0 ≤ load_limit)
    (sym c.self.view_is) c.requires.load in
    omega (
      arith,
      light i.dim.bits (length (rows_in_order i.order i.buckets) + length c.args.codes.now.codes) load,
      c.self.invariant.keys_few,
      ap length (c.deref.ensures.value ∙ c.in_ok-keys.ensures),
      length-map c.args.codes.now.codes (key_in 0 i.b),
    )

pub make_room-requires-clause-rows : goal.make_room-requires-clause-rows
make_room-requires-clause-rows g c =
    let i = c.self.inside in
    let load : weight i.dim.bits 1 (length (rows_in_order i.order i.buckets) + length c.args.codes.now.codes) 0 ≤
    load_limit
    = subst (λ (v : HashValue). weight v.dim 1 (length v.rows + length c.args.codes.now.codes) 0 ≤ load_limit)
    (sym c.self.view_is) c.requires.load in
    let many : length c.args.codes.now.codes ≡ length c.deref.result.now
    = sym (ap length (c.deref.ensures.value ∙ c.in_ok-keys.ensures)
    ∙ length-map c.args.codes.now.codes (key_in 0 i.b)) in
    subst (λ (n : ℕ). (l : ℕ) → length (list_at i.buckets l).rows + n < 2 ^ 31) many
    (rows_few i.dim.bits i.b i.nflip (length c.args.codes.now.codes) i.table i.order i.buckets c.self.invariant load)

pub put_all-requires-clause-known : goal.put_all-requires-clause-known
put_all-requires-clause-known g c =
    let i = c.self.inside in
    rw c.deref-in-Ok.ensures.value
    (numbers_in 0 i.table c.make_room.new.table c.deref.result.now c.in-Ok.numbers.items
    (length c.make_room.new.pool.lists) c.in-Ok.ensures.roomed c.in-Ok.ensures.undo.keys_most)

pub invariant_of-self-in-Ok : goal.invariant_of-self-in-Ok
invariant_of-self-in-Ok g c =
    let i = c.self.inside in
    let load : weight i.dim.bits 1 (length (rows_in_order i.order i.buckets) + length c.args.codes.now.codes) 0 ≤
    load_limit
    = subst (λ (v : HashValue). weight v.dim 1 (length v.rows + length c.args.codes.now.codes) 0 ≤ load_limit)
    (sym c.self.view_is) c.requires.load in
    let added : IsAdded i.order i.buckets c.make_room.new.pool c.put_all.new.order c.put_all.new.lists
    c.in-Ok.numbers.items (paired c.args.labels.now c.args.codes.now.codes) = record {
      order_is = c.put_all.ensures.order
          ∙ ap (λ (os : List ℕ). os ++ c.deref-in-Ok.result.now)
          (order_kept i.order c.reserve.new.self _ c.in_ok-reserve.ensures.ok)
          ∙ ap (λ (ns : List ℕ). order_in i.order ++ ns) c.deref-in-Ok.ensures.value;
      order_one = c.put_all.ensures.order_one;
      order_size = c.put_all.ensures.order_size;
      rows_are = rw c.deref-in-Ok.ensures.value at c.put_all.ensures.rows;
      lists = c.put_all.ensures.lists;
      size = c.put_all.ensures.size;
    } in
    hash_added i.dim.bits i.b i.nflip i.table c.make_room.new.table i.order i.buckets
    c.make_room.new.pool c.put_all.new.order c.put_all.new.lists c.deref.result.now c.in-Ok.numbers.items
    c.args.labels.now c.args.codes.now.codes
    c.self.invariant c.requires.same_count (c.deref.ensures.value ∙ c.in_ok-keys.ensures) c.in-Ok.ensures.roomed c.in-Ok.ensures.undo added load

pub invariant_of-self-in-Err : goal.invariant_of-self-in-Err
invariant_of-self-in-Err g c =
    let i = c.self.inside in
    hash_undone i.dim.bits i.b i.nflip i.table c.make_room.new.table c.truncate.new.self i.order
    i.buckets c.reserve.new.self c.make_room.new.pool
    c.self.invariant c.in-Err.ensures.undo (c.truncate.ensures
    ∙ ap (λ (n : ℕ). take n c.make_room.new.table) c.len-held.ensures.value)
    (order_kept i.order c.reserve.new.self _ c.in_ok-reserve.ensures.ok) (c.in_ok-reserve.ensures.ok.lists
    ∙ c.self.invariant.order_one) (c.in_ok-reserve.ensures.ok.code_size ∙ c.self.invariant.order_size)

pub returns-in-Ok-clause-ok : goal.returns-in-Ok-clause-ok
returns-in-Ok-clause-ok g c =
    let i = c.self.inside in
    let added : IsAdded i.order i.buckets c.make_room.new.pool c.put_all.new.order c.put_all.new.lists
    c.in-Ok.numbers.items (paired c.args.labels.now c.args.codes.now.codes) = record {
      order_is = c.put_all.ensures.order
          ∙ ap (λ (os : List ℕ). os ++ c.deref-in-Ok.result.now)
          (order_kept i.order c.reserve.new.self _ c.in_ok-reserve.ensures.ok)
          ∙ ap (λ (ns : List ℕ). order_in i.order ++ ns) c.deref-in-Ok.ensures.value;
      order_one = c.put_all.ensures.order_one;
      order_size = c.put_all.ensures.order_size;
      rows_are = rw c.deref-in-Ok.ensures.value at c.put_all.ensures.rows;
      lists = c.put_all.ensures.lists;
      size = c.put_all.ensures.size;
    } in
    let rows = rows_added i.dim.bits i.b i.nflip i.table c.make_room.new.table i.order i.buckets
    c.make_room.new.pool c.put_all.new.order c.put_all.new.lists c.deref.result.now c.in-Ok.numbers.items
    c.args.labels.now c.args.codes.now.codes
    c.self.invariant c.requires.same_count (c.deref.ensures.value ∙ c.in_ok-keys.ensures) c.in-Ok.ensures.roomed c.in-Ok.ensures.undo added in
    ap (λ (rs : List Row). record { dim = i.dim.bits; b = i.b; nflip = i.nflip; rows = rs }) rows
    ∙ ap (λ (v : HashValue). record v { rows = v.rows ++ paired c.args.labels.now c.args.codes.now.codes }) c.self.view_is

pub returns-clause-err : goal.returns-clause-err
returns-clause-err g c =
    let i = c.self.inside in
    let rows = rows_undone i.dim.bits i.b i.nflip i.table c.make_room.new.table
    c.truncate.new.self i.order i.buckets c.reserve.new.self c.make_room.new.pool
    c.self.invariant c.in-Err.ensures.undo (c.truncate.ensures
    ∙ ap (λ (n : ℕ). take n c.make_room.new.table) c.len-held.ensures.value)
    (order_kept i.order c.reserve.new.self _ c.in_ok-reserve.ensures.ok) (c.in_ok-reserve.ensures.ok.lists
    ∙ c.self.invariant.order_one) (c.in_ok-reserve.ensures.ok.code_size ∙ c.self.invariant.order_size) in
    ap (λ (rs : List Row). record { dim = i.dim.bits; b = i.b; nflip = i.nflip; rows = rs }) rows ∙ c.self.view_is
