use Rattle.std.proofs.Common.{◌≡◌, ◌+◌, ◌/◌, ◌≤◌, ◌++◌, ℕ, List, length, replicate, sym, ap, ◌∙◌, subst, take}
use Rattle.bcodes.specs.Chunks.{chunks_of}
use Rattle.bcodes.specs.Ranges.{load_limit}
use Rattle.bcodes.specs.Value.{Row, HashValue, weight}
use Rattle.bcodes.specs.Answers.{paired}
use Rattle.bcodes.proofs.ChunkLemmas.{length-chunks_of}
use Rattle.row_lists.specs.Put.{put_on}
use Rattle.row_lists.specs.Rows.{lists_in}
use Rattle.hash_index.specs.Inside.{rows_in_order}
use Rattle.hash_index.specs.Keys.{HaveKey}
use Rattle.hash_index.proofs.HashLemmas.{rows_few, order_kept, IsAdded, rows_undone, hash_undone}
use Rattle.hash_index.proofs.BucketLemmas.{hash_gained, rows_gained}
use Rattle.hash_index.proofs.hash.Hash.add_bucket.Goals as goal

pub make_room_under-requires-clause-rows : goal.make_room_under-requires-clause-rows
make_room_under-requires-clause-rows g c =
    let i = c.self.inside in
    let n = length c.args.labels.now in
    let load : weight i.dim.bits 1 (length (rows_in_order i.order i.buckets) + n) 0 ≤ load_limit
    = subst (λ (v : HashValue). weight v.dim 1 (length v.rows + n) 0 ≤ load_limit) (sym c.self.view_is)
    c.requires.load in
    rows_few i.dim.bits i.b i.nflip n i.table i.order i.buckets c.self.invariant load

pub invariant_of-self-in-Ok : goal.invariant_of-self-in-Ok
invariant_of-self-in-Ok g c =
    let i = c.self.inside in
    let n = length c.args.labels.now in
    let cs : List (List ℕ) = chunks_of (i.dim.bits / 8) n c.args.codes.now in
    let load : weight i.dim.bits 1 (length (rows_in_order i.order i.buckets) + n) 0 ≤ load_limit
    = subst (λ (v : HashValue). weight v.dim 1 (length v.rows + n) 0 ≤ load_limit) (sym c.self.view_is)
    c.requires.load in
    let keys : HaveKey i.b c.args.key cs
    = subst (λ (v : HashValue). HaveKey v.b c.args.key (chunks_of (v.dim / 8) n c.args.codes.now))
    (sym c.self.view_is) c.requires.keys in
    let added : IsAdded i.order i.buckets c.make_room_under.new.pool c.put_on_one.new.order c.put_on_one.new.lists
    (replicate n c.in-Ok.list) (paired c.args.labels.now cs) = record {
      order_is = c.put_on_one.ensures.order
          ∙ ap (λ (os : List ℕ). os ++ replicate n c.in-Ok.list)
          (order_kept i.order c.make_room_in_order.new.order _ c.in_ok-make_room_in_order.ensures.ok);
      order_one = c.put_on_one.ensures.order_one;
      order_size = c.put_on_one.ensures.order_size;
      rows_are = subst (λ (size : ℕ). (l : ℕ) → lists_in c.put_on_one.new.lists l
          ≡ lists_in c.make_room_under.new.pool l ++ put_on l (replicate n c.in-Ok.list)
          (paired c.args.labels.now (chunks_of size n c.args.codes.now)))
          c.bytes-size.ensures.value c.put_on_one.ensures.rows;
      lists = c.put_on_one.ensures.lists;
      size = c.put_on_one.ensures.size;
    } in
    hash_gained i.dim.bits i.b i.nflip c.args.key c.in-Ok.list i.table c.make_room_under.new.table i.order i.buckets
    c.make_room_under.new.pool c.put_on_one.new.order c.put_on_one.new.lists c.args.labels.now cs
    c.self.invariant (sym (length-chunks_of (i.dim.bits / 8) n c.args.codes.now)) keys
    c.in-Ok.ensures.roomed c.in-Ok.ensures.undo added load

pub invariant_of-self-in-Err : goal.invariant_of-self-in-Err
invariant_of-self-in-Err g c =
    let i = c.self.inside in
    hash_undone i.dim.bits i.b i.nflip i.table c.make_room_under.new.table c.truncate.new.self i.order
    i.buckets c.make_room_in_order.new.order c.make_room_under.new.pool
    c.self.invariant c.in-Err.ensures.undo (c.truncate.ensures
    ∙ ap (λ (n : ℕ). take n c.make_room_under.new.table) c.len-keys.ensures.value)
    (order_kept i.order c.make_room_in_order.new.order _ c.in_ok-make_room_in_order.ensures.ok) (c.in_ok-make_room_in_order.ensures.ok.lists
    ∙ c.self.invariant.order_one) (c.in_ok-make_room_in_order.ensures.ok.code_size ∙ c.self.invariant.order_size)

pub returns-in-Ok-clause-ok : goal.returns-in-Ok-clause-ok
returns-in-Ok-clause-ok g c =
    let i = c.self.inside in
    let n = length c.args.labels.now in
    let cs : List (List ℕ) = chunks_of (i.dim.bits / 8) n c.args.codes.now in
    let keys : HaveKey i.b c.args.key cs
    = subst (λ (v : HashValue). HaveKey v.b c.args.key (chunks_of (v.dim / 8) n c.args.codes.now))
    (sym c.self.view_is) c.requires.keys in
    let added : IsAdded i.order i.buckets c.make_room_under.new.pool c.put_on_one.new.order c.put_on_one.new.lists
    (replicate n c.in-Ok.list) (paired c.args.labels.now cs) = record {
      order_is = c.put_on_one.ensures.order
          ∙ ap (λ (os : List ℕ). os ++ replicate n c.in-Ok.list)
          (order_kept i.order c.make_room_in_order.new.order _ c.in_ok-make_room_in_order.ensures.ok);
      order_one = c.put_on_one.ensures.order_one;
      order_size = c.put_on_one.ensures.order_size;
      rows_are = subst (λ (size : ℕ). (l : ℕ) → lists_in c.put_on_one.new.lists l
          ≡ lists_in c.make_room_under.new.pool l ++ put_on l (replicate n c.in-Ok.list)
          (paired c.args.labels.now (chunks_of size n c.args.codes.now)))
          c.bytes-size.ensures.value c.put_on_one.ensures.rows;
      lists = c.put_on_one.ensures.lists;
      size = c.put_on_one.ensures.size;
    } in
    let rows = rows_gained i.dim.bits i.b i.nflip c.args.key c.in-Ok.list i.table c.make_room_under.new.table i.order
    i.buckets c.make_room_under.new.pool c.put_on_one.new.order c.put_on_one.new.lists c.args.labels.now cs
    c.self.invariant (sym (length-chunks_of (i.dim.bits / 8) n c.args.codes.now)) keys
    c.in-Ok.ensures.roomed c.in-Ok.ensures.undo added in
    ap (λ (rs : List Row). record { dim = i.dim.bits; b = i.b; nflip = i.nflip; rows = rs }) rows
    ∙ ap (λ (v : HashValue). record v {
      rows = v.rows ++ paired c.args.labels.now (chunks_of (v.dim / 8) n c.args.codes.now);
    }) c.self.view_is

pub returns-in-Err-clause-err : goal.returns-in-Err-clause-err
returns-in-Err-clause-err g c =
    let i = c.self.inside in
    let rows = rows_undone i.dim.bits i.b i.nflip i.table c.make_room_under.new.table
    c.truncate.new.self i.order i.buckets c.make_room_in_order.new.order c.make_room_under.new.pool
    c.self.invariant c.in-Err.ensures.undo (c.truncate.ensures
    ∙ ap (λ (n : ℕ). take n c.make_room_under.new.table) c.len-keys.ensures.value)
    (order_kept i.order c.make_room_in_order.new.order _ c.in_ok-make_room_in_order.ensures.ok) (c.in_ok-make_room_in_order.ensures.ok.lists
    ∙ c.self.invariant.order_one) (c.in_ok-make_room_in_order.ensures.ok.code_size ∙ c.self.invariant.order_size) in
    ap (λ (rs : List Row). record { dim = i.dim.bits; b = i.b; nflip = i.nflip; rows = rs }) rows ∙ c.self.view_is
