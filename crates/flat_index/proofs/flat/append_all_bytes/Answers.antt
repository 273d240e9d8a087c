use Rattle.std.proofs.Common.{◌≡◌, ◌+◌, ◌-◌, ◌*◌, ◌<◌, ◌≤◌, ℕ, List, length, take, drop, refl, sym, ap, ◌∙◌}
use Rattle.std.proofs.Common.{arith, rules, append-nil, length-set}
use Rattle.bcodes.specs.Chunks.{chunks_of}
use Rattle.bcodes.specs.Value.{labels_from}
use Rattle.code_pool.specs.Lists.{PoolLists, list_at}
use Rattle.flat_index.proofs.ByteLemmas.{IsMore, pushed_more}
use Rattle.flat_index.proofs.flat.append_all_bytes.Goals as goal

pub loop-done-init : goal.loop-done-init
unfolding chunks_of
loop-done-init g c = record {
  within = omega arith;
  rows = sym (append-nil (list_at c.args.pool.now 0).rows);
  room = omega (arith, c.requires.room);
  lists = refl;
  size = refl;
}

pub loop-done-preserved : goal.loop-done-preserved
loop-done-preserved g c =
    let done = c.loop-done.done in
    let more = c.min-more.result in
    let size = c.args.size in
    let bytes : List ℕ = c.args.bytes.now in
    let left : more ≤ c.args.n - done = search rules in
    let most : more ≤ 256 = search rules in
    let one : 0 < length c.loop-done.pool.lists = omega (arith, c.loop-done.invariant.lists, c.requires.one) in
    let same : c.loop-done.pool.code_size ≡ size = c.loop-done.invariant.size ∙ c.requires.size in
    let long : length (take more c.loop-done.labels) ≡ more = search rules in
    let labels = c.count_up.ensures ∙ ap (labels_from (c.args.count + done)) long in
    let ends : (done + more) * size - done * size ≡ more * size = grind arith in
    let codes = ap (λ (k : ℕ). take k (drop (done * size) bytes)) ends in
    let new : PoolLists = c.push_run.new.self in
    let is : IsMore (list_at c.args.pool.now 0).rows c.loop-done.pool new c.args.count size done more bytes
    = pushed_more (list_at c.args.pool.now 0).rows c.loop-done.pool new c.args.count size done more bytes _ _ one same labels codes c.loop-done.invariant.rows c.push_run.ensures in
    record {
      within = omega (arith, left, c.loop-done-test.true);
      rows = is.rows;
      room = omega (arith, is.spare, left, c.loop-done.invariant.room);
      lists = ap (λ (p : PoolLists). length p.lists) c.push_run.ensures ∙ length-set c.loop-done.pool.lists 0 _
          ∙ c.loop-done.invariant.lists;
      size = ap (λ (p : PoolLists). p.code_size) c.push_run.ensures ∙ c.loop-done.invariant.size;
    }
