use Rattle.std.proofs.Common.{◌≡◌, ◌≤◌, ◌-◌, ◌∙◌, length, take, ap, ℕ, subst}
use Rattle.code_pool.specs.Lists.{PoolLists, given, kept, list_at, with_list}
use Rattle.code_pool.specs.Inside.{pool_in}
use Rattle.code_pool.proofs.KeepLemmas.{list_kept}
use Rattle.code_pool.proofs.PoolLemmas.{list_len}
use Rattle.code_pool.proofs.pool.Pool.keep_rows.Goals as goal

pub move_kept-kept-requires-clause-flags : goal.move_kept-kept-requires-clause-flags
move_kept-kept-requires-clause-flags g c = c.requires.flags
    ∙ list_len c.self.inside.rows c.self.inside.blocks c.args.self.now c.args.list c.self.view_is c.requires.exists

pub returns-clause-lists : goal.returns-clause-lists
returns-clause-lists g c =
    let p = c.args.self.now in
    let i = c.args.list in
    let q = pool_in c.move_kept-kept.new.rows c.self.inside.blocks in
    let e = c.move_kept-kept.ensures in
    let n = c.move_kept-kept.result in
    let flags = c.args.keep.now in
    let others : q ≡ with_list p i (record { rows = (list_at q i).rows; spare = (list_at p i).spare }) =
    subst (λ (x : PoolLists). q ≡ with_list x i (record { rows = (list_at q i).rows; spare = (list_at x i).spare }))
    c.self.view_is e.others in
    let front : (n ≤ length (list_at q i).rows) × (take n (list_at q i).rows ≡ kept (list_at p i).rows flags)
    × (n ≡ length (kept (list_at p i).rows flags)) =
    subst (λ (x : PoolLists). (n ≤ length (list_at q i).rows)
    × (take n (list_at q i).rows ≡ kept (list_at x i).rows flags)
    × (n ≡ length (kept (list_at x i).rows flags))) c.self.view_is (e.within, e.front, e.count) in
    let size : length (list_at q i).rows ≡ length (list_at p i).rows =
    subst (λ (x : PoolLists). length (list_at q i).rows ≡ length (list_at x i).rows) c.self.view_is e.size in
    (list_kept p q c.cut.new.self c.give_blocks.new.self i n c.blocks-2.result flags c.requires.exists others front size
    c.cut.ensures c.blocks-2.ensures.whole
    (c.give_blocks.ensures
    ∙ ap (λ (k : ℕ). given c.cut.new.self c.args.list (c.blocks-2.result - k)) c.blocks_for-needed.ensures)).0
