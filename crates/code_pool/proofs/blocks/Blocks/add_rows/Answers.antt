use Rattle.std.proofs.Common.{ℕ, ◌*◌, ◌%◌, ◌+◌, arith, subst}
use Rattle.code_pool.specs.Chains.{IsStretch, list_of}
use Rattle.code_pool.proofs.LinkLemmas.{list_short, tied-stretch}
use Rattle.code_pool.proofs.blocks.Blocks.add_rows.Goals as goal

pub overflow_add-len : goal.overflow_add-len
overflow_add-len c =
    let i = c.self.inside in
    let t = c.self.inside.tables in
    omega (
      arith,
      list_short t.before.items t.jump.items t.place.items i.free i.lists.items c.args.self.now
          c.args.list c.self.invariant.blocks c.self.view_is c.requires.exists,
      c.requires.room,
      c.len-len.ensures.value,
      c.min-rows.ensures,
    )

pub returns-clause-beside : goal.returns-clause-beside
returns-clause-beside c =
    let b = c.side_by_side-beside in
    subst (λ (n : ℕ). IsStretch (list_of c.args.self.now c.args.list).blocks n
    (b.result.first * 4 + c.len-len.result % 4) c.min-rows.result) c.len-len.ensures.value
    (tied-stretch _ c.len-len.result b.result.count b.result.first _ c.min-rows.result b.ensures.tied
    b.ensures.first (omega arith) (omega (arith, c.min-rows.ensures)))
