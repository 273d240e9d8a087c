use Rattle.std.proofs.Common.{◌≡◌, ◌+◌, ◌-◌, ◌<◌, ℕ, inl, inr, get_or, ap, ◌∙◌, arith, length}
use Rattle.std.proofs.lemmas.Bool.{cases_eq}
use Rattle.std.proofs.lemmas.List.{get_or-set_same, get_or-set_other}
use Rattle.code_pool.specs.Chains.{chain_at}
use Rattle.code_pool.proofs.LinkLemmas.{step_back}
use Rattle.code_pool.proofs.blocks.Blocks.look_ahead.Goals as goal

pub loop-i-preserved : goal.loop-i-preserved
loop-i-preserved c =
    let t = c.self.inside.tables in
    let j = c.loop-i.i - 1 in
    let v = c.loop-i.invariant in
    let bs = (chain_at c.args.self.now (c.args.list + 1)).blocks in
    let here : c.args.at + c.loop-i.i ≡ c.args.at + (c.loop-i.i - 1) + 1 = omega (arith, c.loop-i-test.true) in
    let more : c.args.at + (c.loop-i.i - 1) + 1 < length (chain_at c.args.self.now (c.args.list + 1)).blocks = omega (
      arith,
      v.low,
      c.min-count.ensures,
      c.count.ensures,
      c.requires.within,
      c.loop-i-test.true,
    ) in
    let prior : c.index-block.result.now
    ≡ get_or (chain_at c.args.self.now (c.args.list + 1)).blocks (c.args.at + (c.loop-i.i - 1)) 0 =
    step_back t.before.items t.jump.items t.place.items c.self.inside.free c.self.inside.lists.items c.args.self.now
    c.args.list (c.args.at + (c.loop-i.i - 1)) c.loop-i.block c.index-block.result.now c.self.invariant.blocks
    c.self.view_is c.requires.exists more
    (v.block ∙ ap (λ (x : ℕ). get_or (chain_at c.args.self.now (c.args.list + 1)).blocks x 0) here)
    c.index-block.ensures in
    record {
      low = omega (arith, v.low);
      block = prior;
      each = λ k from low. elim (cases_eq k (c.loop-i.i - 1)) [
        | inl q ↦ rw q (get_or-set_same c.loop-i.ahead.numbers (c.loop-i.i - 1) c.index-block.result.now 0
            (omega (arith, v.low, c.min-count.ensures)) ∙ prior)
        | inr q ↦ get_or-set_other c.loop-i.ahead.numbers (c.loop-i.i - 1) k c.index-block.result.now 0 q
            ∙ v.each k (omega arith) low
      ];
    }
