use Rattle.std.proofs.Common.{◌≡◌, ◌≢◌, ◌+◌, ◌∙◌, ℕ, length, sym, subst, arith}
use Rattle.code_pool.specs.Chains.{IsFront}
use Rattle.code_pool.proofs.FrontLemmas.{front-first, front-longer, front-same}
use Rattle.code_pool.proofs.front.Front.with_blocks.Goals.{else-self-blocks-via-then-self-blocks+else-self-blocks-2}
use Rattle.code_pool.proofs.front.Front.with_blocks.Goals.{else-self-blocks-via-else-self-blocks}
use Rattle.code_pool.proofs.front.Front.with_blocks.Goals as goal

pub returns-then-blocks-eq0 : goal.returns-then-blocks-eq0
returns-then-blocks-eq0 c = λ list size f. front-first list c.args.first c.args.n (size ∙ c.if-blocks-eq0.true)

pub returns-then-self-blocks-2 : goal.returns-then-self-blocks-2
returns-then-self-blocks-2 c = λ list size f.
    front-longer list c.args.self.first c.args.self.blocks c.args.first c.args.blocks c.args.n f size
    c.if-self-blocks.true (omega (arith, c.if-blocks-eq0.false)) (sym c.if-self-blocks-2.true)

pub returns-else-self-blocks : goal.returns-else-self-blocks
returns-else-self-blocks c = λ list size f.
    front-same list c.args.self.first c.args.self.blocks c.args.first c.args.n f (omega (arith, c.if-blocks-eq0.false))
    (λ whole goes. elim c.else-self-blocks.branch [
      | else-self-blocks-via-then-self-blocks+else-self-blocks-2 w ↦ w.if-self-blocks-2.false (omega arith)
      | else-self-blocks-via-else-self-blocks w ↦ w.if-self-blocks.false (omega arith)
    ])
