use Rattle.std.proofs.Common.{◌≡◌, ◌+◌, ◌<◌, ◌≤◌, ℕ, length, eqb, ltb, ◌∙◌, arith}
use Rattle.std.specs.Bool.{IsTrue}
use Rattle.std.proofs.lemmas.Bool.Decides.{nat_tests}
use Rattle.std.proofs.lemmas.List.{get_or_read}
use Rattle.code_pool.proofs.LinkLemmas.{goes_on, goes_on-named}
use Rattle.code_pool.proofs.blocks.Blocks.goes_on.Goals as goal

is_equal : (a b : ℕ) → IsTrue (eqb a b) → a ≡ b
is_equal a b h = grind (arith, nat_tests)

equal_is : (a b : ℕ) → a ≡ b → IsTrue (eqb a b)
equal_is a b h = grind (arith, nat_tests)

not_below : (a b : ℕ) → IsTrue (ltb a b) → b ≤ a → ⊥
not_below a b h g = grind (arith, nat_tests)

pub returns-then-next-len-clause-on : goal.returns-then-next-len-clause-on
returns-then-next-len-clause-on c =
    let i = c.self.inside in
    let t = c.self.inside.tables in
    let inside : c.args.block + 1 < length t.before.items = omega (
      arith,
      c.if-next-len.true,
      c.len.ensures,
      t.before.ok.0,
    ) in (
      (λ same. goes_on t.before.items t.jump.items t.place.items i.free i.lists.items c.args.self.now c.args.list
          c.args.at c.args.block c.index.result.now
          c.self.invariant.blocks c.self.view_is c.requires.exists c.requires.within c.requires.here inside
          c.index.ensures (is_equal _ _ same)),
      (λ goes. equal_is _ _ (get_or_read t.before.items (c.args.block + 1) c.index.result.now inside c.index.ensures 0
          ∙ (goes_on-named t.before.items t.jump.items t.place.items i.free i.lists.items c.args.self.now c.args.list
          c.args.at c.args.block c.self.invariant.blocks c.self.view_is c.requires.exists c.requires.here
          goes).1)),
    )

pub returns-else-next-len-clause-on : goal.returns-else-next-len-clause-on
returns-else-next-len-clause-on c =
    let i = c.self.inside in
    let t = c.self.inside.tables in (
      (λ low. absurd (not_below _ _ low c.if-next-len.false)),
      (λ goes. absurd (
          let n = goes_on-named t.before.items t.jump.items t.place.items i.free i.lists.items c.args.self.now
          c.args.list c.args.at c.args.block c.self.invariant.blocks c.self.view_is c.requires.exists
          c.requires.here goes in
          let inside : c.args.block + 1 < length t.before.items = n.0 in
          omega (arith, c.if-next-len.false, c.len.ensures, t.before.ok.0))),
    )
