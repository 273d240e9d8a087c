use Rattle.std.proofs.Common.{◌≡◌, ◌+◌, ◌-◌, ◌∷◌, length, map, set}
use Rattle.code_pool.specs.Chains.{IsNext, chain_at, with_new}
use Rattle.code_pool.specs.Linked.{IsFronts, held_by}
use Rattle.code_pool.proofs.LinkLemmas.{IsPartly, with_numbers}
use Rattle.code_pool.proofs.blocks.Blocks.grow.Given as goal

abbrev pub invariant-loop-block : goal.invariant-loop-block
invariant-loop-block l = record {
  partly : IsPartly l.block l.self-inside.tables.before.items l.self-inside.tables.jump.items
      l.self-inside.tables.place.items (l.self-inside.free ∷ l.self-inside.lists.items);
  size : length l.self-inside.tables.before.items ≡ l.fn.self.all + l.n;
  seen : map (held_by l.self-inside.tables.before.items) (l.self-inside.free ∷ l.self-inside.lists.items)
      ≡ set l.fn.self.chains (l.list + 1)
      (with_numbers (chain_at l.fn.self (l.list + 1)) l.fn.self.all (l.block - l.fn.self.all));
  next : IsNext (with_new l.fn.self (l.list + 1) l.n) l.self-inside.next.items;
  fronts : IsFronts (with_new l.fn.self (l.list + 1) l.n) l.self-inside.fronts.items;
}
