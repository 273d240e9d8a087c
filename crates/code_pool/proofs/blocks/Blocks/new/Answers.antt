use Rattle.std.proofs.Common.{refl}
use Rattle.code_pool.proofs.LinkLemmas.{blocks-none}
use Rattle.code_pool.proofs.NextLemmas.{next-none}
use Rattle.code_pool.proofs.FrontLemmas.{fronts-none}
use Rattle.code_pool.proofs.blocks.Blocks.new.Goals as goal

pub invariant_of-result : goal.invariant_of-result
invariant_of-result c =
    rw (
      c.new.ensures.items,
      c.new-2.ensures.items,
      c.new-3.ensures.items,
      c.new-4.ensures.items,
      c.new-5.ensures.items,
      c.new-6.ensures.items,
    ) (record { blocks = blocks-none; next = next-none _ refl; front = fronts-none _ refl })
