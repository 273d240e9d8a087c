use Rattle.std.proofs.Common.{subst}
use Rattle.bcodes.specs.Value.{IsLegalHash}
use Rattle.hash_index.proofs.LegalHash.{legal_hash}
use Rattle.hash_index.proofs.hash.HashBinaryIndex.dim.Goals as goal

pub returns-clause-legal : goal.returns-clause-legal
returns-clause-legal g c =
    subst IsLegalHash c.self.view_is
    (legal_hash c.self.inside.dim.bits c.self.inside.b c.self.inside.nflip c.self.inside.table
    c.self.inside.order c.self.inside.buckets c.self.inside.dim.in_range c.self.invariant
    c.lists-lists.ensures.rows)
