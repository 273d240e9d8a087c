use Rattle.std.proofs.Common.{subst}
use Rattle.bcodes.specs.Value.{IsLegalIvf}
use Rattle.ivf_index.specs.Direct.{entries_of}
use Rattle.ivf_index.proofs.LegalIvf.{legal_ivf}
use Rattle.ivf_index.proofs.ivf.IvfBinaryIndex.dim.Goals as goal

pub returns-clause-legal : goal.returns-clause-legal
returns-clause-legal g c =
    subst IsLegalIvf c.self.view_is
    (legal_ivf c.self.inside.dim.bits c.self.inside.nlist c.self.inside.nprobe c.self.inside.max_codes
    (entries_of c.self.inside.direct) c.self.inside.quantizer c.self.inside.order c.self.inside.lists
    c.self.inside.dim.in_range c.self.invariant c.dim-dim.ensures.legal c.lists-lists.ensures.rows)
