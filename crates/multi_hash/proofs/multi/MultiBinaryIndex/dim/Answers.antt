use Rattle.std.proofs.Common.{subst, sym}
use Rattle.bcodes.specs.Ranges.{IsDim}
use Rattle.bcodes.specs.Value.{IsLegalMulti}
use Rattle.multi_hash.proofs.MultiLemmas.{legal_multi}
use Rattle.multi_hash.proofs.multi.MultiBinaryIndex.dim.Goals as goal

pub returns-clause-legal : goal.returns-clause-legal
returns-clause-legal g c =
    let i = c.self.inside in
    subst IsLegalMulti c.self.view_is
    (legal_multi i.storage.dim i.b i.nflip i.keys i.storage.codes i.maps.items i.buckets c.self.invariant
    c.dim.ensures.legal.dim c.dim.ensures.legal.codes)
