use Rattle.std.proofs.Common.{ap, arith}
use Rattle.multi_hash.specs.Partly.{PartlyMade}
use Rattle.multi_hash.proofs.PlaceLemmas.{partly_whole}
use Rattle.multi_hash.proofs.multi.building.Building.finish.Goals as goal

pub invariant_of-result : goal.invariant_of-result
invariant_of-result g c =
    let i = c.self.inside in
    partly_whole i.storage.dim i.b i.made i.keys i.storage.codes i.maps.items i.buckets c.self.invariant (omega (
      arith,
      c.requires,
      ap (λ (v : PartlyMade). v.made) c.self.view_is,
      ap (λ (v : PartlyMade). v.whole.nhash) c.self.view_is,
    ))
