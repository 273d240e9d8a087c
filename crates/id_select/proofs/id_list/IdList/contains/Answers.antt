use Rattle.std.proofs.Common.{◌∙◌, w64}
use Rattle.std.proofs.lemmas.Int.{to_z-of_z}
use Rattle.id_select.proofs.HalvingLemmas.{found}
use Rattle.id_select.proofs.id_list.IdList.contains.Goals as goal

pub returns : goal.returns
returns c =
    let position = rw (to_z-of_z w64 c.args.id c.ranges.id) at c.binary_search.ensures.position in
    c.is_ok.ensures.value
    ∙ rw (← c.self.view_is, ← c.deref.ensures.value)
    (found c.deref.result.now c.args.id c.binary_search.result position c.binary_search.ensures.bound
    (rw c.deref.ensures.value c.self.invariant))
