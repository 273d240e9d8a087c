use Rattle.std.proofs.Common.{ap, ◌∙◌}
use Rattle.bcodes.proofs.OrderLemmas.{sorted_is}
use Rattle.hit_lists.specs.BestHits.{BestHits}
use Rattle.hit_lists.proofs.best_k.BestK.into_hits.Goals as goal

pub returns : goal.returns
returns c =
    c.from_vec.ensures
    ∙ sorted_is c.self.inside.table.hits.items c.sort_unstable.new.self.items c.sort_unstable.ensures.permutation
    c.sort_unstable.ensures.sorted
    ∙ ap (λ (h : BestHits). h.items) c.self.view_is
