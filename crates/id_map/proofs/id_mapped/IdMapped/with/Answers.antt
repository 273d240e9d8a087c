use Rattle.std.proofs.Common.{◌≡◌, ◌++◌, ℤ, List, ap, ◌∙◌}
use Rattle.id_map.proofs.id_mapped.IdMapped.with.Goals as goal

pub invariant_of-result : goal.invariant_of-result
invariant_of-result g c =
    let all : c.append_ids.new.ids.items ≡ c.args.ids.now
    = c.append_ids.ensures.items ∙ ap (λ (l : List ℤ). l ++ c.args.ids.now) c.in_ok-kept.ensures.items in
    record {
      bare = c.requires.bare;
      count = rw all c.requires.count;
      fit = rw all c.append_ids.ensures.fit;
      labels = c.requires.places;
    }
