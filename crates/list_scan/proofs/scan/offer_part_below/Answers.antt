use Rattle.std.proofs.Common.{rules, ◌≡◌, ◌++◌, List, length, nat_lt, ap, ◌∙◌}
use Rattle.std.specs.List.{filter}
use Rattle.bcodes.specs.declared.hit.Hit.{Hit}
use Rattle.hit_lists.specs.Labelled.{hits_of}
use Rattle.list_scan.proofs.RunLemmas.{distances_of, hits_of-rows}
use Rattle.list_scan.proofs.scan.offer_part_below.Goals as goal

pub returns : goal.returns
returns c =
    let scanned : c.scan.new.out ≡ distances_of c.args.kernel.now (length c.args.kernel.now)
    (length c.args.part.labels.now) c.args.part.codes.now = search rules in
    c.offer_below.ensures.items
    ∙ ap (λ (hs : List Hit). c.args.found.now.items ++ filter (λ (h : Hit). nat_lt h.distance c.args.radius) hs)
    (ap (hits_of c.args.part.labels.now) scanned
    ∙ hits_of-rows c.args.kernel.now (length c.args.kernel.now) c.args.part.labels.now c.args.part.codes.now)
