use Rattle.std.proofs.Common.{rules, ◌≡◌, ◌≤◌, ◌++◌, List, length, take, sym, ap, ◌∙◌, subst}
use Rattle.std.specs.List.{All}
use Rattle.bcodes.specs.declared.hit.Hit.{Hit}
use Rattle.bcodes.specs.Hits.{in_order}
use Rattle.hit_lists.specs.Labelled.{hits_of}
use Rattle.list_scan.proofs.RunLemmas.{distances_of, hits_of-rows, distances_of-le}
use Rattle.list_scan.proofs.scan.offer_part.Goals as goal

pub offer_all-requires-clause-distances : goal.offer_all-requires-clause-distances
offer_all-requires-clause-distances c =
    let scanned : c.scan.new.out ≡ distances_of c.args.kernel.now (length c.args.kernel.now)
    (length c.args.part.labels.now) c.args.part.codes.now = search rules in
    subst (λ ds. All (λ d. d ≤ c.args.best.now.bits) ds) (sym scanned)
    (distances_of-le c.args.kernel.now (length c.args.kernel.now)
    (length c.args.part.labels.now) c.args.best.now.bits c.args.part.codes.now c.requires.bits)

pub returns-clause-items : goal.returns-clause-items
returns-clause-items c =
    let scanned : c.scan.new.out ≡ distances_of c.args.kernel.now (length c.args.kernel.now)
    (length c.args.part.labels.now) c.args.part.codes.now = search rules in
    c.offer_all.ensures.items
    ∙ ap (λ (hs : List Hit). take c.args.best.now.k (in_order (c.args.best.now.items ++ hs)))
    (ap (hits_of c.args.part.labels.now) scanned
    ∙ hits_of-rows c.args.kernel.now (length c.args.kernel.now) c.args.part.labels.now c.args.part.codes.now)
