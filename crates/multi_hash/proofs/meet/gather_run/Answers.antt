use Rattle.std.proofs.Common.{◌≡◌, ◌++◌, ℕ, ℤ, List, map, nat_abs, ap, ◌∙◌}
use Rattle.std.proofs.lemmas.List.{map-append}
use Rattle.multi_hash.specs.Seen.{first_met}
use Rattle.multi_hash.proofs.MetLemmas.{first_met-append}
use Rattle.multi_hash.proofs.meet.gather_run.Goals as goal

pub returns-in_ok-extend_from_slice-clause-met : goal.returns-in_ok-extend_from_slice-clause-met
returns-in_ok-extend_from_slice-clause-met c =
    let met : List ℕ = c.args.met.now.items in
    let before : List ℤ = c.args.waiting.now.items in
    let labels : List ℤ = c.args.labels.now in
    ap (λ (ls : List ℤ). first_met met (map nat_abs ls)) c.in_ok-extend_from_slice.ensures.items
    ∙ ap (first_met met) (map-append nat_abs before labels)
    ∙ first_met-append met (map nat_abs before) (map nat_abs labels)
