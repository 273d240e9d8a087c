use Rattle.std.proofs.Common.{◌≡◌, ◌<◌, [], ℕ, List, length, ap, sym, ◌∙◌, subst}
use Rattle.std.specs.List.{All, flat_map, range_with_len}
use Rattle.multi_hash.specs.Meet.{positions_on}
use Rattle.multi_hash.specs.Seen.{first_met}
use Rattle.multi_hash.proofs.MetLemmas.{met-near, near_there}
use Rattle.multi_hash.proofs.meet.meet.Goals as goal

pub meet_lists-requires-clause-known : goal.meet_lists-requires-clause-known
meet_lists-requires-clause-known g c =
    let n : ℕ = length c.args.buckets.now.lists in
    subst (All (λ l. l < n)) (sym (c.deref.ensures.value ∙ c.in_ok-near.ensures.near))
    (near_there c.args.maps.now n c.args.b c.args.nflip c.args.q.now (length c.args.maps.now)
    c.requires.numbered c.in_ok-near.ensures.distinct)

pub returns-clause-met : goal.returns-clause-met
returns-clause-met g c =
    let maps = c.args.maps.now in
    let on : ℕ → List ℕ = positions_on c.args.buckets.now in
    c.in_ok-met.ensures
    ∙ ap (λ (ls : List ℕ). first_met [] (flat_map on ls)) (c.deref.ensures.value ∙ c.in_ok-near.ensures.near)
    ∙ ap (first_met []) (met-near maps c.args.buckets.now c.args.b c.args.nflip c.args.q.now
    (range_with_len 0 (length maps)))
