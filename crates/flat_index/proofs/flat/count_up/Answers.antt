use Rattle.std.proofs.Common.{◌≡◌, ◌+◌, ◌<◌, ◌++◌, ◌∷◌, [], ℤ, pos, List, length, sym, ap, ◌∙◌, arith, to_z, w64}
use Rattle.std.proofs.lemmas.Int.{ints}
use Rattle.std.proofs.lemmas.List.{take_more_set}
use Rattle.bcodes.specs.Value.{labels_from}
use Rattle.bcodes.proofs.NumberedLemmas.{labels_from-push}
use Rattle.flat_index.proofs.flat.count_up.Goals as goal

pub loop-i-preserved : goal.loop-i-preserved
loop-i-preserved c =
    let i = c.loop-i.i in
    let first = c.args.first in
    let low : i < length c.loop-i.labels = omega (arith, c.loop-i-test.true, c.loop-i.auto.labels) in
    let place : to_z w64 (first + i) ≡ pos (first + i) = omega (arith, ints, c.requires, c.loop-i-test.true) in
    take_more_set c.loop-i.labels i (to_z w64 (first + i)) low
    ∙ ap (λ (ls : List ℤ). ls ++ to_z w64 (first + i) ∷ []) c.loop-i.invariant
    ∙ ap (λ (z : ℤ). labels_from first i ++ z ∷ []) place ∙ sym (labels_from-push first i)
