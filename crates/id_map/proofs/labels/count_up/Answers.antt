use Rattle.std.proofs.Common.{◌≡◌, ◌+◌, ◌<◌, ◌^◌, ℤ, pos, ap, ◌∙◌, sym, arith, to_z, w64, ◌++◌, ◌∷◌, [], List}
use Rattle.std.proofs.lemmas.Int.{ints}
use Rattle.bcodes.proofs.NumberedLemmas.{labels_from-push}
use Rattle.id_map.proofs.labels.count_up.Goals as goal

pub loop-i-preserved : goal.loop-i-preserved
loop-i-preserved c =
    let small : c.args.from + c.loop-i.i < 2 ^ 63 = omega (arith, c.requires, c.loop-i-test.true) in
    let place : to_z w64 (c.args.from + c.loop-i.i) ≡ pos (c.args.from + c.loop-i.i) = omega (arith, ints) in
    c.in_ok-push.ensures.items
    ∙ ap (λ (label : ℤ). c.loop-i.labels.items ++ label ∷ []) place
    ∙ ap (λ (ls : List ℤ). ls ++ pos (c.args.from + c.loop-i.i) ∷ []) c.loop-i.invariant
    ∙ sym (labels_from-push c.args.from c.loop-i.i)
