use Rattle.std.proofs.Common.{◌≡◌, ◌+◌, ◌<◌, ◌^◌, Bool, pos, List, [], ◌∷◌, ◌++◌, map, ap, ◌∙◌, sym, arith, to_z, w64, not}
use Rattle.std.proofs.lemmas.Int.{ints}
use Rattle.std.proofs.lemmas.List.{map-append}
use Rattle.bcodes.specs.Value.{labels_from}
use Rattle.bcodes.proofs.NumberedLemmas.{labels_from-push}
use Rattle.id_select.specs.Removal.{is_chosen, stays}
use Rattle.flat_index.proofs.flat.position_flags.Goals as goal

pub loop-position-preserved : goal.loop-position-preserved
loop-position-preserved c =
    let s = c.args.sel.now in
    let i = c.loop-position.position in
    let small : i < 2 ^ 63 = omega (arith, c.requires, c.loop-position-test.true) in
    let place : to_z w64 i ≡ pos i = omega (arith, ints) in
    let zero : 0 + i ≡ i = omega arith in
    record {
      items = c.push_reserved.ensures.items
          ∙ ap (λ (b : Bool). c.loop-position.flags.items ++ not b ∷ [])
          (c.has.ensures ∙ ap (is_chosen s) (place ∙ ap pos (sym zero)))
          ∙ ap (λ (bs : List Bool). bs ++ stays s (pos (0 + i)) ∷ []) c.loop-position.invariant.items
          ∙ sym (map-append (stays s) (labels_from 0 i) (pos (0 + i) ∷ []))
          ∙ ap (map (stays s)) (sym (labels_from-push 0 i));
      len = c.push_reserved.ensures.len ∙ ap (λ n. n + 1) c.loop-position.invariant.len;
      room = c.push_reserved.ensures.capacity ∙ c.loop-position.invariant.room;
    }
