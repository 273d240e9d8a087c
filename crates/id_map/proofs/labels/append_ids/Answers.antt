use Rattle.std.proofs.Common.{◌≡◌, ◌++◌, ◌∷◌, [], pos, ℤ, List, get_or, take, FitsSigned, w64, rules, arith, ap, sym}
use Rattle.std.proofs.Common.{◌∙◌, append_assoc}
use Rattle.std.proofs.lemmas.Int.{to_z-of_z}
use Rattle.std.proofs.lemmas.List.{take_more}
use Rattle.std.proofs.lemmas.List.Elements.{All-more}
use Rattle.id_map.proofs.labels.append_ids.Goals as goal

pub loop-id-preserved : goal.loop-id-preserved
loop-id-preserved c =
    let id : ℤ = get_or c.args.more.now c.loop-id.id-index (pos 0) in
    let fits : FitsSigned w64 id = search rules in
    let pushed : c.push.new.self.items ≡ c.loop-id.ids.items ++ id ∷ [] = rw (to_z-of_z w64 id fits) at c.in-Ok.ensures.items in
    record {
      items = pushed ∙ ap (λ (l : List ℤ). l ++ id ∷ []) c.loop-id.invariant.items
          ∙ append_assoc c.args.ids.now.items (take c.loop-id.id-index c.args.more.now) (id ∷ [])
          ∙ ap (λ (l : List ℤ). c.args.ids.now.items ++ l) (sym (take_more c.args.more.now c.loop-id.id-index (pos 0) c.loop-id-test.true));
      fit = All-more (FitsSigned w64) c.args.more.now c.loop-id.id-index (pos 0) c.loop-id-test.true c.loop-id.invariant.fit fits;
      room = omega (arith, c.loop-id.invariant.room, c.in-Ok.ensures.len, c.in-Ok.ensures.capacity);
    }
