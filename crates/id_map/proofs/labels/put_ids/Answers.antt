use Rattle.std.proofs.Common.{◌≡◌, ◌<◌, pos, nat_abs, List, length, get_or, set, refl, ap, ◌∙◌, arith, rules, FitsSigned}
use Rattle.std.proofs.Common.{add-one, w64}
use Rattle.std.proofs.lemmas.Int.{to_z-of_z}
use Rattle.bcodes.specs.declared.hit.Hit.{Hit}
use Rattle.bcodes.specs.Hits.{no_hit}
use Rattle.bcodes.specs.Answers.{outer}
use Rattle.id_map.proofs.HitLemmas.{half, get-half, set-half}
use Rattle.id_map.proofs.labels.put_ids.Goals as goal

pub loop-i-preserved : goal.loop-i-preserved
loop-i-preserved c =
    let here : c.loop-i.i < length c.args.hits.now.items = omega (arith, c.loop-i-test.true, c.len-i-end.ensures) in
    let found : get_or c.loop-i.hits.items c.loop-i.i no_hit ≡ get_or c.args.hits.now.items c.loop-i.i no_hit
    = ap (λ (l : List Hit). get_or l c.loop-i.i no_hit) c.loop-i.invariant
    ∙ get-half (outer c.args.ids.now) c.args.hits.now.items c.loop-i.i no_hit in
    let label = (get_or c.as_slice.result.now c.loop-i.i no_hit).label in
    let label_fits : FitsSigned w64 label = search rules in
    let id = get_or c.args.ids.now (nat_abs label) (pos 0) in
    let id_fits : FitsSigned w64 id = search rules in
    let written : c.relabel.new.self.items
    ≡ set (half (outer c.args.ids.now) c.args.hits.now.items c.loop-i.i) c.loop-i.i
    (outer c.args.ids.now (get_or c.args.hits.now.items c.loop-i.i no_hit))
    = rw (
      c.relabel.ensures.items,
      to_z-of_z w64 label label_fits,
      to_z-of_z w64 id id_fits,
      c.as_slice.ensures,
      found,
      c.loop-i.invariant,
    ) refl in
    rw add-one (written ∙ set-half (outer c.args.ids.now) c.args.hits.now.items c.loop-i.i no_hit here)
