use Rattle.std.proofs.Common.{◌≡◌, ◌+◌, pos, length, map, get_or, refl, ap, ◌∙◌, arith}
use Rattle.code_pool.specs.Lists.{IsPart, RowWalk, label_of, no_row}
use Rattle.std.proofs.lemmas.List.{length-map}
use Rattle.row_lists.specs.Rows.{lists_in}
use Rattle.ivf_index.specs.Places.{IsRunNoted}
use Rattle.ivf_index.proofs.PlaceLemmas.{list_more, label_at}
use Rattle.ivf_index.proofs.label_places.note_list.Goals as goal

pub returns-then-not-note_run-clause-no : goal.returns-then-not-note_run-clause-no
returns-then-not-note_run-clause-no g c = λ _.
    let rows = lists_in c.args.pool.now c.args.list in
    let at = c.loop-walk.walk.at in
    let labels = c.labels.result.now in
    let part : IsPart (map label_of rows) at labels = rw c.loop-walk.invariant.rows at c.labels.ensures.part in
    let out = c.if-not-note_run.ensures.no refl in
    let row : (get_or rows (at + out.0) no_row).label ≡ get_or labels out.0 (pos 0) = label_at
    (lists_in c.args.pool.now) (length c.args.pool.now.lists) c.args.list at labels c.requires.exists part out.0 out.1 in (
      c.args.list,
      at + out.0,
      omega (arith, out.1, part.within, length-map rows label_of),
      λ m low e. out.2 m (omega (arith, low, c.loop-walk.auto.places)) (e ∙ row),
    )

pub loop-walk-preserved : goal.loop-walk-preserved
loop-walk-preserved g c =
    let rows = lists_in c.args.pool.now c.args.list in
    let at = c.loop-walk.walk.at in
    let labels = c.labels.result.now in
    let v = c.loop-walk.invariant in
    let part : IsPart (map label_of rows) at labels = rw v.rows at c.labels.ensures.part in
    let past : c.labels.new.self.at ≡ at + length labels = ap (λ (w : RowWalk). w.at) c.labels.ensures.past in
    let noted : IsRunNoted c.args.list at labels (length labels) c.loop-walk.places c.note_run.new.places =
    rw c.at-from.ensures at (c.if-not-note_run.ensures.yes refl) in
    record {
      rows = ap (λ (w : RowWalk). w.rows) c.labels.ensures.past ∙ v.rows;
      within = omega (arith, past, part.within, c.len-count.ensures.value, length-map rows label_of);
      noted = rw past (list_more (lists_in c.args.pool.now)
          (length c.args.pool.now.lists) c.args.list at labels c.requires.exists part c.args.places.now
          c.loop-walk.places c.note_run.new.places (omega (arith, c.loop-walk.auto.places)) v.noted noted);
    }
