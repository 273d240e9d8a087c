use Rattle.std.proofs.Common.{◌≡◌, ◌+◌, length, length-append, map, ap, ◌∙◌, arith}
use Rattle.std.proofs.lemmas.List.{length-map}
use Rattle.code_pool.specs.Lists.{IsPart, RowWalk, label_of}
use Rattle.row_lists.specs.Rows.{lists_in}
use Rattle.id_select.specs.Removal.{stays}
use Rattle.ivf_index.proofs.FlagLemmas.{flags_more}
use Rattle.ivf_index.proofs.list_flags.flag_list.Goals as goal

pub loop-walk-preserved : goal.loop-walk-preserved
loop-walk-preserved g c =
    let rows = lists_in c.args.lists.now c.args.list in
    let v = c.loop-walk.invariant in
    let labels = c.labels.result.now in
    let part : IsPart (map label_of rows) c.loop-walk.walk.at labels = rw v.rows at c.labels.ensures.part in
    let past : c.labels.new.self.at ≡ c.loop-walk.walk.at + length labels = ap (λ (w : RowWalk). w.at) c.labels.ensures.past in
    record {
      rows = ap (λ (w : RowWalk). w.rows) c.labels.ensures.past ∙ v.rows;
      within = omega (arith, past, part.within, c.len-count.ensures.value, length-map rows label_of);
      items = c.push_flags.ensures.items
          ∙ flags_more c.args.sel.now rows c.loop-walk.walk.at c.labels.new.self.at c.args.flags.now.items
          c.loop-walk.flags.items labels part past v.items;
      room = omega (
        arith,
        v.room,
        past,
        c.push_flags.ensures.capacity,
        ap length c.push_flags.ensures.items,
        length-append c.loop-walk.flags.items (map (stays c.args.sel.now) labels),
        length-map labels (stays c.args.sel.now),
        c.loop-walk.flags.ok,
        c.push_flags.new.flags.ok,
      );
    }
