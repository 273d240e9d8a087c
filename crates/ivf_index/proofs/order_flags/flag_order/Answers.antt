use Rattle.std.proofs.Common.{◌≡◌, ◌+◌, ◌<◌, ◌++◌, ℕ, List, length, map, take, nat_abs, sym, ap, ◌∙◌, arith}
use Rattle.std.proofs.Common.{length-take, subst}
use Rattle.std.proofs.Math.Seq.{take-add}
use Rattle.std.proofs.lemmas.List.{length-map}
use Rattle.bcodes.specs.Value.{Row}
use Rattle.code_pool.specs.Lists.{IsPart, RowWalk, label_of, list_at}
use Rattle.flip_walk.specs.Patterns.{times}
use Rattle.row_lists.specs.Rows.{order_in}
use Rattle.ivf_index.specs.Flags.{AreOrderFlags}
use Rattle.ivf_index.proofs.FlagLemmas.{known_part, part_of, times-part}
use Rattle.ivf_index.proofs.order_flags.flag_order.Goals as goal

pub flag_run-requires-clause-known : goal.flag_run-requires-clause-known
flag_run-requires-clause-known g c =
    let rows = (list_at c.args.order.now 0).rows in
    let part : IsPart (map label_of rows) c.loop-walk.walk.at c.labels.result.now = rw c.loop-walk.invariant.rows at c.labels.ensures.part in
    known_part (length c.loop-walk.next) rows c.loop-walk.walk.at c.labels.result.now part
    (rw (← c.loop-walk.auto.next) at c.requires.known)

pub flag_run-requires-clause-within : goal.flag_run-requires-clause-within
flag_run-requires-clause-within g c = λ l low.
    let rows = (list_at c.args.order.now 0).rows in
    let labels = c.labels.result.now in
    let os = order_in c.args.order.now in
    let at = c.loop-walk.walk.at in
    let part : IsPart (map label_of rows) at labels = rw c.loop-walk.invariant.rows at c.labels.ensures.part in
    let here : l < length c.args.next.now = omega (arith, c.loop-walk.auto.next) in
    omega (
      arith,
      c.loop-walk.invariant.flags.ends l here,
      c.requires.within l here,
      times-part l at (length labels) os,
      ap (times l) (part_of nat_abs rows at labels part),
    )

pub loop-walk-preserved : goal.loop-walk-preserved
loop-walk-preserved g c =
    let rows = (list_at c.args.order.now 0).rows in
    let labels = c.labels.result.now in
    let os = order_in c.args.order.now in
    let at = c.loop-walk.walk.at in
    let v = c.loop-walk.invariant in
    let part : IsPart (map label_of rows) at labels = rw v.rows at c.labels.ensures.part in
    let past : c.labels.new.self.at ≡ at + length labels = ap (λ (w : RowWalk). w.at) c.labels.ensures.past in
    let numbers : take at os ++ map nat_abs labels ≡ take c.labels.new.self.at os =
    ap (λ (ns : List ℕ). take at os ++ ns) (part_of nat_abs rows at labels part)
    ∙ sym (take-add at (length labels) os) ∙ ap (λ (n : ℕ). take n os) (sym past) in
    let flags : AreOrderFlags c.args.flags.now c.args.next.now (take c.labels.new.self.at os) c.flag_run.new.next
    c.flag_run.new.found.items = subst (λ (ns : List ℕ). AreOrderFlags c.args.flags.now c.args.next.now ns
    c.flag_run.new.next c.flag_run.new.found.items) numbers
    (c.flag_run.ensures.flags c.args.next.now (take at os) (sym c.loop-walk.auto.next) v.flags) in
    record {
      rows = ap (λ (w : RowWalk). w.rows) c.labels.ensures.past ∙ v.rows;
      within = omega (arith, past, part.within, c.len-count.ensures.value, length-map rows label_of);
      flags = flags;
      room = omega (
        arith,
        v.room,
        past,
        part.within,
        flags.count,
        v.flags.count,
        length-take at os,
        length-take c.labels.new.self.at os,
        length-map rows label_of,
        length-map rows (λ (row : Row). nat_abs row.label),
        c.flag_run.ensures.capacity,
        c.loop-walk.found.ok,
        c.flag_run.new.found.ok,
      );
    }
