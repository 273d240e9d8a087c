use Rattle.std.proofs.Common.{◌≡◌, ◌<◌, length, true, sym, subst}
use Rattle.bcodes.specs.Value.{IvfValue}
use Rattle.ivf_index.specs.Direct.{IsPlaced, entries_of, has_map}
use Rattle.ivf_index.specs.Table.{on_list}
use Rattle.row_lists.specs.Rows.{order_in, lists_in}
use Rattle.ivf_index.specs.Inside.{rows_in_order}
use Rattle.ivf_index.proofs.FoundLemmas.{mapped_once}
use Rattle.ivf_index.proofs.ivf.Ivf.place.Goals as goal

pub entry_of-requires-clause-within : goal.entry_of-requires-clause-within
entry_of-requires-clause-within g c =
    let i = c.self.inside in
    let on : has_map (entries_of i.direct) ≡ true = subst (λ (v : IvfValue). v.direct ≡ true)
    (sym c.self.view_is) c.requires.direct in
    let low : c.args.label < length (rows_in_order i.order i.lists) = subst
    (λ (v : IvfValue). c.args.label < length v.rows) (sym c.self.view_is) c.requires.within in
    (mapped_once (entries_of i.direct) i.nlist c.args.label (order_in i.order) (lists_in i.lists)
    (rows_in_order i.order i.lists) c.self.invariant.table c.self.invariant.direct on low).within

pub returns : goal.returns
returns g c =
    let i = c.self.inside in
    let on : has_map (entries_of i.direct) ≡ true = subst (λ (v : IvfValue). v.direct ≡ true)
    (sym c.self.view_is) c.requires.direct in
    let low : c.args.label < length (rows_in_order i.order i.lists) = subst
    (λ (v : IvfValue). c.args.label < length v.rows) (sym c.self.view_is) c.requires.within in
    let once = mapped_once (entries_of i.direct) i.nlist c.args.label (order_in i.order) (lists_in i.lists)
    (rows_in_order i.order i.lists) c.self.invariant.table c.self.invariant.direct on low in
    subst (λ (v : IvfValue). IsPlaced (on_list v.rows) v.nlist c.args.label c.entry_of.result) c.self.view_is
    (subst (IsPlaced (on_list (rows_in_order i.order i.lists)) i.nlist c.args.label) (sym c.entry_of.ensures)
    once.placed)
