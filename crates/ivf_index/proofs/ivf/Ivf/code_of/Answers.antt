use Rattle.std.proofs.Common.{◌≡◌, ◌<◌, ℕ, length, true, sym, ap, ◌∙◌, arith, subst}
use Rattle.bcodes.specs.Value.{IvfValue}
use Rattle.ivf_index.specs.Direct.{IsPlaced, entries_of, has_map}
use Rattle.ivf_index.specs.Table.{on_list}
use Rattle.code_pool.specs.Lists.{list_at, row_at}
use Rattle.ivf_index.specs.Found.{code_labelled}
use Rattle.row_lists.specs.Rows.{order_in, lists_in}
use Rattle.ivf_index.specs.Inside.{rows_in_order}
use Rattle.ivf_index.proofs.AddLemmas.{lists_small}
use Rattle.ivf_index.proofs.FoundLemmas.{found_at, mapped_once, list_in}
use Rattle.ivf_index.proofs.ivf.Ivf.code_of.Goals as goal

pub lend_one-requires-clause-exists : goal.lend_one-requires-clause-exists
lend_one-requires-clause-exists g c =
    let i = c.self.inside in
    let e : ℕ = c.place.result in
    let on : has_map (entries_of i.direct) ≡ true = subst (λ (v : IvfValue). v.direct ≡ true)
    (sym c.self.view_is) c.requires.direct in
    let low : c.args.label < length (rows_in_order i.order i.lists) = subst
    (λ (v : IvfValue). c.args.label < length v.rows) (sym c.self.view_is) c.requires.within in
    let at : IsPlaced (on_list (rows_in_order i.order i.lists)) i.nlist c.args.label e = subst
    (λ (v : IvfValue). IsPlaced (on_list v.rows) v.nlist c.args.label e) (sym c.self.view_is) c.place.ensures in
    let once = mapped_once (entries_of i.direct) i.nlist c.args.label (order_in i.order) (lists_in i.lists)
    (rows_in_order i.order i.lists) c.self.invariant.table c.self.invariant.direct on low in
    let f = found_at i.nlist c.args.label e (order_in i.order) (lists_in i.lists)
    (rows_in_order i.order i.lists) c.self.invariant.table
    (lists_small i.dim.bits i.nlist i.nprobe i.max_codes
    (entries_of i.direct) i.quantizer i.order i.lists c.self.invariant) at once.once in
    omega (arith, f.list_below, c.place_of-list.ensures.list, c.self.invariant.lists)

pub lend_one-requires-clause-within : goal.lend_one-requires-clause-within
lend_one-requires-clause-within g c =
    let i = c.self.inside in
    let e : ℕ = c.place.result in
    let on : has_map (entries_of i.direct) ≡ true = subst (λ (v : IvfValue). v.direct ≡ true)
    (sym c.self.view_is) c.requires.direct in
    let low : c.args.label < length (rows_in_order i.order i.lists) = subst
    (λ (v : IvfValue). c.args.label < length v.rows) (sym c.self.view_is) c.requires.within in
    let at : IsPlaced (on_list (rows_in_order i.order i.lists)) i.nlist c.args.label e = subst
    (λ (v : IvfValue). IsPlaced (on_list v.rows) v.nlist c.args.label e) (sym c.self.view_is) c.place.ensures in
    let once = mapped_once (entries_of i.direct) i.nlist c.args.label (order_in i.order) (lists_in i.lists)
    (rows_in_order i.order i.lists) c.self.invariant.table c.self.invariant.direct on low in
    let f = found_at i.nlist c.args.label e (order_in i.order) (lists_in i.lists)
    (rows_in_order i.order i.lists) c.self.invariant.table
    (lists_small i.dim.bits i.nlist i.nprobe i.max_codes
    (entries_of i.direct) i.quantizer i.order i.lists c.self.invariant) at once.once in
    subst (λ (l : ℕ). c.place_of-list.result.1 < length (lists_in i.lists l)) (sym c.place_of-list.ensures.list)
    (subst (λ (o : ℕ). o < length (lists_in i.lists (list_in e))) (sym c.place_of-list.ensures.offset) f.within)

pub returns-clause-code : goal.returns-clause-code
returns-clause-code g c =
    let i = c.self.inside in
    let e : ℕ = c.place.result in
    let on : has_map (entries_of i.direct) ≡ true = subst (λ (v : IvfValue). v.direct ≡ true)
    (sym c.self.view_is) c.requires.direct in
    let low : c.args.label < length (rows_in_order i.order i.lists) = subst
    (λ (v : IvfValue). c.args.label < length v.rows) (sym c.self.view_is) c.requires.within in
    let at : IsPlaced (on_list (rows_in_order i.order i.lists)) i.nlist c.args.label e = subst
    (λ (v : IvfValue). IsPlaced (on_list v.rows) v.nlist c.args.label e) (sym c.self.view_is) c.place.ensures in
    let once = mapped_once (entries_of i.direct) i.nlist c.args.label (order_in i.order) (lists_in i.lists)
    (rows_in_order i.order i.lists) c.self.invariant.table c.self.invariant.direct on low in
    let f = found_at i.nlist c.args.label e (order_in i.order) (lists_in i.lists)
    (rows_in_order i.order i.lists) c.self.invariant.table
    (lists_small i.dim.bits i.nlist i.nprobe i.max_codes
    (entries_of i.direct) i.quantizer i.order i.lists c.self.invariant) at once.once in
    c.lend_one.ensures.code
    ∙ ap (λ (l : ℕ). (row_at (list_at i.lists l) c.place_of-list.result.1).code) c.place_of-list.ensures.list
    ∙ ap (λ (o : ℕ). (row_at (list_at i.lists (list_in e)) o).code) c.place_of-list.ensures.offset
    ∙ f.code ∙ ap (λ (v : IvfValue). code_labelled v.rows c.args.label) c.self.view_is
