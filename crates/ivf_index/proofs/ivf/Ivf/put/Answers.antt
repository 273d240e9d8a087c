use Rattle.std.proofs.Common.{◌≡◌, ◌+◌, ◌<◌, ◌≤◌, ◌++◌, ℕ, Bool, true, List, length, map, refl, sym}
use Rattle.std.proofs.Common.{ap, ◌∙◌, arith, subst}
use Rattle.std.specs.declared.option.Option.{Option}
use Rattle.std.specs.List.{All}
use Rattle.std.proofs.lemmas.Result.{err_from_is_err_and}
use Rattle.bcodes.specs.Ranges.{load_limit}
use Rattle.bcodes.specs.Value.{Row, ListRow, IvfValue, weight, labels_from}
use Rattle.bcodes.specs.Answers.{paired}
use Rattle.ivf_index.specs.Table.{put_rows}
use Rattle.row_lists.specs.Put.{put_on}
use Rattle.ivf_index.specs.Entries.{ArePlaces}
use Rattle.ivf_index.proofs.EntryLemmas.{places_kept}
use Rattle.ivf_index.specs.Direct.{entries_of, has_map, extended}
use Rattle.ivf_index.specs.Inside.{rows_in_order}
use Rattle.row_lists.proofs.PutLemmas.{length-paired}
use Rattle.ivf_index.proofs.VisitLemmas.{value_in}
use Rattle.ivf_index.proofs.DirectLemmas.{has_map-extended}
use Rattle.ivf_index.proofs.AddLemmas.{IsAdded, rows_prepared, ivf_prepared, rows_added, ivf_added}
use Rattle.ivf_index.proofs.AddLemmas.{rows_few, order_few, prepared, inside_load, labels-paired}
use Rattle.ivf_index.proofs.ivf.Ivf.put.Goals as goal

pub reserve-requires-clause-few : goal.reserve-requires-clause-few
reserve-requires-clause-few g c =
    let i = c.self.inside in
    let v : IvfValue = value_in i.dim.bits i.nlist i.nprobe i.max_codes
    (entries_of i.direct) i.quantizer i.order i.lists in
    let load = inside_load v c.args.self.now (length c.args.codes.now.codes) c.self.view_is c.requires.load in
    omega (
      arith,
      c.len.ensures.value,
      order_few i.dim.bits i.nlist i.nprobe i.max_codes (length c.args.codes.now.codes)
          (entries_of i.direct) i.quantizer i.order i.lists c.self.invariant load,
    )

pub reserve_each-requires-clause-few : goal.reserve_each-requires-clause-few
reserve_each-requires-clause-few g c = λ l.
    let i = c.self.inside in
    let v : IvfValue = value_in i.dim.bits i.nlist i.nprobe i.max_codes
    (entries_of i.direct) i.quantizer i.order i.lists in
    let load = inside_load v c.args.self.now (length c.args.codes.now.codes) c.self.view_is c.requires.load in
    omega (
      arith,
      c.requires.same_numbers,
      rows_few i.dim.bits i.nlist i.nprobe i.max_codes (length c.args.codes.now.codes)
          (entries_of i.direct) i.quantizer i.order i.lists c.self.invariant load l,
    )

pub put_all-requires-clause-few : goal.put_all-requires-clause-few
put_all-requires-clause-few g c = λ l.
    let i = c.self.inside in
    let v : IvfValue = value_in i.dim.bits i.nlist i.nprobe i.max_codes
    (entries_of i.direct) i.quantizer i.order i.lists in
    let load = inside_load v c.args.self.now (length c.args.codes.now.codes) c.self.view_is c.requires.load in
    omega (
      arith,
      c.requires.same_numbers,
      rows_few i.dim.bits i.nlist i.nprobe i.max_codes (length c.args.codes.now.codes)
          (entries_of i.direct) i.quantizer i.order i.lists c.self.invariant load l,
      ap length (c.reserve_each.ensures.same.rows l),
    )

pub invariant_of-self-in_err-reserve_each : goal.invariant_of-self-in_err-reserve_each
invariant_of-self-in_err-reserve_each g c =
    let i = c.self.inside in
    let p = prepared i.order i.lists c.reserve.new.self c.reserve_each.new.lists c.len.result c.self.invariant.order_one
    c.self.invariant.order_size c.in_ok-reserve.ensures.ok c.reserve_each.ensures.same in
    ivf_prepared i.dim.bits i.nlist i.nprobe i.max_codes (entries_of i.direct)
    (entries_of i.direct) i.quantizer i.order i.lists c.reserve.new.self c.reserve_each.new.lists c.self.invariant p
    refl

pub returns-in_err-reserve_each-clause-err : goal.returns-in_err-reserve_each-clause-err
returns-in_err-reserve_each-clause-err g c =
    let i = c.self.inside in
    let p = prepared i.order i.lists c.reserve.new.self c.reserve_each.new.lists c.len.result c.self.invariant.order_one
    c.self.invariant.order_size c.in_ok-reserve.ensures.ok c.reserve_each.ensures.same in
    let e = err_from_is_err_and c.from_residual-in_err-reserve_each.result c.from_residual-in_err-reserve_each.ensures.1 in
    rw e.1 (ap (λ (rows : List ListRow). record
    (value_in i.dim.bits i.nlist i.nprobe i.max_codes (entries_of i.direct) i.quantizer i.order i.lists)
    { rows = rows }) (rows_prepared i.order i.lists c.reserve.new.self c.reserve_each.new.lists p) ∙ c.self.view_is)

pub invariant_of-self-in_err-reserve_places : goal.invariant_of-self-in_err-reserve_places
invariant_of-self-in_err-reserve_places g c =
    let i = c.self.inside in
    let p = prepared i.order i.lists c.reserve.new.self c.reserve_each.new.lists c.len.result c.self.invariant.order_one
    c.self.invariant.order_size c.in_ok-reserve.ensures.ok c.reserve_each.ensures.same in
    ivf_prepared i.dim.bits i.nlist i.nprobe i.max_codes (entries_of i.direct)
    (entries_of c.reserve_places.new.direct) i.quantizer i.order i.lists c.reserve.new.self c.reserve_each.new.lists
    c.self.invariant p c.in_err-reserve_places.ensures.entries

pub returns-in_err-reserve_places-clause-err : goal.returns-in_err-reserve_places-clause-err
returns-in_err-reserve_places-clause-err g c =
    let i = c.self.inside in
    let p = prepared i.order i.lists c.reserve.new.self c.reserve_each.new.lists c.len.result c.self.invariant.order_one
    c.self.invariant.order_size c.in_ok-reserve.ensures.ok c.reserve_each.ensures.same in
    let e = err_from_is_err_and c.from_residual-in_err-reserve_places.result
    c.from_residual-in_err-reserve_places.ensures.1 in
    rw e.1 (
    ap (λ (es : Option (List ℕ)). record
    (value_in i.dim.bits i.nlist i.nprobe i.max_codes
    (entries_of i.direct) i.quantizer c.reserve.new.self c.reserve_each.new.lists) { direct = has_map es })
    c.in_err-reserve_places.ensures.entries
    ∙ ap (λ (rows : List ListRow). record
    (value_in i.dim.bits i.nlist i.nprobe i.max_codes (entries_of i.direct) i.quantizer i.order i.lists)
    { rows = rows }) (rows_prepared i.order i.lists c.reserve.new.self c.reserve_each.new.lists p)
    ∙ c.self.view_is
    )

pub invariant_of-self-2 : goal.invariant_of-self-2
invariant_of-self-2 g c =
    let i = c.self.inside in
    let ns : List ℕ = c.args.numbers.now in
    let new : List Row = paired c.args.labels.now c.args.codes.now.codes in
    let v : IvfValue = value_in i.dim.bits i.nlist i.nprobe i.max_codes
    (entries_of i.direct) i.quantizer i.order i.lists in
    let many : length new ≡ length c.args.codes.now.codes =
    length-paired c.args.labels.now c.args.codes.now.codes c.requires.same_labels in
    let same : length ns ≡ length new = c.requires.same_numbers ∙ sym many in
    let known : All (λ (n : ℕ). n < i.nlist) ns = subst (λ (w : IvfValue). All (λ (n : ℕ). n < w.nlist) ns)
    (sym c.self.view_is) c.requires.known in
    let trained : length i.quantizer.codes ≡ i.nlist = subst (λ (w : IvfValue). length w.centroids ≡ w.nlist)
    (sym c.self.view_is) c.requires.is_trained in
    let p = prepared i.order i.lists c.reserve.new.self c.reserve_each.new.lists c.len.result c.self.invariant.order_one
    c.self.invariant.order_size c.in_ok-reserve.ensures.ok c.reserve_each.ensures.same in
    let a : IsAdded i.order i.lists c.put_all.new.order c.put_all.new.lists ns new = record {
      order_is = c.put_all.ensures.order ∙ ap (λ (os : List ℕ). os ++ ns) (p.order_is);
      order_one = c.put_all.ensures.order_one;
      order_size = c.put_all.ensures.order_size;
      rows_are = λ l. c.put_all.ensures.rows l
          ∙ ap (λ (rs : List Row). rs ++ put_on l ns new) (c.reserve_each.ensures.same.rows l);
      count = c.put_all.ensures.lists ∙ c.reserve_each.ensures.same.lists;
      size = c.put_all.ensures.size ∙ c.reserve_each.ensures.same.size;
    } in
    let m = c.put_all.ensures.direct in
    let at : ArePlaces i.lists ns (length ns) m.places = places_kept i.lists c.reserve_each.new.lists ns
    (length ns) m.places c.reserve_each.ensures.same m.are in
    let es : entries_of c.put_all.new.direct ≡ extended (entries_of i.direct) m.places
    = m.entries ∙ ap (λ (o : Option (List ℕ)). extended o m.places) c.in_ok-reserve_places.ensures.entries in
    let labels : has_map (entries_of i.direct) ≡ true
    → map (λ (row : Row). row.label) new ≡ labels_from (length (rows_in_order i.order i.lists)) (length ns)
    = λ on. labels-paired c.args.labels.now c.args.codes.now.codes c.requires.same_labels
    ∙ subst (λ (w : IvfValue). w.direct ≡ true
    → c.args.labels.now ≡ labels_from (length w.rows) (length c.args.codes.now.codes))
    (sym c.self.view_is) c.requires.positions on
    ∙ ap (labels_from (length (rows_in_order i.order i.lists))) (sym c.requires.same_numbers) in
    let load = inside_load v c.args.self.now (length c.args.codes.now.codes) c.self.view_is c.requires.load in
    let load_new : weight i.dim.bits 0 (length (rows_in_order i.order i.lists) + length new)
    (length i.quantizer.codes) ≤ load_limit = rw many load in
    ivf_added i.dim.bits i.nlist i.nprobe i.max_codes
    (entries_of i.direct) i.quantizer i.order i.lists c.put_all.new.order c.put_all.new.lists ns new c.self.invariant
    same known a m.places at (entries_of c.put_all.new.direct) es trained labels load_new

pub returns-clause-ok : goal.returns-clause-ok
returns-clause-ok g c =
    let i = c.self.inside in
    let ns : List ℕ = c.args.numbers.now in
    let new : List Row = paired c.args.labels.now c.args.codes.now.codes in
    let many : length new ≡ length c.args.codes.now.codes =
    length-paired c.args.labels.now c.args.codes.now.codes c.requires.same_labels in
    let same : length ns ≡ length new = c.requires.same_numbers ∙ sym many in
    let known : All (λ (n : ℕ). n < i.nlist) ns = subst (λ (w : IvfValue). All (λ (n : ℕ). n < w.nlist) ns)
    (sym c.self.view_is) c.requires.known in
    let p = prepared i.order i.lists c.reserve.new.self c.reserve_each.new.lists c.len.result c.self.invariant.order_one
    c.self.invariant.order_size c.in_ok-reserve.ensures.ok c.reserve_each.ensures.same in
    let a : IsAdded i.order i.lists c.put_all.new.order c.put_all.new.lists ns new = record {
      order_is = c.put_all.ensures.order ∙ ap (λ (os : List ℕ). os ++ ns) (p.order_is);
      order_one = c.put_all.ensures.order_one;
      order_size = c.put_all.ensures.order_size;
      rows_are = λ l. c.put_all.ensures.rows l
          ∙ ap (λ (rs : List Row). rs ++ put_on l ns new) (c.reserve_each.ensures.same.rows l);
      count = c.put_all.ensures.lists ∙ c.reserve_each.ensures.same.lists;
      size = c.put_all.ensures.size ∙ c.reserve_each.ensures.same.size;
    } in
    let m = c.put_all.ensures.direct in
    let es : has_map (entries_of c.put_all.new.direct) ≡ has_map (entries_of i.direct)
    = ap has_map (m.entries
    ∙ ap (λ (o : Option (List ℕ)). extended o m.places) c.in_ok-reserve_places.ensures.entries)
    ∙ has_map-extended (entries_of i.direct) m.places in
    ap (λ (on : Bool). record
    (value_in i.dim.bits i.nlist i.nprobe i.max_codes
    (entries_of i.direct) i.quantizer c.put_all.new.order c.put_all.new.lists) { direct = on }) es
    ∙ ap (λ (rows : List ListRow). record
    (value_in i.dim.bits i.nlist i.nprobe i.max_codes (entries_of i.direct) i.quantizer i.order i.lists)
    { rows = rows })
    (rows_added i.dim.bits i.nlist i.nprobe i.max_codes
    (entries_of i.direct) i.quantizer i.order i.lists c.put_all.new.order c.put_all.new.lists ns new c.self.invariant
    same known a)
    ∙ ap (λ (w : IvfValue). record w { rows = w.rows ++ put_rows ns new }) c.self.view_is
