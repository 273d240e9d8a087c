use Rattle.std.proofs.Common.{◌≡◌, ◌+◌, ◌*◌, ◌/◌, ◌<◌, ◌≤◌, ◌++◌, ℕ, Bool, false, List, length, map, replicate}
use Rattle.std.proofs.Common.{sym, ap, ◌∙◌, arith, subst}
use Rattle.std.specs.List.{All}
use Rattle.std.proofs.lemmas.Bool.{leb-true}
use Rattle.std.proofs.lemmas.List.{length-replicate}
use Rattle.std.proofs.lemmas.List.Elements.{All-replicate}
use Rattle.bcodes.specs.Ranges.{load_limit}
use Rattle.bcodes.specs.Value.{Row, ListRow, IvfValue, weight}
use Rattle.bcodes.specs.Answers.{paired}
use Rattle.bcodes.specs.Chunks.{chunks_of}
use Rattle.bcodes.proofs.ChunkLemmas.{length-chunks_of}
use Rattle.row_lists.specs.Put.{put_on}
use Rattle.row_lists.proofs.PutLemmas.{length-paired}
use Rattle.ivf_index.specs.Direct.{entries_of, has_map}
use Rattle.ivf_index.specs.Inside.{rows_in_order}
use Rattle.ivf_index.specs.Table.{put_row, put_rows}
use Rattle.ivf_index.proofs.VisitLemmas.{value_in}
use Rattle.ivf_index.proofs.AddLemmas.{IsAdded, inside_load, ivf_added_unmapped, prepared, put_in_room}
use Rattle.ivf_index.proofs.AddLemmas.{put_rows-replicate, rows_added, rows_few, same_rows}
use Rattle.ivf_index.proofs.ivf.Ivf.add_in.Goals as goal

pub reserve-requires-2-clause-few : goal.reserve-requires-2-clause-few
reserve-requires-2-clause-few g c =
    let i = c.self.inside in
    let v : IvfValue = value_in i.dim.bits i.nlist i.nprobe i.max_codes
    (entries_of i.direct) i.quantizer i.order i.lists in
    let load = inside_load v c.args.self.now (length c.args.labels.now) c.self.view_is c.requires.load in
    rows_few i.dim.bits i.nlist i.nprobe i.max_codes (length c.args.labels.now) (entries_of i.direct) i.quantizer
    i.order i.lists c.self.invariant load c.args.list

pub invariant_of-self-2 : goal.invariant_of-self-2
invariant_of-self-2 g c =
    let i = c.self.inside in
    let n : ℕ = length c.args.labels.now in
    let ns : List ℕ = replicate n c.args.list in
    let cs : List (List ℕ) = chunks_of c.bytes-size.result n c.args.codes.now in
    let new : List Row = paired c.args.labels.now cs in
    let v : IvfValue = value_in i.dim.bits i.nlist i.nprobe i.max_codes
    (entries_of i.direct) i.quantizer i.order i.lists in
    let many : length new ≡ n =
    length-paired c.args.labels.now cs (sym (length-chunks_of c.bytes-size.result n c.args.codes.now))
    ∙ length-chunks_of c.bytes-size.result n c.args.codes.now in
    let same : length ns ≡ length new = length-replicate n c.args.list ∙ sym many in
    let exists : c.args.list < i.nlist = subst (λ (w : IvfValue). c.args.list < w.nlist)
    (sym c.self.view_is) c.requires.exists in
    let known : All (λ (m : ℕ). m < i.nlist) ns = All-replicate (λ (m : ℕ). m < i.nlist) n c.args.list exists in
    let trained : i.nlist ≤ length i.quantizer.codes = subst (λ (w : IvfValue). w.nlist ≤ length w.centroids)
    (sym c.self.view_is) (leb-true _ _ c.requires.is_trained) in
    let off : has_map (entries_of i.direct) ≡ false = ap (λ (w : IvfValue). w.direct) c.self.view_is
    ∙ c.requires.direct in
    let p = prepared i.order i.lists c.reserve.new.self c.reserve-2.new.self n c.self.invariant.order_one
    c.self.invariant.order_size c.in_ok-reserve.ensures.ok
    (same_rows i.lists c.reserve-2.new.self c.args.list n c.in_ok-reserve-2.ensures.ok) in
    let a : IsAdded i.order i.lists c.put_on_one.new.order c.put_on_one.new.lists ns new =
    put_in_room i.order i.lists c.reserve.new.self c.reserve-2.new.self c.put_on_one.new.order c.put_on_one.new.lists ns
    new p c.put_on_one.ensures.order c.put_on_one.ensures.order_one c.put_on_one.ensures.order_size
    c.put_on_one.ensures.rows c.put_on_one.ensures.lists c.put_on_one.ensures.size in
    let load = inside_load v c.args.self.now n c.self.view_is c.requires.load in
    let load_new : weight i.dim.bits 0 (length (rows_in_order i.order i.lists) + length new)
    (length i.quantizer.codes) ≤ load_limit = rw many load in
    ivf_added_unmapped i.dim.bits i.nlist i.nprobe i.max_codes (entries_of i.direct) i.quantizer i.order i.lists
    c.put_on_one.new.order c.put_on_one.new.lists ns new c.self.invariant same known a off
    (omega (arith, trained, c.self.invariant.held)) load_new

pub returns-clause-ok : goal.returns-clause-ok
returns-clause-ok g c =
    let i = c.self.inside in
    let n : ℕ = length c.args.labels.now in
    let ns : List ℕ = replicate n c.args.list in
    let cs : List (List ℕ) = chunks_of c.bytes-size.result n c.args.codes.now in
    let new : List Row = paired c.args.labels.now cs in
    let v : IvfValue = value_in i.dim.bits i.nlist i.nprobe i.max_codes
    (entries_of i.direct) i.quantizer i.order i.lists in
    let many : length new ≡ n =
    length-paired c.args.labels.now cs (sym (length-chunks_of c.bytes-size.result n c.args.codes.now))
    ∙ length-chunks_of c.bytes-size.result n c.args.codes.now in
    let same : length ns ≡ length new = length-replicate n c.args.list ∙ sym many in
    let exists : c.args.list < i.nlist = subst (λ (w : IvfValue). c.args.list < w.nlist)
    (sym c.self.view_is) c.requires.exists in
    let known : All (λ (m : ℕ). m < i.nlist) ns = All-replicate (λ (m : ℕ). m < i.nlist) n c.args.list exists in
    let p = prepared i.order i.lists c.reserve.new.self c.reserve-2.new.self n c.self.invariant.order_one
    c.self.invariant.order_size c.in_ok-reserve.ensures.ok
    (same_rows i.lists c.reserve-2.new.self c.args.list n c.in_ok-reserve-2.ensures.ok) in
    let a : IsAdded i.order i.lists c.put_on_one.new.order c.put_on_one.new.lists ns new =
    put_in_room i.order i.lists c.reserve.new.self c.reserve-2.new.self c.put_on_one.new.order c.put_on_one.new.lists ns
    new p c.put_on_one.ensures.order c.put_on_one.ensures.order_one c.put_on_one.ensures.order_size
    c.put_on_one.ensures.rows c.put_on_one.ensures.lists c.put_on_one.ensures.size in
    let size : c.bytes-size.result ≡ c.args.self.now.dim / 8 =
    c.bytes-size.ensures.value ∙ ap (λ (w : IvfValue). w.dim / 8) c.self.view_is in
    ap (λ (rows : List ListRow). record v { rows = rows })
    (rows_added i.dim.bits i.nlist i.nprobe i.max_codes (entries_of i.direct) i.quantizer i.order i.lists
    c.put_on_one.new.order c.put_on_one.new.lists ns new c.self.invariant same known a)
    ∙ ap (λ (w : IvfValue). record w { rows = w.rows ++ put_rows ns new }) c.self.view_is
    ∙ ap (λ (rows : List ListRow). record c.args.self.now { rows = c.args.self.now.rows ++ rows })
    (put_rows-replicate c.args.list n new many
    ∙ ap (λ (k : ℕ). map (put_row c.args.list) (paired c.args.labels.now (chunks_of k n c.args.codes.now))) size)
