use Rattle.std.proofs.Common.{◌≡◌, ◌/◌, ℕ, List, ap, ◌∙◌}
use Rattle.file_parts.specs.Storing.{behind, written}
use Rattle.file_parts.proofs.StoreLemmas.{and_then}
use Rattle.index_files.proofs.IvfWriting.{array_parts}
use Rattle.index_files.specs.Writing.{gathered}
use Rattle.index_files.proofs.writing.ivf.put_array.Goals as goal

pub returns-clause-ok : goal.returns-clause-ok
returns-clause-ok g c =
    let v = c.args.ivf.now in
    let listed = and_then _ _ _ _ _ c.in_ok-put.ensures.ok c.in_ok-put_u64.ensures.ok in
    let sized = and_then _ _ _ _ _ listed c.in_ok-put_u64-2.ensures.ok in
    and_then _ _ _ _ _ sized c.in_ok-put_sizes.ensures.ok
    ∙ ap (λ (b : List ℕ). behind b (gathered g.H.Shelf.contents c.args.store.now c.args.held.now))
    (array_parts v c.from.result c.bytes.result (c.from.ensures ∙ c.nlist.ensures)
    (c.bytes.ensures.value ∙ ap (λ (d : ℕ). d / 8) c.dim.ensures.value))
