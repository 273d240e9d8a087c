use Rattle.std.proofs.Common.{◌≡◌, ℕ, List, ap, ◌∙◌}
use Rattle.file_parts.specs.Storing.{behind, written}
use Rattle.file_parts.proofs.StoreLemmas.{and_then}
use Rattle.index_files.specs.Canon.{bit_of}
use Rattle.index_files.proofs.IvfWriting.{direct_parts}
use Rattle.index_files.specs.Writing.{gathered}
use Rattle.index_files.proofs.writing.ivf.put_direct.Goals as goal

pub returns-clause-ok : goal.returns-clause-ok
returns-clause-ok g c =
    let v = c.args.ivf.now in
    let counted = and_then _ _ _ _ _ c.in_ok-put.ensures.ok c.in_ok-put_u64.ensures.ok in
    and_then _ _ _ _ _ counted c.in_ok-put_entries.ensures.ok
    ∙ ap (λ (b : List ℕ). behind b (gathered g.H.Shelf.contents c.args.store.now c.args.held.now))
    (direct_parts v c.flag_byte.result c.mapped_count-count.result (c.flag_byte.ensures ∙ ap bit_of c.direct.ensures)
    c.mapped_count-count.ensures)
