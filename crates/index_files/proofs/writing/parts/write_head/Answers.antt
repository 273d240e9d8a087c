use Rattle.std.proofs.Common.{◌≡◌, ℕ, List, ap, ◌∙◌}
use Rattle.file_parts.specs.Storing.{behind, written}
use Rattle.file_parts.proofs.StoreLemmas.{and_then}
use Rattle.index_files.proofs.WritingLemmas.{head_bytes}
use Rattle.index_files.proofs.writing.parts.write_head.Goals as goal

pub returns-clause-ok : goal.returns-clause-ok
returns-clause-ok g c =
    let sizes = and_then _ _ _ _ _ c.in_ok-u32.ensures.ok c.in_ok-u32-2.ensures.ok in
    let count = and_then _ _ _ _ _ sizes c.in_ok-u64.ensures.ok in
    let flag = and_then _ _ _ _ _ count c.in_ok-byte.ensures.ok in
    and_then _ _ _ _ _ flag c.in_ok-u32-3.ensures.ok
    ∙ ap (λ (b : List ℕ). behind b (written g.H.Shelf.contents c.args.store.now))
    (head_bytes c.args.dim.bits c.args.count c.bits-bits.result c.flag_byte.result c.args.trained c.bits-bits.ensures
    c.flag_byte.ensures)
