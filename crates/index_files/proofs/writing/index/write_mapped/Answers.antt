use Rattle.std.proofs.Common.{◌≡◌, ℕ, List, refl, ap, ◌∙◌}
use Rattle.bcodes.specs.Value.{inner_of}
use Rattle.any_index.specs.Kinds.{inner_value}
use Rattle.file_parts.specs.Storing.{behind, written}
use Rattle.file_parts.proofs.StoreLemmas.{and_then}
use Rattle.index_files.proofs.WritingLemmas.{mapped_parts}
use Rattle.index_files.proofs.writing.index.write_mapped.Goals as goal

pub returns-clause-ok : goal.returns-clause-ok
returns-clause-ok g c =
    let v = c.args.index.now in
    let headed = and_then _ _ _ _ _ c.in_ok-bytes.ensures.ok c.in_ok-write_head.ensures.ok in
    let inside = and_then _ _ _ _ _ headed c.in_ok-write_inner.ensures.ok in
    let counted = and_then _ _ _ _ _ inside c.in_ok-u64.ensures.ok in
    and_then _ _ _ _ _ counted c.in_ok-write_ids.ensures.ok
    ∙ ap (λ (b : List ℕ). behind b (written g.H.Shelf.contents c.args.store.now))
    (mapped_parts c.args.letters.now v _ _ _ _ _ _ c.dim.ensures.value c.count.ensures c.trained.ensures
    c.inner.ensures c.ids-ids.ensures refl)
