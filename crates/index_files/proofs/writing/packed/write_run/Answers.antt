use Rattle.std.proofs.Common.{ℕ, List, ap, ◌∙◌}
use Rattle.file_parts.specs.Storing.{behind, written}
use Rattle.file_parts.proofs.StoreLemmas.{and_then}
use Rattle.index_files.specs.Canon.{vector}
use Rattle.index_files.proofs.writing.packed.write_run.Goals as goal

pub returns-clause-ok : goal.returns-clause-ok
returns-clause-ok g c =
    and_then _ _ _ _ _ c.in_ok-u64.ensures.ok c.in_ok-bytes.ensures.ok
    ∙ ap (λ (b : List ℕ). behind (vector b) (written g.H.Shelf.contents c.args.store.now)) c.as_slice-bytes.ensures
