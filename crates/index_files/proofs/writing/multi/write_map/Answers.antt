use Rattle.std.proofs.Common.{◌≡◌, ℕ, List, length, ap, ◌∙◌}
use Rattle.bcodes.specs.Value.{MultiValue}
use Rattle.file_parts.specs.Storing.{behind, written}
use Rattle.file_parts.proofs.StoreLemmas.{and_then}
use Rattle.index_files.specs.Canon.{position_width}
use Rattle.index_files.proofs.MultiWriting.{map_parts}
use Rattle.index_files.proofs.writing.multi.write_map.Goals as goal

pub returns-clause-ok : goal.returns-clause-ok
returns-clause-ok g c =
    let v : MultiValue = c.args.multi.now in
    let width : c.position_width-width.result ≡ position_width (length v.codes) =
    c.position_width-width.ensures.value ∙ ap position_width c.count.ensures in
    let headed = and_then _ _ _ _ _ c.in_ok-u32.ensures.ok c.in_ok-u64.ensures.ok in
    and_then _ _ _ _ _ headed c.in_ok-write_run.ensures.ok
    ∙ ap (λ (b : List ℕ). behind b (written g.H.Shelf.contents c.args.store.now))
    (map_parts v c.args.i _ _ _ width c.buckets.ensures c.in_ok-run.ensures)
