use Rattle.std.proofs.Common.{ℕ, List, sym, ap, ◌∙◌}
use Rattle.bcodes.specs.Value.{HashValue}
use Rattle.file_parts.specs.Storing.{behind, written}
use Rattle.file_parts.proofs.StoreLemmas.{and_then}
use Rattle.index_files.proofs.HashWriting.{hash_parts, settled_bytes}
use Rattle.index_files.proofs.writing.hash.write_hash.Goals as goal

pub returns-clause-ok : goal.returns-clause-ok
returns-clause-ok g c =
    let v : HashValue = c.args.hash.now in
    let headed = and_then _ _ _ _ _ c.in_ok-bytes.ensures.ok c.in_ok-write_head.ensures.ok in
    let keyed = and_then _ _ _ _ _ headed c.in_ok-u32.ensures.ok in
    let flipped = and_then _ _ _ _ _ keyed c.in_ok-u32-2.ensures.ok in
    let counted = and_then _ _ _ _ _ flipped c.in_ok-u64.ensures.ok in
    let sized = and_then _ _ _ _ _ counted c.in_ok-u32-3.ensures.ok in
    let packed = and_then _ _ _ _ _ sized c.in_ok-write_run.ensures.ok in
    and_then _ _ _ _ _ packed c.in_ok-write_buckets.ensures.ok
    ∙ ap (λ (b : List ℕ). behind b (written g.H.Shelf.contents c.args.store.now))
    (hash_parts v _ _ _ _ _ _ _ c.dim.ensures.value c.count.ensures c.b.ensures c.nflip.ensures c.buckets.ensures
    c.width_of_sizes-width.ensures.value c.in_ok-run.ensures ∙ sym (settled_bytes v c.dim.ensures.legal))
