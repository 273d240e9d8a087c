use Rattle.std.proofs.Common.{ℕ, List, ap, ◌∙◌}
use Rattle.bcodes.specs.Value.{MultiValue, CodeList}
use Rattle.file_parts.specs.Storing.{behind, written}
use Rattle.file_parts.proofs.StoreLemmas.{and_then}
use Rattle.index_files.specs.Canon.{flat_bytes}
use Rattle.index_files.proofs.MultiWriting.{multi_parts}
use Rattle.index_files.proofs.writing.multi.write_multi.Goals as goal

pub returns-clause-ok : goal.returns-clause-ok
returns-clause-ok g c =
    let v : MultiValue = c.args.multi.now in
    let headed = and_then _ _ _ _ _ c.in_ok-bytes.ensures.ok c.in_ok-write_head.ensures.ok in
    let now = written g.H.Shelf.contents c.write_head.new.store in
    let flat = c.in_ok-write_flat.ensures.ok
    ∙ ap (λ (codes : CodeList). behind (flat_bytes codes.dim codes.codes) now) c.storage.ensures in
    let stored = and_then _ _ _ _ _ headed flat in
    let keyed = and_then _ _ _ _ _ stored c.in_ok-u32.ensures.ok in
    let mapped = and_then _ _ _ _ _ keyed c.in_ok-u32-2.ensures.ok in
    let flipped = and_then _ _ _ _ _ mapped c.in_ok-u32-3.ensures.ok in
    and_then _ _ _ _ _ flipped c.in_ok-write_maps.ensures.ok
    ∙ ap (λ (b : List ℕ). behind b (written g.H.Shelf.contents c.args.store.now))
    (multi_parts v _ _ _ _ _ c.dim.ensures.value c.count.ensures c.b.ensures c.nhash.ensures c.nflip.ensures)
