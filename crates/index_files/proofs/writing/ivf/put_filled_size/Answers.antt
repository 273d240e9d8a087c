use Rattle.std.proofs.Common.{◌≡◌, ◌<◌, ℕ, List, length, sym, ap, ◌∙◌, arith}
use Rattle.std.proofs.lemmas.List.{length-map}
use Rattle.bcodes.specs.Value.{row_of}
use Rattle.file_parts.specs.Storing.{behind}
use Rattle.file_parts.proofs.StoreLemmas.{and_then, behind_none}
use Rattle.index_files.specs.Groups.{on_list}
use Rattle.index_files.specs.Writing.{gathered}
use Rattle.index_files.proofs.IvfWriting.{size_none, size_some, table-is}
use Rattle.index_files.proofs.writing.ivf.put_filled_size.Goals as goal

pub returns-then-len-eq0-clause-ok : goal.returns-then-len-eq0-clause-ok
returns-then-len-eq0-clause-ok g c =
    let v = c.args.ivf.now in
    let list : ℕ = c.args.list in
    let start = gathered g.H.Shelf.contents c.args.store.now c.args.held.now in
    let len : c.list_len-len.result ≡ length (on_list v list) =
    c.list_len-len.ensures ∙ ap length (table-is v list) ∙ length-map (on_list v list) row_of in
    sym (behind_none start)
    ∙ ap (λ (b : List ℕ). behind b start) (size_none v list c.list_len-len.result len (omega arith))

pub returns-clause-ok : goal.returns-clause-ok
returns-clause-ok g c =
    let v = c.args.ivf.now in
    let list : ℕ = c.args.list in
    let start = gathered g.H.Shelf.contents c.args.store.now c.args.held.now in
    let len : c.list_len-len.result ≡ length (on_list v list) =
    c.list_len-len.ensures ∙ ap length (table-is v list) ∙ length-map (on_list v list) row_of in
    let some : 0 < c.list_len-len.result = omega arith in
    and_then _ _ _ _ _ c.in_ok-put_u64.ensures.ok c.in_ok-put_u64-2.ensures.ok
    ∙ ap (λ (b : List ℕ). behind b start)
    (size_some v list c.from.result c.list_len-len.result c.from.ensures len some)
