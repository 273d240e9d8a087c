use Rattle.std.proofs.Common.{◌≡◌, ℕ, List, [], ap, ◌∙◌}
use Rattle.file_parts.specs.Storing.{behind, written}
use Rattle.file_parts.proofs.StoreLemmas.{and_then, behind_none}
use Rattle.index_files.specs.Canon.{direct_bytes, list_bytes, number, sizes_bytes}
use Rattle.index_files.proofs.IvfWriting.{rest_bytes, rest_parts}
use Rattle.index_files.proofs.writing.ivf.write_rest.Goals as goal

pub returns-clause-ok : goal.returns-clause-ok
returns-clause-ok g c =
    let v = c.args.ivf.now in
    let start = written g.H.Shelf.contents c.args.store.now in
    let sized = and_then _ _ _ _ _ c.in_ok-put_direct.ensures.ok c.in_ok-put_array.ensures.ok in
    let listed = and_then _ _ _ _ _ sized c.in_ok-put_lists.ensures.ok in
    c.in_ok-write_held.ensures.ok ∙ listed
    ∙ ap (λ (b : List ℕ). behind b (behind c.new-held.result start)) (rest_parts v)
    ∙ ap (λ (b : List ℕ). behind (rest_bytes v) (behind b start)) c.new-held.ensures
    ∙ ap (behind (rest_bytes v)) (behind_none start)
