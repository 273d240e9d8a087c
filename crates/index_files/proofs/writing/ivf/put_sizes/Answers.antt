use Rattle.std.proofs.Common.{◌≡◌, ◌*◌, ◌/◌, ◌<◌, ◌≤◌, ℕ, List, length, ap, ◌∙◌, arith}
use Rattle.file_parts.specs.Storing.{behind}
use Rattle.file_parts.proofs.StoreLemmas.{and_then}
use Rattle.index_files.specs.Groups.{filled}
use Rattle.index_files.specs.Writing.{gathered}
use Rattle.index_files.proofs.IvfWriting.{full_parts, sparse_parts}
use Rattle.index_files.proofs.writing.ivf.put_sizes.Goals as goal

pub returns-then-count-nlist-clause-ok : goal.returns-then-count-nlist-clause-ok
returns-then-count-nlist-clause-ok g c =
    let v = c.args.ivf.now in
    let start = gathered g.H.Shelf.contents c.args.store.now c.args.held.now in
    let many : v.nlist / 2 < length (filled v) =
    omega (arith, c.if-count-nlist.true, c.nlist-nlist.ensures, c.count_filled-count.ensures.value) in
    let counted = and_then _ _ _ _ _ c.in_ok-put.ensures.ok c.in_ok-put_u64.ensures.ok in
    and_then _ _ _ _ _ counted c.in_ok-put_all_sizes.ensures.ok
    ∙ ap (λ (b : List ℕ). behind b start)
    (full_parts v c.from.result (c.from.ensures ∙ c.nlist-nlist.ensures) many)

pub returns-clause-ok : goal.returns-clause-ok
returns-clause-ok g c =
    let v = c.args.ivf.now in
    let start = gathered g.H.Shelf.contents c.args.store.now c.args.held.now in
    let few : length (filled v) ≤ v.nlist / 2 =
    omega (arith, c.if-count-nlist.false, c.nlist-nlist.ensures, c.count_filled-count.ensures.value) in
    let counted = and_then _ _ _ _ _ c.in_ok-put-2.ensures.ok c.in_ok-put_u64-2.ensures.ok in
    and_then _ _ _ _ _ counted c.in_ok-put_filled_sizes.ensures.ok
    ∙ ap (λ (b : List ℕ). behind b start)
    (sparse_parts v (2 * c.from-2.result)
    (ap (λ (n : ℕ). 2 * n) (c.from-2.ensures ∙ c.count_filled-count.ensures.value)) few)
