use Rattle.std.proofs.Common.{◌≡◌, ℕ, List, ◌++◌, refl, ap, ◌∙◌, arith}
use Rattle.file_parts.specs.Storing.{behind, written}
use Rattle.file_parts.proofs.StoreLemmas.{and_then}
use Rattle.index_files.proofs.IvfWriting.{bytes-kept, ivf_parts}
use Rattle.index_files.proofs.writing.ivf.write_ivf.Goals as goal

pub returns-clause-ok : goal.returns-clause-ok
returns-clause-ok g c =
    let v = c.args.ivf.now in
    let headed = and_then _ _ _ _ _ c.in_ok-bytes.ensures.ok c.in_ok-write_head.ensures.ok in
    let listed = and_then _ _ _ _ _ headed c.in_ok-u64.ensures.ok in
    let probed = and_then _ _ _ _ _ listed c.in_ok-u64-2.ensures.ok in
    let centred = and_then _ _ _ _ _ probed c.in_ok-write_flat.ensures.ok in
    and_then _ _ _ _ _ centred c.in_ok-write_rest.ensures.ok
    ∙ ap (λ (b : List ℕ). behind b (written g.H.Shelf.contents c.args.store.now))
    (ivf_parts v c.quantizer.result.now c.dim.result.bits c.count.result c.from.result c.nprobe.result c.trained.result
    c.dim.ensures.value c.count.ensures c.trained.ensures (c.from.ensures ∙ c.nlist.ensures) c.nprobe.ensures
    c.quantizer.ensures ∙ bytes-kept v c.dim.ensures.legal)
