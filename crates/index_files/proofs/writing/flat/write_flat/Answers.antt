use Rattle.std.proofs.Common.{◌≡◌, ℕ, ◌*◌, ◌/◌, List, ap, ◌∙◌}
use Rattle.file_parts.specs.Storing.{behind, written}
use Rattle.file_parts.proofs.StoreLemmas.{and_then}
use Rattle.index_files.proofs.WritingLemmas.{flat_parts}
use Rattle.index_files.proofs.writing.flat.write_flat.Goals as goal

pub returns-clause-ok : goal.returns-clause-ok
returns-clause-ok g c =
    let v = c.args.flat.now in
    let d : ℕ = c.dim-dim.result.bits in
    let n : ℕ = c.count-count.result in
    let size : n * c.bytes-2.result ≡ n * (d / 8) = ap (λ (k : ℕ). n * k) c.bytes-2.ensures.value in
    let headed = and_then _ _ _ _ _ c.in_ok-bytes.ensures.ok c.in_ok-write_head.ensures.ok in
    let counted = and_then _ _ _ _ _ headed c.in_ok-u64.ensures.ok in
    and_then _ _ _ _ _ counted c.in_ok-write_codes.ensures.ok
    ∙ ap (λ (b : List ℕ). behind b (written g.H.Shelf.contents c.args.store.now))
    (flat_parts v d n (n * c.bytes-2.result) c.dim-dim.ensures.value c.count-count.ensures size
    c.dim-dim.ensures.legal.codes)
