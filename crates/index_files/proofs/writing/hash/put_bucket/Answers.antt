use Rattle.std.proofs.Common.{◌≡◌, ℕ, ◌*◌, ◌/◌, ◌≤◌, List, length, sym, ap, ◌∙◌, arith, get_or}
use Rattle.std.specs.List.{flat_map}
use Rattle.bcodes.specs.Value.{HashValue, Row}
use Rattle.file_parts.specs.Storing.{behind}
use Rattle.file_parts.proofs.StoreLemmas.{and_then}
use Rattle.hash_index.specs.Keys.{bucket_at, hash_keys}
use Rattle.index_files.specs.Writing.{gathered}
use Rattle.index_files.proofs.HashWriting.{bucket_few, bucket_parts, code_bytes_of}
use Rattle.index_files.proofs.PackingLemmas.{product_most}
use Rattle.index_files.proofs.writing.hash.put_bucket.Goals as goal

pub overflow_mul-count : goal.overflow_mul-count
overflow_mul-count g c =
    let v : HashValue = c.args.hash.now in
    let size : c.bytes-size.result ≤ 8192 =
    omega (arith, c.bytes-size.ensures.value, c.dim.ensures.value, c.dim.ensures.legal.dim.at_most) in
    let most = product_most c.bucket_len-count.result c.bytes-size.result 8192 size in
    let few = bucket_few v (get_or (hash_keys v) c.args.i 0) c.dim.ensures.legal in
    omega (arith, most, few, c.bucket_len-count.ensures)

pub returns-clause-ok : goal.returns-clause-ok
returns-clause-ok g c =
    let v : HashValue = c.args.hash.now in
    let rows : List Row = bucket_at v c.args.i in
    let n : ℕ = c.bucket_len-count.result in
    let count : n ≡ length rows = c.bucket_len-count.ensures in
    let bytes : c.bytes-size.result ≡ v.dim / 8 =
    c.bytes-size.ensures.value ∙ ap (λ (d : ℕ). d / 8) c.dim.ensures.value in
    let size : n * c.bytes-size.result ≡ length (flat_map (λ (row : Row). row.code) rows) =
    ap (λ (k : ℕ). n * k) bytes ∙ ap (λ (k : ℕ). k * (v.dim / 8)) count
    ∙ sym (code_bytes_of v (get_or (hash_keys v) c.args.i 0) c.dim.ensures.legal) in
    let labelled = and_then _ _ _ _ _ c.in_ok-put_u64.ensures.ok c.in_ok-put_bucket_ids.ensures.ok in
    let sized = and_then _ _ _ _ _ labelled c.in_ok-put_u64-2.ensures.ok in
    and_then _ _ _ _ _ sized c.in_ok-put_bucket_codes.ensures.ok
    ∙ ap (λ (b : List ℕ). behind b (gathered g.H.Shelf.contents c.args.store.now c.args.held.now))
    (bucket_parts rows n (n * c.bytes-size.result) count size)
