use Rattle.std.proofs.Common.{ℕ, List, ap, ◌∙◌}
use Rattle.std.specs.List.{flat_map}
use Rattle.bcodes.specs.Value.{HashValue}
use Rattle.file_parts.specs.Storing.{behind, written}
use Rattle.file_parts.proofs.StoreLemmas.{behind_none}
use Rattle.hash_index.specs.Keys.{bucket, hash_keys}
use Rattle.index_files.specs.Canon.{bucket_bytes}
use Rattle.index_files.proofs.writing.hash.write_buckets.Goals as goal

pub returns-clause-ok : goal.returns-clause-ok
returns-clause-ok g c =
    let v : HashValue = c.args.hash.now in
    let bytes : List ℕ = flat_map (λ k. bucket_bytes (bucket v k)) (hash_keys v) in
    let now = written g.H.Shelf.contents c.args.store.now in
    c.in_ok-write_held.ensures.ok ∙ c.in_ok-put_buckets.ensures.ok
    ∙ ap (λ (held : List ℕ). behind bytes (behind held now)) c.new-held.ensures
    ∙ ap (behind bytes) (behind_none now)
