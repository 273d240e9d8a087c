use Rattle.std.proofs.Common.{rules, ◌≡◌, ℕ, ◌+◌, ◌<◌, ◌≤◌, List, [], length, drop, sym, ap, ◌∙◌, arith}
use Rattle.std.specs.List.{flat_map}
use Rattle.std.proofs.lemmas.List.{drop_all}
use Rattle.bcodes.specs.Value.{HashValue}
use Rattle.file_parts.specs.Storing.{behind}
use Rattle.file_parts.proofs.StoreLemmas.{behind_none}
use Rattle.hash_index.specs.Keys.{bucket, bucket_at, hash_keys}
use Rattle.index_files.specs.Canon.{bucket_bytes}
use Rattle.index_files.specs.Writing.{gathered}
use Rattle.index_files.proofs.HashWriting.{buckets_more}
use Rattle.index_files.proofs.WritingLemmas.{goes_on}
use Rattle.index_files.proofs.writing.hash.put_buckets.Goals as goal

pub loop-i-preserved : goal.loop-i-preserved
loop-i-preserved g c =
    let v : HashValue = c.args.hash.now in
    let i : ℕ = c.loop-i.i in
    let here : i < length (hash_keys v) = omega (arith, c.loop-i-test.true, c.buckets-i-end.ensures) in
    let bytes = λ (ks : List ℕ). flat_map (λ k. bucket_bytes (bucket v k)) ks in
    record {
      same_shelf = c.in_ok-put_bucket.ensures.shelf.same_shelf ∙ c.loop-i.invariant.same_shelf;
      rest =
          goes_on (bucket_bytes (bucket_at v i)) (bytes (drop (i + 1) (hash_keys v))) (bytes (drop i (hash_keys v)))
          _ _ _ c.in_ok-put_bucket.ensures.ok (buckets_more v i here) c.loop-i.invariant.rest;
      files = c.in_ok-put_bucket.ensures.shelf.files ∙ c.loop-i.invariant.files;
      making = c.in_ok-put_bucket.ensures.shelf.making;
      count_stays = search rules;
    }

pub returns-clause-ok : goal.returns-clause-ok
returns-clause-ok g c =
    let v : HashValue = c.args.hash.now in
    let now = gathered g.H.Shelf.contents c.loop-i.store c.loop-i.held in
    let past : length (hash_keys v) ≤ c.loop-i.i = omega (arith, c.loop-i-test.false, c.buckets-i-end.ensures) in
    let none : drop c.loop-i.i (hash_keys v) ≡ [] = drop_all c.loop-i.i (hash_keys v) past in
    sym (behind_none now)
    ∙ ap (λ (ks : List ℕ). behind (flat_map (λ k. bucket_bytes (bucket v k)) ks) now) (sym none)
    ∙ c.loop-i.invariant.rest
