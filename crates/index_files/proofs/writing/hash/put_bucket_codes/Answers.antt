use Rattle.std.proofs.Common.{rules, ◌≡◌, ℕ, ◌+◌, ◌≤◌, List, [], length, drop, sym, ap, ◌∙◌, arith}
use Rattle.std.proofs.lemmas.List.{drop_all}
use Rattle.bcodes.specs.Value.{Row}
use Rattle.file_parts.specs.Storing.{behind}
use Rattle.file_parts.proofs.StoreLemmas.{behind_none}
use Rattle.hash_index.specs.Keys.{bucket_at}
use Rattle.index_files.specs.Writing.{gathered}
use Rattle.index_files.proofs.WritingLemmas.{code_bytes, run_bytes, goes_on}
use Rattle.index_files.proofs.writing.hash.put_bucket_codes.Goals as goal

pub loop-from-preserved : goal.loop-from-preserved
loop-from-preserved g c =
    let rows : List Row = bucket_at c.args.hash.now c.args.i in
    let from : ℕ = c.loop-from.from in
    let n = length c.bucket_lend-run.result.labels.now in
    record {
      within = omega (arith, c.bucket_lend-run.ensures.run.within, c.bucket_len-count.ensures);
      same_shelf = c.in_ok-put.ensures.shelf.same_shelf ∙ c.loop-from.invariant.same_shelf;
      rest =
          goes_on c.bucket_lend-run.result.codes.now (code_bytes (drop (from + n) rows)) (code_bytes (drop from rows))
          _ _ _ c.in_ok-put.ensures.ok
          (run_bytes rows from _ c.bucket_lend-run.result.labels.now c.bucket_lend-run.result.codes.now
          c.bucket_lend-run.ensures.run) c.loop-from.invariant.rest;
      files = c.in_ok-put.ensures.shelf.files ∙ c.loop-from.invariant.files;
      making = c.in_ok-put.ensures.shelf.making;
      count_stays = search rules;
    }

pub returns-clause-ok : goal.returns-clause-ok
returns-clause-ok g c =
    let rows : List Row = bucket_at c.args.hash.now c.args.i in
    let now = gathered g.H.Shelf.contents c.loop-from.store c.loop-from.held in
    let past : length rows ≤ c.loop-from.from = omega (arith, c.bucket_len-count.ensures, c.loop-from-test.false) in
    let none : drop c.loop-from.from rows ≡ [] = drop_all c.loop-from.from rows past in
    sym (behind_none now) ∙ ap (λ (rs : List Row). behind (code_bytes rs) now) (sym none) ∙ c.loop-from.invariant.rest
