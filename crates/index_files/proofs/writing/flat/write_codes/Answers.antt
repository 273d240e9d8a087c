use Rattle.std.proofs.Common.{rules, ◌≡◌, ℕ, ◌+◌, ◌<◌, ◌≤◌, List, [], ◌++◌, length, drop, refl, sym}
use Rattle.std.proofs.Common.{ap, ◌∙◌, arith}
use Rattle.std.proofs.lemmas.List.{drop_all}
use Rattle.bcodes.specs.Value.{Row, numbered}
use Rattle.bcodes.proofs.NumberedLemmas.{length-numbered}
use Rattle.file_parts.specs.Storing.{behind, written}
use Rattle.file_parts.proofs.StoreLemmas.{behind_none}
use Rattle.index_files.specs.Groups.{concat}
use Rattle.index_files.proofs.WritingLemmas.{code_bytes, numbered_bytes, run_bytes, goes_on}
use Rattle.index_files.proofs.writing.flat.write_codes.Goals as goal

pub loop-from-init : goal.loop-from-init
loop-from-init g c =
    record {
      same_shelf = refl;
      rest =
          ap (λ (b : List ℕ). behind b (written g.H.Shelf.contents c.args.store.now))
          (numbered_bytes 0 c.args.flat.now.codes);
      files = refl;
      making = c.requires;
      count_stays = refl;
    }

pub overflow_add-from : goal.overflow_add-from
overflow_add-from g c =
    let all = length-numbered 0 c.args.flat.now.codes in
    omega (arith, c.lend-run.ensures.run.within, all, c.count-count.ensures, c.count-count.type_inv)

pub loop-from-preserved : goal.loop-from-preserved
loop-from-preserved g c =
    let rows : List Row = numbered 0 c.args.flat.now.codes in
    let n = length c.lend-run.result.labels.now in
    record {
      same_shelf = c.in_ok-bytes.ensures.shelf.same_shelf ∙ c.loop-from.invariant.same_shelf;
      rest =
          goes_on c.lend-run.result.codes.now (code_bytes (drop (c.loop-from.from + n) rows))
          (code_bytes (drop c.loop-from.from rows)) _ _ _ c.in_ok-bytes.ensures.ok
          (run_bytes rows c.loop-from.from _ c.lend-run.result.labels.now c.lend-run.result.codes.now
          c.lend-run.ensures.run) c.loop-from.invariant.rest;
      files = c.in_ok-bytes.ensures.shelf.files ∙ c.loop-from.invariant.files;
      making = c.in_ok-bytes.ensures.shelf.making;
      count_stays = search rules;
    }

pub returns-clause-ok : goal.returns-clause-ok
returns-clause-ok g c =
    let rows : List Row = numbered 0 c.args.flat.now.codes in
    let now = written g.H.Shelf.contents c.loop-from.store in
    let past : length rows ≤ c.loop-from.from =
    omega (arith, length-numbered 0 c.args.flat.now.codes, c.count-count.ensures, c.loop-from-test.false) in
    let none : drop c.loop-from.from rows ≡ [] = drop_all c.loop-from.from rows past in
    sym (behind_none now) ∙ ap (λ (rs : List Row). behind (code_bytes rs) now) (sym none)
    ∙ c.loop-from.invariant.rest
