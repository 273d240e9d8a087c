use Rattle.std.proofs.Common.{rules, ◌≡◌, ℕ, ◌+◌, ◌≤◌, List, [], length, drop, refl, sym, ap, ◌∙◌, arith}
use Rattle.std.proofs.lemmas.List.{drop_all}
use Rattle.bcodes.specs.Value.{Row}
use Rattle.file_parts.specs.Storing.{behind, written}
use Rattle.file_parts.proofs.StoreLemmas.{behind_none}
use Rattle.ivf_index.specs.Table.{on_list as table_list}
use Rattle.index_files.specs.Groups.{on_list}
use Rattle.index_files.specs.Canon.{ids_bytes}
use Rattle.index_files.proofs.IvfWriting.{label_bytes, list_labels, run_labels, table-is}
use Rattle.index_files.proofs.WritingLemmas.{goes_on}
use Rattle.index_files.specs.Writing.{gathered}
use Rattle.index_files.proofs.writing.ivf.put_labels.Goals as goal

pub loop-from-init : goal.loop-from-init
loop-from-init g c = record {
  same_shelf = refl;
  rest = refl;
  files = refl;
  making = c.requires.making;
  count_stays = refl;
}

pub loop-from-preserved : goal.loop-from-preserved
loop-from-preserved g c =
    let rows : List Row = table_list c.args.ivf.now.rows c.args.list in
    let n = length c.list_lend-run.result.labels.now in
    record {
      same_shelf = c.in_ok-put_ids.ensures.shelf.same_shelf ∙ c.loop-from.invariant.same_shelf;
      rest =
          goes_on (ids_bytes c.list_lend-run.result.labels.now) (label_bytes (drop (c.loop-from.from + n) rows))
          (label_bytes (drop c.loop-from.from rows)) _ _ _ c.in_ok-put_ids.ensures.ok
          (run_labels rows c.loop-from.from _ c.list_lend-run.result.labels.now c.list_lend-run.result.codes.now
          c.list_lend-run.ensures.run) c.loop-from.invariant.rest;
      files = c.in_ok-put_ids.ensures.shelf.files ∙ c.loop-from.invariant.files;
      making = c.in_ok-put_ids.ensures.shelf.making;
      count_stays = search rules;
    }

pub returns-clause-ok : goal.returns-clause-ok
returns-clause-ok g c =
    let v = c.args.ivf.now in
    let rows : List Row = table_list v.rows c.args.list in
    let now = gathered g.H.Shelf.contents c.loop-from.store c.loop-from.held in
    let past : length rows ≤ c.loop-from.from = omega (arith, c.list_len-count.ensures, c.loop-from-test.false) in
    let none : drop c.loop-from.from rows ≡ [] = drop_all c.loop-from.from rows past in
    sym (behind_none now) ∙ ap (λ (rs : List Row). behind (label_bytes rs) now) (sym none)
    ∙ c.loop-from.invariant.rest
    ∙ ap (λ (bytes : List ℕ). behind bytes
    (gathered g.H.Shelf.contents c.args.store.now c.args.held.now))
    (ap label_bytes (table-is v c.args.list) ∙ list_labels (on_list v c.args.list))
