use Rattle.std.proofs.Common.{rules, ◌≡◌, ℕ, List, [], length, refl, sym, ap, ◌∙◌, arith}
use Rattle.std.specs.List.{flat_map, range_with_len}
use Rattle.file_parts.specs.Storing.{behind, written}
use Rattle.file_parts.proofs.StoreLemmas.{behind_none}
use Rattle.std.proofs.lemmas.List.{length-map}
use Rattle.bcodes.specs.Value.{row_of}
use Rattle.index_files.specs.Canon.{number, size_bytes}
use Rattle.index_files.specs.Groups.{on_list}
use Rattle.index_files.proofs.IvfWriting.{one_more, table-is}
use Rattle.index_files.specs.Writing.{gathered}
use Rattle.index_files.proofs.writing.ivf.put_all_sizes.Goals as goal

pub loop-list-init : goal.loop-list-init
loop-list-init g c = record {
  same_shelf = refl;
  so_far = sym (behind_none (gathered g.H.Shelf.contents c.args.store.now c.args.held.now));
  files = refl;
  making = c.requires;
  count_stays = refl;
}

pub loop-list-preserved : goal.loop-list-preserved
loop-list-preserved g c =
    let v = c.args.ivf.now in
    let list : ℕ = c.loop-list.list in
    let len : c.list_len.result ≡ length (on_list v list) =
    c.list_len.ensures ∙ ap length (table-is v list) ∙ length-map (on_list v list) row_of in
    record {
      same_shelf = c.in_ok-put_u64.ensures.shelf.same_shelf ∙ c.loop-list.invariant.same_shelf;
      so_far =
          one_more (size_bytes v) list (number c.list_len.result) _ _ _ c.loop-list.invariant.so_far
          c.in_ok-put_u64.ensures.ok (ap number len);
      files = c.in_ok-put_u64.ensures.shelf.files ∙ c.loop-list.invariant.files;
      making = c.in_ok-put_u64.ensures.shelf.making;
      count_stays = search rules;
    }

pub returns-clause-ok : goal.returns-clause-ok
returns-clause-ok g c =
    let v = c.args.ivf.now in
    let f : ℕ → List ℕ = size_bytes v in
    let end : c.loop-list.list ≡ v.nlist = omega arith in
    c.loop-list.invariant.so_far
    ∙ ap (λ (bytes : List ℕ). behind bytes
    (gathered g.H.Shelf.contents c.args.store.now c.args.held.now))
    (ap (λ (n : ℕ). flat_map f (range_with_len 0 n)) end)
