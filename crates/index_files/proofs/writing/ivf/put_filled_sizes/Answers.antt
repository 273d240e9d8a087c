use Rattle.std.proofs.Common.{rules, ◌≡◌, ℕ, List, [], length, refl, sym, ap, ◌∙◌, arith}
use Rattle.std.specs.List.{flat_map, range_with_len}
use Rattle.file_parts.specs.Storing.{behind, written}
use Rattle.file_parts.proofs.StoreLemmas.{behind_none}
use Rattle.index_files.proofs.IvfWriting.{filled_size, one_more, sizes_filled}
use Rattle.index_files.specs.Writing.{gathered}
use Rattle.index_files.proofs.writing.ivf.put_filled_sizes.Goals as goal

pub loop-list-init : goal.loop-list-init
loop-list-init g c = record {
  same_shelf = refl;
  so_far = sym (behind_none (gathered g.H.Shelf.contents c.args.store.now c.args.held.now));
  files = refl;
  making = c.requires;
  count_stays = refl;
}

pub loop-list-preserved : goal.loop-list-preserved
loop-list-preserved g c =
    let v = c.args.ivf.now in
    let list : ℕ = c.loop-list.list in
    record {
      same_shelf = c.in_ok-put_filled_size.ensures.shelf.same_shelf ∙ c.loop-list.invariant.same_shelf;
      so_far =
          one_more (filled_size v) list (filled_size v list) _ _ _ c.loop-list.invariant.so_far
          c.in_ok-put_filled_size.ensures.ok refl;
      files = c.in_ok-put_filled_size.ensures.shelf.files ∙ c.loop-list.invariant.files;
      making = c.in_ok-put_filled_size.ensures.shelf.making;
      count_stays = search rules;
    }

pub returns-clause-ok : goal.returns-clause-ok
returns-clause-ok g c =
    let v = c.args.ivf.now in
    let f : ℕ → List ℕ = filled_size v in
    let end : c.loop-list.list ≡ v.nlist = omega arith in
    c.loop-list.invariant.so_far
    ∙ ap (λ (bytes : List ℕ). behind bytes
    (gathered g.H.Shelf.contents c.args.store.now c.args.held.now))
    (ap (λ (n : ℕ). flat_map f (range_with_len 0 n)) end ∙ sizes_filled v)
