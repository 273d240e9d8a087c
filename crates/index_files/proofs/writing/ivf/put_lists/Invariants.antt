use Rattle.std.proofs.Common.{◌≡◌, true}
use Rattle.std.specs.List.{flat_map, range_with_len}
use Rattle.file_parts.specs.Storing.{behind, files_in, maker_of, name_of, written}
use Rattle.index_files.specs.Canon.{list_bytes}
use Rattle.index_files.specs.Groups.{on_list}
use Rattle.index_files.specs.Writing.{gathered}
use Rattle.index_files.proofs.writing.ivf.put_lists.Given as goal

abbrev pub invariant-loop-list : goal.invariant-loop-list
invariant-loop-list g l = record {
  same_shelf : name_of l.store ≡ name_of l.fn.store;
  so_far : gathered g.H.Shelf.contents l.store l.held
      ≡ behind (flat_map (λ list. list_bytes (on_list l.ivf list)) (range_with_len 0 l.list))
      (gathered g.H.Shelf.contents l.fn.store l.fn.held);
  files : files_in (g.H.Shelf.contents (maker_of l.store)) ≡ files_in (g.H.Shelf.contents (maker_of l.fn.store));
  making : g.H.Shelf.is_making (maker_of l.store) ≡ true;
  count_stays : g.H.Shelf.faults (maker_of l.store) ≡ g.H.Shelf.faults (maker_of l.fn.store);
}
