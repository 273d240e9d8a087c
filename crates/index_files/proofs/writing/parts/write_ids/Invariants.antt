use Rattle.std.proofs.Common.{◌≡◌, ◌-◌, ◌≤◌, drop, length, true}
use Rattle.file_parts.specs.Storing.{behind, files_in, maker_of, name_of, written}
use Rattle.index_files.specs.Canon.{ids_bytes}
use Rattle.index_files.proofs.writing.parts.write_ids.Given as goal

abbrev pub invariant-loop-from : goal.invariant-loop-from
invariant-loop-from g l = record {
  within : l.from ≤ length l.ids;
  same_shelf : name_of l.store ≡ name_of l.fn.store;
  rest : behind (ids_bytes (drop l.from l.ids)) (written g.H.Shelf.contents l.store)
      ≡ behind (ids_bytes l.ids) (written g.H.Shelf.contents l.fn.store);
  files : files_in (g.H.Shelf.contents (maker_of l.store)) ≡ files_in (g.H.Shelf.contents (maker_of l.fn.store));
  making : g.H.Shelf.is_making (maker_of l.store) ≡ true;
  count_stays : g.H.Shelf.faults (maker_of l.store) ≡ g.H.Shelf.faults (maker_of l.fn.store);
}

abbrev pub decreases-loop-from : goal.decreases-loop-from
decreases-loop-from g l = length l.ids - l.from
