use Rattle.std.proofs.Common.{◌≡◌, ◌-◌, ◌≤◌, true}
use Rattle.std.specs.List.{flat_map, range_with_len}
use Rattle.file_parts.specs.Storing.{behind, files_in, maker_of, name_of, written}
use Rattle.index_files.specs.Canon.{map_bytes}
use Rattle.index_files.proofs.writing.multi.write_maps.Given as goal

abbrev pub invariant-loop-i : goal.invariant-loop-i
invariant-loop-i g l = record {
  same_shelf : name_of l.store ≡ name_of l.fn.store;
  rest : behind (flat_map (map_bytes l.multi) (range_with_len l.i (l.multi.nhash - l.i)))
      (written g.H.Shelf.contents l.store)
      ≡ behind (flat_map (map_bytes l.multi) (range_with_len 0 l.multi.nhash))
      (written g.H.Shelf.contents l.fn.store);
  files : files_in (g.H.Shelf.contents (maker_of l.store)) ≡ files_in (g.H.Shelf.contents (maker_of l.fn.store));
  making : g.H.Shelf.is_making (maker_of l.store) ≡ true;
  count_stays : g.H.Shelf.faults (maker_of l.store) ≡ g.H.Shelf.faults (maker_of l.fn.store);
}
