use Rattle.std.proofs.Common.{◌≡◌, ◌-◌, drop, true}
use Rattle.file_parts.specs.Storing.{behind, files_in, maker_of, name_of, written}
use Rattle.ivf_index.specs.Table.{on_list as table_list}
use Rattle.index_files.proofs.WritingLemmas.{code_bytes}
use Rattle.index_files.specs.Writing.{gathered}
use Rattle.index_files.proofs.writing.ivf.put_codes.Given as goal

abbrev pub invariant-loop-from : goal.invariant-loop-from
invariant-loop-from g l = record {
  same_shelf : name_of l.store ≡ name_of l.fn.store;
  rest : behind (code_bytes (drop l.from (table_list l.ivf.rows l.list)))
      (gathered g.H.Shelf.contents l.store l.held)
      ≡ behind (code_bytes (table_list l.ivf.rows l.list))
      (gathered g.H.Shelf.contents l.fn.store l.fn.held);
  files : files_in (g.H.Shelf.contents (maker_of l.store)) ≡ files_in (g.H.Shelf.contents (maker_of l.fn.store));
  making : g.H.Shelf.is_making (maker_of l.store) ≡ true;
  count_stays : g.H.Shelf.faults (maker_of l.store) ≡ g.H.Shelf.faults (maker_of l.fn.store);
}

abbrev pub decreases-loop-from : goal.decreases-loop-from
decreases-loop-from g l = l.count - l.from
