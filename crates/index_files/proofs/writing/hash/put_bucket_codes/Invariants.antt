use Rattle.std.proofs.Common.{◌≡◌, ◌-◌, ◌≤◌, drop, true}
use Rattle.file_parts.specs.Storing.{behind, files_in, maker_of, name_of}
use Rattle.hash_index.specs.Keys.{bucket_at}
use Rattle.index_files.specs.Writing.{gathered}
use Rattle.index_files.proofs.WritingLemmas.{code_bytes}
use Rattle.index_files.proofs.writing.hash.put_bucket_codes.Given as goal

abbrev pub invariant-loop-from : goal.invariant-loop-from
invariant-loop-from g l = record {
  within : l.from ≤ l.count;
  same_shelf : name_of l.store ≡ name_of l.fn.store;
  rest : behind (code_bytes (drop l.from (bucket_at l.hash l.i))) (gathered g.H.Shelf.contents l.store l.held)
      ≡ behind (code_bytes (bucket_at l.hash l.i)) (gathered g.H.Shelf.contents l.fn.store l.fn.held);
  files : files_in (g.H.Shelf.contents (maker_of l.store)) ≡ files_in (g.H.Shelf.contents (maker_of l.fn.store));
  making : g.H.Shelf.is_making (maker_of l.store) ≡ true;
  count_stays : g.H.Shelf.faults (maker_of l.store) ≡ g.H.Shelf.faults (maker_of l.fn.store);
}

abbrev pub decreases-loop-from : goal.decreases-loop-from
decreases-loop-from g l = l.count - l.from
