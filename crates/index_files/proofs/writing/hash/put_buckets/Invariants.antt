use Rattle.std.proofs.Common.{◌≡◌, ◌≤◌, drop, true}
use Rattle.std.specs.List.{flat_map}
use Rattle.file_parts.specs.Storing.{behind, files_in, maker_of, name_of}
use Rattle.hash_index.specs.Keys.{bucket, hash_keys}
use Rattle.index_files.specs.Canon.{bucket_bytes}
use Rattle.index_files.specs.Writing.{gathered}
use Rattle.index_files.proofs.writing.hash.put_buckets.Given as goal

abbrev pub invariant-loop-i : goal.invariant-loop-i
invariant-loop-i g l = record {
  same_shelf : name_of l.store ≡ name_of l.fn.store;
  rest : behind (flat_map (λ k. bucket_bytes (bucket l.hash k)) (drop l.i (hash_keys l.hash)))
      (gathered g.H.Shelf.contents l.store l.held)
      ≡ behind (flat_map (λ k. bucket_bytes (bucket l.hash k)) (hash_keys l.hash))
      (gathered g.H.Shelf.contents l.fn.store l.fn.held);
  files : files_in (g.H.Shelf.contents (maker_of l.store)) ≡ files_in (g.H.Shelf.contents (maker_of l.fn.store));
  making : g.H.Shelf.is_making (maker_of l.store) ≡ true;
  count_stays : g.H.Shelf.faults (maker_of l.store) ≡ g.H.Shelf.faults (maker_of l.fn.store);
}
