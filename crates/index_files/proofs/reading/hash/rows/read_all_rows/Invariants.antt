use Rattle.std.proofs.Common.{◌≡◌, ◌+◌, ◌*◌, ◌/◌, length}
use Rattle.std.specs.Prelude.{sum}
use Rattle.outside.specs.Calls.{KeepsFiles}
use Rattle.file_parts.specs.Format.{run}
use Rattle.file_parts.specs.Feeding.{IsTold, name_of, place, shelf_of}
use Rattle.file_parts.proofs.Repeats.{with_front}
use Rattle.index_files.specs.HashFormat.{all_rows, buckets_in}
use Rattle.index_files.specs.HashReading.{GainsRows}
use Rattle.index_files.proofs.HashRunReading.{from, sizes}
use Rattle.index_files.proofs.reading.hash.rows.read_all_rows.Given as goal

abbrev pub invariant-loop : goal.invariant-loop
invariant-loop g l = record {
  bytes : l.bits.bytes ≡ l.run;
  at : l.bits.at ≡ l.counter * (l.packing.b + l.packing.width);
  dim : l.gathered.dim ≡ l.hash.dim;
  b : l.gathered.b ≡ l.hash.b;
  gains : GainsRows l.role l.packing.total (length l.hash.rows) l.fn.hash l.hash;
  total : length l.hash.rows
      + sum (sizes l.run l.packing.b l.packing.width l.packing.count l.counter) ≡ l.packing.total;
  so_far : IsTold (g.H.Shelf.contents (shelf_of l.fn.feed))
      → with_front l.hash.rows
      (run (all_rows l.role (l.fn.hash.dim / 8) l.packing.total l.packing.b
      (from l.run l.packing.b l.packing.width l.packing.count l.counter)) (place g.H.Shelf.contents l.feed))
      ≡ run (all_rows l.role (l.fn.hash.dim / 8) l.packing.total l.packing.b
      (buckets_in l.run l.packing.b l.packing.width l.packing.count)) (place g.H.Shelf.contents l.fn.feed);
  same_shelf : name_of l.feed ≡ name_of l.fn.feed;
  files : KeepsFiles (g.H.Shelf.contents (shelf_of l.fn.feed)) (g.H.Shelf.contents (shelf_of l.feed));
  reading : g.H.Shelf.is_reading (shelf_of l.feed) ≡ g.H.Shelf.is_reading (shelf_of l.fn.feed);
  count_stays : g.H.Shelf.faults (shelf_of l.feed) ≡ g.H.Shelf.faults (shelf_of l.fn.feed);
}
