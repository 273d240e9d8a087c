use Rattle.std.proofs.Common.{◌≡◌, ◌-◌, length}
use Rattle.outside.specs.Calls.{KeepsFiles}
use Rattle.file_parts.specs.Format.{run}
use Rattle.file_parts.specs.Fields.{any_signed, repeated}
use Rattle.file_parts.specs.Feeding.{IsTold, name_of, place, shelf_of}
use Rattle.file_parts.proofs.Repeats.{with_front}
use Rattle.index_files.proofs.reading.index.read_ids.Given as goal

abbrev pub invariant-loop : goal.invariant-loop
invariant-loop g l = record {
  count : length l.ids.items ≡ l.counter;
  so_far : IsTold (g.H.Shelf.contents (shelf_of l.fn.feed))
      → with_front l.ids.items (run (repeated (l.count - l.counter) (any_signed 8)) (place g.H.Shelf.contents l.feed))
      ≡ run (repeated l.count (any_signed 8)) (place g.H.Shelf.contents l.fn.feed);
  same_shelf : name_of l.feed ≡ name_of l.fn.feed;
  files : KeepsFiles (g.H.Shelf.contents (shelf_of l.fn.feed)) (g.H.Shelf.contents (shelf_of l.feed));
  reading : g.H.Shelf.is_reading (shelf_of l.feed) ≡ g.H.Shelf.is_reading (shelf_of l.fn.feed);
  count_stays : g.H.Shelf.faults (shelf_of l.feed) ≡ g.H.Shelf.faults (shelf_of l.fn.feed);
}
