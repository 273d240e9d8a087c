use Rattle.std.proofs.Common.{◌≡◌, ◌-◌, ◌*◌, ◌≤◌, length}
use Rattle.outside.specs.Calls.{KeepsFiles}
use Rattle.bcodes.specs.Chunks.{chunks_of}
use Rattle.file_parts.specs.Format.{run}
use Rattle.file_parts.specs.Fields.{bytes_field, no_check, repeated}
use Rattle.file_parts.specs.Feeding.{IsTold, name_of, place, shelf_of}
use Rattle.file_parts.proofs.Repeats.{with_front}
use Rattle.index_files.proofs.reading.ivf.rows.read_codes.Given as goal

abbrev pub invariant-loop-done : goal.invariant-loop-done
invariant-loop-done g l = record {
  within : l.done ≤ l.count;
  whole : length l.codes.items ≡ l.done * l.size;
  so_far : IsTold (g.H.Shelf.contents (shelf_of l.fn.feed))
      → with_front (chunks_of l.size l.done l.codes.items)
      (run (repeated (l.count - l.done) (bytes_field l.size no_check)) (place g.H.Shelf.contents l.feed))
      ≡ run (repeated l.count (bytes_field l.size no_check)) (place g.H.Shelf.contents l.fn.feed);
  same_shelf : name_of l.feed ≡ name_of l.fn.feed;
  files : KeepsFiles (g.H.Shelf.contents (shelf_of l.fn.feed)) (g.H.Shelf.contents (shelf_of l.feed));
  reading : g.H.Shelf.is_reading (shelf_of l.feed) ≡ g.H.Shelf.is_reading (shelf_of l.fn.feed);
  count_stays : g.H.Shelf.faults (shelf_of l.feed) ≡ g.H.Shelf.faults (shelf_of l.fn.feed);
}

abbrev pub decreases-loop-done : goal.decreases-loop-done
decreases-loop-done g l = l.count - l.done
