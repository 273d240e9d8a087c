use Rattle.std.proofs.Common.{◌≡◌, ℕ, ◌-◌, ◌/◌, ◌≤◌, List, length}
use Rattle.outside.specs.Calls.{KeepsFiles}
use Rattle.file_parts.specs.Format.{run}
use Rattle.file_parts.specs.Fields.{repeated}
use Rattle.file_parts.specs.Feeding.{IsTold, name_of, place, shelf_of}
use Rattle.file_parts.proofs.Repeats.{with_front}
use Rattle.index_files.specs.HashFormat.{bucket_code}
use Rattle.index_files.specs.HashReading.{joined}
use Rattle.index_files.proofs.HashReading.{with_codes}
use Rattle.index_files.proofs.reading.hash.rows.read_codes.Given as goal

abbrev pub invariant-loop-i : goal.invariant-loop-i
invariant-loop-i g l = record {
  within : l.i ≤ length l.ids;
  dim : l.gathered.dim ≡ l.hash.dim;
  b : l.gathered.b ≡ l.hash.b;
  key : l.gathered.key ≡ l.fn.bucket.key;
  codes : (cs : List (List ℕ)) × (length cs ≡ l.i)
      × (joined l.gathered l.hash ≡ with_codes l.fn.hash cs l.ids)
      × (IsTold (g.H.Shelf.contents (shelf_of l.fn.feed))
      → with_front cs (run (repeated (length l.ids - l.i) (bucket_code (l.fn.hash.dim / 8) l.fn.hash.b l.fn.bucket.key))
      (place g.H.Shelf.contents l.feed))
      ≡ run (repeated (length l.ids) (bucket_code (l.fn.hash.dim / 8) l.fn.hash.b l.fn.bucket.key))
      (place g.H.Shelf.contents l.fn.feed));
  same_shelf : name_of l.feed ≡ name_of l.fn.feed;
  files : KeepsFiles (g.H.Shelf.contents (shelf_of l.fn.feed)) (g.H.Shelf.contents (shelf_of l.feed));
  reading : g.H.Shelf.is_reading (shelf_of l.feed) ≡ g.H.Shelf.is_reading (shelf_of l.fn.feed);
  count_stays : g.H.Shelf.faults (shelf_of l.feed) ≡ g.H.Shelf.faults (shelf_of l.fn.feed);
}
