use Rattle.std.proofs.Common.{◌≡◌, ℕ, ◌-◌, ◌≤◌, List, [], length}
use Rattle.outside.specs.Calls.{KeepsFiles}
use Rattle.file_parts.specs.Format.{run}
use Rattle.file_parts.specs.Feeding.{IsTold, name_of, place, shelf_of}
use Rattle.index_files.specs.IvfSteps.{filled_sizes}
use Rattle.index_files.proofs.IvfReading.{AreNoted}
use Rattle.index_files.proofs.reading.ivf.sizes.read_full_sizes.Given as goal

abbrev pub invariant-loop-list : goal.invariant-loop-list
invariant-loop-list g l = record {
  few : length l.sizes.items ≤ l.list;
  within : l.rows ≤ l.total;
  whole : l.nlist ≤ l.list → l.rows ≡ l.total;
  so_far : (before : List ℕ) × AreNoted l.list l.rows l.sizes.items before
      × (IsTold (g.H.Shelf.contents (shelf_of l.fn.feed))
      → run (filled_sizes l.nlist l.total (l.nlist - l.list) before) (place g.H.Shelf.contents l.feed)
      ≡ run (filled_sizes l.nlist l.total l.nlist []) (place g.H.Shelf.contents l.fn.feed));
  same_shelf : name_of l.feed ≡ name_of l.fn.feed;
  files : KeepsFiles (g.H.Shelf.contents (shelf_of l.fn.feed)) (g.H.Shelf.contents (shelf_of l.feed));
  reading : g.H.Shelf.is_reading (shelf_of l.feed) ≡ g.H.Shelf.is_reading (shelf_of l.fn.feed);
  count_stays : g.H.Shelf.faults (shelf_of l.feed) ≡ g.H.Shelf.faults (shelf_of l.fn.feed);
}
