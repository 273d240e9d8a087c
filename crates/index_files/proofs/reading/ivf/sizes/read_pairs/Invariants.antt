use Rattle.std.proofs.Common.{◌≡◌, ◌-◌, ◌≤◌, [], length}
use Rattle.outside.specs.Calls.{KeepsFiles}
use Rattle.file_parts.specs.Format.{run}
use Rattle.file_parts.specs.Feeding.{IsTold, name_of, place, shelf_of}
use Rattle.index_files.specs.IvfFormat.{rows_in, sparse_sizes}
use Rattle.index_files.specs.IvfSteps.{AreFilled}
use Rattle.index_files.proofs.IvfReading.{IsNext}
use Rattle.index_files.proofs.reading.ivf.sizes.read_pairs.Given as goal

abbrev pub invariant-loop-done : goal.invariant-loop-done
invariant-loop-done g l = record {
  count : length l.sizes.items ≡ l.done;
  rows : rows_in l.sizes.items ≡ l.rows;
  within : l.rows ≤ l.total;
  whole : l.pairs ≤ l.done → l.rows ≡ l.total;
  next : IsNext l.next l.sizes.items;
  next_most : l.next ≤ l.nlist;
  filled : AreFilled 0 l.next l.sizes.items;
  so_far : IsTold (g.H.Shelf.contents (shelf_of l.fn.feed))
      → run (sparse_sizes l.nlist l.total (l.pairs - l.done) l.sizes.items) (place g.H.Shelf.contents l.feed)
      ≡ run (sparse_sizes l.nlist l.total l.pairs []) (place g.H.Shelf.contents l.fn.feed);
  same_shelf : name_of l.feed ≡ name_of l.fn.feed;
  files : KeepsFiles (g.H.Shelf.contents (shelf_of l.fn.feed)) (g.H.Shelf.contents (shelf_of l.feed));
  reading : g.H.Shelf.is_reading (shelf_of l.feed) ≡ g.H.Shelf.is_reading (shelf_of l.fn.feed);
  count_stays : g.H.Shelf.faults (shelf_of l.feed) ≡ g.H.Shelf.faults (shelf_of l.fn.feed);
}
