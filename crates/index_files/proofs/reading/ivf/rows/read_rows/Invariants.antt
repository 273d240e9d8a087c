use Rattle.std.proofs.Common.{◌≡◌, ◌/◌, List, take, drop}
use Rattle.outside.specs.Calls.{KeepsFiles}
use Rattle.bcodes.specs.Value.{ListRow}
use Rattle.file_parts.specs.Format.{run}
use Rattle.file_parts.specs.Feeding.{IsTold, name_of, place, shelf_of}
use Rattle.file_parts.proofs.Repeats.{with_front}
use Rattle.index_files.specs.Groups.{concat}
use Rattle.index_files.specs.IvfSteps.{AreListRows, row_lists}
use Rattle.index_files.proofs.Each.{Pairs}
use Rattle.index_files.proofs.reading.ivf.rows.read_rows.Given as goal

abbrev pub invariant-loop-i : goal.invariant-loop-i
invariant-loop-i g l = record {
  ivf : l.ivf ≡ record l.fn.ivf { rows = l.ivf.rows };
  read : (rss : List (List ListRow)) × (l.ivf.rows ≡ concat rss)
      × Pairs (AreListRows l.checks (l.dim.bits / 8)) (take l.i l.sizes) rss;
  so_far : IsTold (g.H.Shelf.contents (shelf_of l.fn.feed))
      → with_front l.ivf.rows (run (row_lists l.checks (l.dim.bits / 8) (drop l.i l.sizes))
      (place g.H.Shelf.contents l.feed))
      ≡ run (row_lists l.checks (l.dim.bits / 8) l.sizes) (place g.H.Shelf.contents l.fn.feed);
  same_shelf : name_of l.feed ≡ name_of l.fn.feed;
  files : KeepsFiles (g.H.Shelf.contents (shelf_of l.fn.feed)) (g.H.Shelf.contents (shelf_of l.feed));
  reading : g.H.Shelf.is_reading (shelf_of l.feed) ≡ g.H.Shelf.is_reading (shelf_of l.fn.feed);
  count_stays : g.H.Shelf.faults (shelf_of l.feed) ≡ g.H.Shelf.faults (shelf_of l.fn.feed);
}
