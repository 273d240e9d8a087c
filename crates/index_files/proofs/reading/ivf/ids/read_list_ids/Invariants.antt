use Rattle.std.proofs.Common.{◌≡◌, ◌-◌, length}
use Rattle.std.specs.List.{range_with_len}
use Rattle.outside.specs.Calls.{KeepsFiles}
use Rattle.file_parts.specs.Format.{run}
use Rattle.file_parts.specs.Fields.{each}
use Rattle.file_parts.specs.Feeding.{IsTold, name_of, place, shelf_of}
use Rattle.file_parts.proofs.Repeats.{with_front}
use Rattle.index_files.specs.IvfFormat.{list_id}
use Rattle.index_files.specs.IvfSteps.{ArePassed}
use Rattle.index_files.proofs.reading.ivf.ids.read_list_ids.Given as goal

abbrev pub invariant-loop-offset : goal.invariant-loop-offset
invariant-loop-offset g l = record {
  count : length l.ids.items ≡ l.offset;
  passed : ArePassed l.checks l.list 0 l.ids.items;
  so_far : IsTold (g.H.Shelf.contents (shelf_of l.fn.feed))
      → with_front l.ids.items (run (each (range_with_len l.offset (l.n - l.offset))
      (list_id l.checks.role l.checks.count l.checks.direct l.list)) (place g.H.Shelf.contents l.feed))
      ≡ run (each (range_with_len 0 l.n) (list_id l.checks.role l.checks.count l.checks.direct l.list))
      (place g.H.Shelf.contents l.fn.feed);
  same_shelf : name_of l.feed ≡ name_of l.fn.feed;
  files : KeepsFiles (g.H.Shelf.contents (shelf_of l.fn.feed)) (g.H.Shelf.contents (shelf_of l.feed));
  reading : g.H.Shelf.is_reading (shelf_of l.feed) ≡ g.H.Shelf.is_reading (shelf_of l.fn.feed);
  count_stays : g.H.Shelf.faults (shelf_of l.feed) ≡ g.H.Shelf.faults (shelf_of l.fn.feed);
}
