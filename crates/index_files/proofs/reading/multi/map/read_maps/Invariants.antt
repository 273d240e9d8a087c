use Rattle.std.proofs.Common.{◌≡◌, ◌-◌, replicate}
use Rattle.std.specs.List.{range_with_len}
use Rattle.file_parts.specs.Format.{run}
use Rattle.file_parts.specs.Fields.{each}
use Rattle.file_parts.specs.Feeding.{IsTold, StaysOver, place, shelf_of}
use Rattle.file_parts.proofs.Repeats.{with_front}
use Rattle.index_files.specs.MultiFormat.{map_fields}
use Rattle.index_files.proofs.reading.multi.map.read_maps.Given as goal

abbrev pub invariant-loop-number : goal.invariant-loop-number
invariant-loop-number g l = record {
  so_far : IsTold (g.H.Shelf.contents (shelf_of l.fn.feed))
      → with_front (replicate l.number tt)
      (run (each (range_with_len l.number (l.nhash - l.number)) (map_fields l.storage.codes l.b))
      (place g.H.Shelf.contents l.feed))
      ≡ run (each (range_with_len 0 l.nhash) (map_fields l.storage.codes l.b)) (place g.H.Shelf.contents l.fn.feed);
  shelf : StaysOver g.H.Shelf.contents g.H.Shelf.is_reading g.H.Shelf.faults l.fn.feed l.feed ⊥;
}
