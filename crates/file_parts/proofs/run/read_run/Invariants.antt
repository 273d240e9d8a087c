use Rattle.std.proofs.Common.{◌≡◌, ◌+◌, length}
use Rattle.outside.specs.Calls.{WhereTold}
use Rattle.file_parts.proofs.FillLemmas.{SoFar}
use Rattle.file_parts.proofs.run.read_run.Given as goal

abbrev pub invariant-loop-left : goal.invariant-loop-left
invariant-loop-left g l = record {
  total : length l.bytes.items + l.left ≡ l.fn.count;
  so_far : WhereTold (g.H.Shelf.contents l.initial.shelf) (g.H.Shelf.contents l.shelf)
      (SoFar l.initial.ahead l.ahead l.bytes.items);
  reading : g.H.Shelf.is_reading l.shelf ≡ g.H.Shelf.is_reading l.initial.shelf;
  count_stays : g.H.Shelf.faults l.shelf ≡ g.H.Shelf.faults l.initial.shelf;
}

abbrev pub decreases-loop-left : goal.decreases-loop-left
decreases-loop-left g l = l.left
