use Rattle.std.proofs.Common.{◌≡◌, ◌-◌, ◌≤◌, length, take}
use Rattle.outside.specs.Calls.{WhereTold}
use Rattle.file_parts.proofs.FillLemmas.{SoFar}
use Rattle.file_parts.proofs.fill.fill.Given as goal

abbrev pub invariant-loop-got : goal.invariant-loop-got
invariant-loop-got g l = record {
  within : l.got ≤ length l.into;
  so_far : WhereTold (g.H.Shelf.contents l.initial.shelf) (g.H.Shelf.contents l.shelf)
      (SoFar l.initial.ahead l.ahead (take l.got l.into));
  reading : g.H.Shelf.is_reading l.shelf ≡ g.H.Shelf.is_reading l.initial.shelf;
  count_stays : g.H.Shelf.faults l.shelf ≡ g.H.Shelf.faults l.initial.shelf;
}

abbrev pub decreases-loop-got : goal.decreases-loop-got
decreases-loop-got g l = length l.into - l.got
