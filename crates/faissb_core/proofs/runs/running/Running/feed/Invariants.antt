use Rattle.std.proofs.Common.{◌≡◌, ◌≤◌, length, is_some}
use Rattle.outside.specs.Contents.{Files, Fits}
use Rattle.faissb_core.specs.Runs.Limits.{line_kept}
use Rattle.faissb_core.specs.Runs.Progress.{beside, fed_loads}
use Rattle.faissb_core.proofs.RunLemmas.Feeding.{Come}
use Rattle.faissb_core.proofs.runs.running.Running.feed.Given as goal

abbrev pub invariant-loop-line : goal.invariant-loop-line
invariant-loop-line g l = record {
  line_fits : length l.self.line ≤ line_kept;
  come : (files : Files)
      → Fits files (g.H.Shelf.contents l.initial.shelf) (fed_loads (beside l.initial.self files) l.bytes)
      → Come (beside l.initial.self files) l.bytes l.self l.rest
      (record { written = g.K.Sink.written l.initial.out; contents = g.H.Shelf.contents l.initial.shelf })
      (record { written = g.K.Sink.written l.out; contents = g.H.Shelf.contents l.shelf });
  tells : is_some (g.H.Shelf.contents l.shelf) ≡ is_some (g.H.Shelf.contents l.initial.shelf);
  shelf_same : g.H.Shelf.faults l.shelf ≡ g.H.Shelf.faults l.initial.shelf;
  out_same : g.K.Sink.faults l.out ≡ g.K.Sink.faults l.initial.out;
}

abbrev pub decreases-loop-line : goal.decreases-loop-line
decreases-loop-line g l = length l.rest
