use Rattle.std.proofs.Common.{◌≡◌, ◌+◌, ◌-◌, ◌≤◌}
use Rattle.faissb_core.specs.Runs.Limits.{script_limit, read_limit}
use Rattle.faissb_core.proofs.RunLemmas.ScriptRun.{SoFar}
use Rattle.faissb_core.proofs.runs.script.run_lines.Given as goal

abbrev pub invariant-loop-count : goal.invariant-loop-count
invariant-loop-count g l = record {
  far : SoFar
      (record { left = g.S.Source.left l.initial.script; taken = g.S.Source.taken l.initial.script })
      (record { left = g.S.Source.left l.script; taken = g.S.Source.taken l.script })
      (record { written = g.K.Sink.written l.initial.out; contents = g.H.Shelf.contents l.initial.shelf })
      (record { written = g.K.Sink.written l.out; contents = g.H.Shelf.contents l.shelf }) l.running l.count;
  few : l.count ≤ script_limit + read_limit;
  script_same : g.S.Source.faults l.script ≡ g.S.Source.faults l.initial.script;
  out_same : g.K.Sink.faults l.out ≡ g.K.Sink.faults l.initial.out;
  shelf_same : g.H.Shelf.faults l.shelf ≡ g.H.Shelf.faults l.initial.shelf;
}

abbrev pub decreases-loop-count : goal.decreases-loop-count
decreases-loop-count g l = script_limit + 1 - l.count
