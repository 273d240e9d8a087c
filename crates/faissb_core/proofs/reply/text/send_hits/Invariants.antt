use Rattle.std.proofs.Common.{◌≡◌, ◌++◌, take}
use Rattle.std.specs.List.{flat_map}
use Rattle.faissb_core.specs.Reply.Sent.{SendsPieces}
use Rattle.faissb_core.specs.Reply.Text.{hit_text}
use Rattle.faissb_core.proofs.reply.text.send_hits.Given as goal

abbrev pub invariant-loop-hit : goal.invariant-loop-hit
invariant-loop-hit g l = record {
  sent : SendsPieces (g.K.Sink.written l.initial.out) (g.K.Sink.written l.out) l.held.items
      (l.initial.held.items ++ flat_map hit_text (take l.hit-index l.hits));
  faultless : g.K.Sink.faults l.out ≡ g.K.Sink.faults l.initial.out;
}
