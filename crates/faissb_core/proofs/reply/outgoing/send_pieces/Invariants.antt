use Rattle.std.proofs.Common.{◌≡◌, ◌≤◌, ◌-◌, vec_len, drop}
use Rattle.faissb_core.specs.Reply.Sent.{SendsPieces}
use Rattle.faissb_core.proofs.reply.outgoing.send_pieces.Given as goal

abbrev pub invariant-loop-at : goal.invariant-loop-at
invariant-loop-at g l = record {
  within : l.at ≤ vec_len l.held;
  sent : SendsPieces (g.K.Sink.written l.initial.out) (g.K.Sink.written l.out) (drop l.at l.held.items) l.held.items;
  faultless : g.K.Sink.faults l.out ≡ g.K.Sink.faults l.initial.out;
}

abbrev pub decreases-loop-at : goal.decreases-loop-at
decreases-loop-at g l = vec_len l.held - l.at
