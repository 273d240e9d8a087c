use Rattle.std.proofs.Common.{rules, arith}
use Rattle.faissb_core.proofs.ReplyLemmas.PieceLemmas.{sends_front, sends_more, piece_is, piece-len}
use Rattle.faissb_core.proofs.reply.outgoing.send_pieces.Goals as goal

pub returns-in_err-send_piece-clause-front : goal.returns-in_err-send_piece-clause-front
returns-in_err-send_piece-clause-front g c = sends_front _ _ _ _ _ _ _ c.loop-at.invariant.sent
    c.send_piece.ensures.front (piece_is _ _ c.loop-at.at 8192 c.deref.ensures.value)

pub loop-at-preserved : goal.loop-at-preserved
loop-at-preserved g c = record {
  within = search rules;
  sent = sends_more _ _ _ _ _ _ _ c.loop-at.invariant.sent c.in_ok-send_piece.ensures.ok
      (piece-len _ c.loop-at.at (omega (arith, c.deref.ensures.len)))
      (piece_is _ _ c.loop-at.at 8192 c.deref.ensures.value);
  faultless = search rules;
}
