use Rattle.std.proofs.Common.{rules}
use Rattle.faissb_core.proofs.ReplyLemmas.SentLemmas.{appends_write}
use Rattle.faissb_core.proofs.reply.send.send_piece.Goals as goal

pub loop-at-preserved : goal.loop-at-preserved
loop-at-preserved g c = record {
  within = search rules;
  sent = appends_write _ _ _ _ _ _ _ c.in_ok-at.ensures.bound c.in_ok-at.ensures.bytes c.loop-at.invariant.sent;
  faultless = search rules;
}
