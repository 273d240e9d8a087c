use Rattle.std.proofs.Common.{[]}
use Rattle.std.proofs.lemmas.List.{append-nil}
use Rattle.faissb_core.proofs.ReplyLemmas.PieceLemmas.{sends_front}
use Rattle.faissb_core.proofs.reply.text.send_text.Goals as goal

pub returns-in_err-send_piece-clause-front : goal.returns-in_err-send_piece-clause-front
returns-in_err-send_piece-clause-front g c =
    sends_front _ _ _ _ [] _ _ c.in_ok-send_pieces.ensures.ok
    (rw c.deref.ensures.value at c.send_piece.ensures.front) (append-nil _)

pub returns-clause-front : goal.returns-clause-front
returns-clause-front g c =
    sends_front _ _ _ _ [] _ _ c.in_ok-send_pieces.ensures.ok
    (rw c.deref.ensures.value at c.send_piece.ensures.front) (append-nil _)
