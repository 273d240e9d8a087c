use Rattle.std.proofs.Common.{◌≡◌, ◌∙◌, ◌++◌, List, ℕ, [], ap, length}
use Rattle.std.proofs.lemmas.List.{append-nil}
use Rattle.faissb_core.specs.Reply.Text.{count_text}
use Rattle.faissb_core.proofs.ReplyLemmas.PieceLemmas.{sends_front}
use Rattle.faissb_core.proofs.reply.text.send_found.Goals as goal

pub returns-in_err-send_piece-clause-front : goal.returns-in_err-send_piece-clause-front
returns-in_err-send_piece-clause-front g c =
    let is : c.push_count.new.held.items ≡ count_text (length c.args.hits.now) c.args.lent c.args.exact =
    c.in_ok-push_count.ensures
    ∙ ap (λ (l : List ℕ). l ++ count_text (length c.args.hits.now) c.args.lent c.args.exact) c.in_ok-held.ensures.items in
    sends_front _ _ _ _ [] _ _ (rw is at c.in_ok-send_hits.ensures.ok)
    (rw c.deref.ensures.value at c.send_piece.ensures.front) (append-nil _)

pub returns-clause-front : goal.returns-clause-front
returns-clause-front g c =
    let is : c.push_count.new.held.items ≡ count_text (length c.args.hits.now) c.args.lent c.args.exact =
    c.in_ok-push_count.ensures
    ∙ ap (λ (l : List ℕ). l ++ count_text (length c.args.hits.now) c.args.lent c.args.exact) c.in_ok-held.ensures.items in
    sends_front _ _ _ _ [] _ _ (rw is at c.in_ok-send_hits.ensures.ok)
    (rw c.deref.ensures.value at c.send_piece.ensures.front) (append-nil _)
