use Rattle.std.proofs.Common.{rules, arith, ◌+◌}
use Rattle.bcodes.specs.Hits.{no_hit}
use Rattle.faissb_core.proofs.ReplyLemmas.PieceLemmas.{front_then, sends_then, sends_so_far, hits-more, hits-front}
use Rattle.faissb_core.proofs.reply.text.send_hits.Goals as goal

pub returns-in_err-push_hit-clause-front : goal.returns-in_err-push_hit-clause-front
returns-in_err-push_hit-clause-front g c = hits-front _ _ c.args.held.now.items c.args.hits.now c.loop-hit.hit-index
    (sends_so_far _ _ _ _ c.loop-hit.invariant.sent)

pub returns-in_err-send_pieces-clause-front : goal.returns-in_err-send_pieces-clause-front
returns-in_err-send_pieces-clause-front g c =
    let front = rw c.in_ok-push_hit.ensures at c.send_pieces.ensures.front in
    let more = hits-more c.args.held.now.items c.args.hits.now c.loop-hit.hit-index no_hit (omega arith) in
    hits-front _ _ c.args.held.now.items c.args.hits.now (c.loop-hit.hit-index + 1)
    (rw more (front_then _ _ _ _ _ _ c.loop-hit.invariant.sent front))

pub loop-hit-preserved : goal.loop-hit-preserved
loop-hit-preserved g c =
    let sent = rw c.in_ok-push_hit.ensures at c.in_ok-send_pieces.ensures.ok in
    let more = hits-more c.args.held.now.items c.args.hits.now c.loop-hit.hit-index no_hit (omega arith) in
    record {
      sent = rw more (sends_then _ _ _ _ _ _ _ c.loop-hit.invariant.sent sent);
      faultless = search rules;
    }

pub returns-clause-front : goal.returns-clause-front
returns-clause-front g c = hits-front _ _ c.args.held.now.items c.args.hits.now c.loop-hit.hit-index
    (sends_so_far _ _ _ _ c.loop-hit.invariant.sent)
