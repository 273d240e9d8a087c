use Rattle.std.proofs.Common.{rules}
use Rattle.bcodes.specs.Value.{count_of}
use Rattle.faissb_core.specs.Reply.Answer.{Removed}
use Rattle.faissb_core.specs.Language.Read.{said_selection}
use Rattle.faissb_core.proofs.SessionLemmas.RemoveLemmas.{removal_is}
use Rattle.faissb_core.proofs.session.removing.remove.Goals as goal

pub returns-clause-ok : goal.returns-clause-ok
returns-clause-ok c =
    let w = c.remove.new.self in
    record {
      answer = Removed c.in_ok-count.count (count_of w);
      passed = removal_is (said_selection c.args.selection) c.in_ok-selector.selector c.args.index.now w c.in_ok-count.count
          c.in_ok-selector.ensures c.in_ok-count.ensures.ok c.in_ok-count.ensures.count;
      reply_is = search rules;
    }
