use Rattle.std.proofs.Common.{rules}
use Rattle.bcodes.specs.Answers.{best, looked}
use Rattle.bcodes.specs.Marks.{search_mark}
use Rattle.faissb_core.specs.Reply.Answer.{Found}
use Rattle.faissb_core.proofs.session.queries.search.Goals as goal

pub returns : goal.returns
returns g c =
    let v = g.I.BinaryIndex.value c.args.index.now in
    let q = c.in_ok-query.query.items in
    record {
      answer = Found (best v q c.args.k) (looked v q)
          (search_mark v q c.args.k);
      passed = search rules;
      reply_is = search rules;
    }
