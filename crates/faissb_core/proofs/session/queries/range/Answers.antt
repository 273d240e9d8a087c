use Rattle.std.proofs.Common.{rules}
use Rattle.bcodes.specs.Answers.{within, looked}
use Rattle.bcodes.specs.Marks.{range_mark}
use Rattle.faissb_core.specs.Reply.Answer.{Found}
use Rattle.faissb_core.proofs.session.queries.range.Goals as goal

pub returns : goal.returns
returns g c =
    let v = g.I.BinaryIndex.value c.args.index.now in
    let q = c.in_ok-centre.centre.items in
    record {
      answer = Found (within v q c.args.radius) (looked v q)
          (range_mark v q c.args.radius);
      passed = search rules;
      reply_is = search rules;
    }
