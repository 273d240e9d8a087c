use Rattle.std.proofs.Common.{rules, ◌≡◌, ◌/◌, Err}
use Rattle.bcodes.specs.Marks.{range_mark}
use Rattle.shard_set.specs.Joined.{joined_looked, joined_within}
use Rattle.faissb_core.specs.Reply.Answer.{Found}
use Rattle.faissb_core.proofs.SessionLemmas.ShardLemmas.{joined_here, range_refused, range_value, range_found}
use Rattle.faissb_core.proofs.session.shard_group.range.Goals as goal

pub returns-in_err-centre : goal.returns-in_err-centre
returns-in_err-centre c =
    let vs = c.args.shards.now.values in
    let here = joined_here vs c.args.shards.now.dim c.requires.some c.dim.ensures.dims in
    let result : c.from_residual.result ≡ Err c.in_err-centre.field-0.0 = search rules in
    rw result
    (range_refused c.args.radius c.args.word.now vs here.value (c.args.shards.now.dim / 8) c.in_err-centre.field-0.0 here.is here.size
    (search rules))

pub returns-then-radius-gt-RADIUS_LIMIT : goal.returns-then-radius-gt-RADIUS_LIMIT
returns-then-radius-gt-RADIUS_LIMIT c =
    let vs = c.args.shards.now.values in
    let here = joined_here vs c.args.shards.now.dim c.requires.some c.dim.ensures.dims in
    rw c.into.ensures
    (range_value c.args.radius c.args.word.now vs here.value (c.args.shards.now.dim / 8) c.in_ok-centre.centre.items here.is here.size
    (search rules) (search rules))

pub returns : goal.returns
returns c =
    let vs = c.args.shards.now.values in
    let here = joined_here vs c.args.shards.now.dim c.requires.some c.dim.ensures.dims in
    let q = c.in_ok-centre.centre.items in
    record {
      answer = Found (joined_within vs q c.args.radius) (joined_looked vs q) (range_mark here.value q c.args.radius);
      passed = range_found c.args.radius c.args.word.now vs here.value (c.args.shards.now.dim / 8) q here.is here.size
          (search rules) (search rules);
      reply_is = rw c.deref.ensures.value at c.in_ok-reply.ensures here.value here.is;
    }
