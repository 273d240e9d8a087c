use Rattle.std.proofs.Common.{rules, ◌≡◌, ◌/◌, Err}
use Rattle.bcodes.specs.Marks.{search_mark}
use Rattle.shard_set.specs.Joined.{joined_best, joined_looked}
use Rattle.faissb_core.specs.Reply.Answer.{Found}
use Rattle.faissb_core.proofs.SessionLemmas.ShardLemmas.{joined_here, search_refused, search_value, search_found}
use Rattle.faissb_core.proofs.session.shard_group.search.Goals as goal

pub returns-in_err-query : goal.returns-in_err-query
returns-in_err-query c =
    let vs = c.args.shards.now.values in
    let here = joined_here vs c.args.shards.now.dim c.requires.some c.dim.ensures.dims in
    let result : c.from_residual.result ≡ Err c.in_err-query.field-0.0 = search rules in
    rw result
    (search_refused c.args.k c.args.word.now vs here.value (c.args.shards.now.dim / 8) c.in_err-query.field-0.0 here.is here.size
    (search rules))

pub returns-then-k-lt1 : goal.returns-then-k-lt1
returns-then-k-lt1 c =
    let vs = c.args.shards.now.values in
    let here = joined_here vs c.args.shards.now.dim c.requires.some c.dim.ensures.dims in
    rw c.into.ensures
    (search_value c.args.k c.args.word.now vs here.value (c.args.shards.now.dim / 8) c.in_ok-query.query.items here.is here.size
    (search rules) (search rules))

pub returns : goal.returns
returns c =
    let vs = c.args.shards.now.values in
    let here = joined_here vs c.args.shards.now.dim c.requires.some c.dim.ensures.dims in
    let q = c.in_ok-query.query.items in
    record {
      answer = Found (joined_best vs q c.args.k) (joined_looked vs q) (search_mark here.value q c.args.k);
      passed = search_found c.args.k c.args.word.now vs here.value (c.args.shards.now.dim / 8) q here.is here.size
          (search rules) (search rules);
      reply_is = rw c.deref.ensures.value at c.in_ok-reply.ensures here.value here.is;
    }
