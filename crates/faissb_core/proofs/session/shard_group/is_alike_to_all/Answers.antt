use Rattle.std.proofs.Common.{rules, ◌≡◌, ◌<◌, ◌∙◌, sym, length, true}
use Rattle.shard_set.specs.Joined.{are_alike}
use Rattle.faissb_core.proofs.SessionLemmas.ShardLemmas.{first_decides}
use Rattle.faissb_core.proofs.session.shard_group.is_alike_to_all.Goals as goal

pub returns-in-Some : goal.returns-in-Some
returns-in-Some c =
    let alike : are_alike c.in-Some.shards.values ≡ true = rw c.in-Some.is at c.requires.alike in
    let some : 0 < length c.in-Some.shards.values = search rules in
    rw c.in-Some.is
    (c.is_alike.ensures
    ∙ sym (first_decides c.args.index.now c.get.result.now c.in-Some.shards.values alike some
    (c.get.ensures c.get.result.now)))
