use Rattle.std.proofs.Common.{rules, ◌≡◌, ◌<◌, ◌∙◌, length}
use Rattle.std.specs.List.{All}
use Rattle.bcodes.specs.Value.{IndexValue, dim_of}
use Rattle.faissb_core.proofs.SessionLemmas.ShardLemmas.{one_dim}
use Rattle.faissb_core.proofs.session.shard_group.make_room.Goals as goal

pub returns-clause-ok : goal.returns-clause-ok
returns-clause-ok c =
    let vs = c.in-Some.shards.values in
    let dims : All (λ (v : IndexValue). dim_of v ≡ c.args.dim.bits) vs = rw c.in-Some.is at c.requires in
    let some : 0 < length vs = search rules in
    (c.in_ok-reserve-2.ensures.dim ∙ one_dim c.args.dim.bits c.in-Some.shards.dim vs some dims c.dim-dim.ensures.dims, search rules)
