use Rattle.std.proofs.Common.{rules, ◌≡◌}
use Rattle.bcodes.specs.Value.{dim_of}
use Rattle.any_index.specs.Specs.{spec_of}
use Rattle.faissb_core.proofs.SessionLemmas.ShardLemmas.{alike_by_bound}
use Rattle.faissb_core.proofs.session.shard_group.is_alike.Goals as goal

pub returns : goal.returns
returns c =
    let spec : spec_of c.args.index.now ≡ spec_of c.args.shard.now = search rules in
    let dim : dim_of c.args.index.now ≡ dim_of c.args.shard.now = search rules in
    rw (c.bound.ensures, c.bound-2.ensures)
    (alike_by_bound c.args.index.now c.args.shard.now c.requires c.dim.ensures.legal spec dim)
