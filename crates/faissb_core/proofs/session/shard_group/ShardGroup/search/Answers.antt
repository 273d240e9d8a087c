use Rattle.std.proofs.Common.{rules, ◌≡◌, true, nat_eq, length}
use Rattle.faissb_core.proofs.SessionLemmas.ShardLemmas.{search_nothing}
use Rattle.faissb_core.proofs.session.shard_group.ShardGroup.search.Goals as goal

pub returns-in_default : goal.returns-in_default
returns-in_default c =
    let none : nat_eq (length c.args.self.now) 0 ≡ true = search rules in
    rw c.into.ensures (search_nothing c.args.k c.args.word.now c.args.self.now none)

pub returns-then-is_empty : goal.returns-then-is_empty
returns-then-is_empty c =
    let none : nat_eq (length c.args.self.now) 0 ≡ true = search rules in
    rw c.into-then-is_empty.ensures (search_nothing c.args.k c.args.word.now c.args.self.now none)
