use Rattle.std.proofs.Common.{subst}
use Rattle.faissb_core.specs.Language.Command.{Shard}
use Rattle.faissb_core.specs.Machine.Step.{command_outcome}
use Rattle.faissb_core.specs.Session.Followed.{state_of}
use Rattle.faissb_core.specs.Session.Results.{Leaves}
use Rattle.faissb_core.proofs.session.session.Session.shard.Goals as goal

pub returns-clause-ok : goal.returns-clause-ok
returns-clause-ok c = λ files.
    subst (λ s. Leaves (command_outcome Shard s files) (state_of c.take.new.index c.take.new.self) files c.take.result)
    c.self.view_is (c.take.ensures.ok files)
