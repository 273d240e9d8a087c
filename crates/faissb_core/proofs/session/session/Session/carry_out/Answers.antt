use Rattle.std.proofs.Common.{◌≡◌, refl, subst, Result, Ok, Err, OnErr}
use Rattle.faissb_core.specs.declared.reply.reply.Reply.{Reply}
use Rattle.faissb_core.specs.declared.session.halt.Halt.{Halt}
use Rattle.faissb_core.specs.Language.Command.{New, Load, Save, Shard, Unshard, Change, Ask, AskShards}
use Rattle.faissb_core.specs.Language.Lines.{Whole}
use Rattle.faissb_core.specs.Language.Read.{said_change, said_question, said_shard_question}
use Rattle.faissb_core.specs.Machine.State.{State}
use Rattle.faissb_core.specs.Session.Applied.{Applies}
use Rattle.faissb_core.specs.Session.Followed.{state_of}
use Rattle.faissb_core.proofs.SessionLemmas.AppliedLemmas.{alone}
use Rattle.faissb_core.proofs.session.session.Session.carry_out.Goals as goal

unmoved : (done : Result Reply Halt) (s : State) → OnErr done (s ≡ s)
unmoved (Ok reply) s = tt
unmoved (Err halt) s = refl

pub returns-in-New-clause-applies : goal.returns-in-New-clause-applies
returns-in-New-clause-applies g c =
    rw (c.in-New.is, c.settle.ensures.value)
    (alone (New c.in-New.bits c.in-New.factory.now) c.args.self.now c.renew.new.self
    (g.H.Shelf.contents c.args.shelf.now) c.renew.result refl c.renew.ensures.ok c.renew.ensures.err)

pub returns-in-Load-clause-applies : goal.returns-in-Load-clause-applies
returns-in-Load-clause-applies g c =
    rw c.in-Load.is (subst (λ s. Applies (Whole (Load c.in-Load.name.now)) s
    (state_of c.load.new.index c.self.inside.shards) (g.H.Shelf.contents c.args.shelf.now)
    (g.H.Shelf.contents c.load.new.shelf) c.load.result) c.self.view_is
    (c.load.ensures.applies c.self.inside.shards))

pub returns-in-Save-clause-applies : goal.returns-in-Save-clause-applies
returns-in-Save-clause-applies g c =
    rw c.in-Save.is (subst (λ s. Applies (Whole (Save c.in-Save.name.now)) s s
    (g.H.Shelf.contents c.args.shelf.now) (g.H.Shelf.contents c.save.new.shelf) c.save.result)
    c.self-in-Save.view_is (c.save.ensures.applies c.self-in-Save.inside.shards))

pub returns-in-Shard-clause-applies : goal.returns-in-Shard-clause-applies
returns-in-Shard-clause-applies g c =
    rw (c.in-Shard.is, c.settle-in-Shard.ensures.value)
    (alone Shard c.args.self.now c.shard.new.self (g.H.Shelf.contents c.args.shelf.now) c.shard.result refl
    c.shard.ensures.ok c.shard.ensures.err)

pub returns-in-Unshard-clause-applies : goal.returns-in-Unshard-clause-applies
returns-in-Unshard-clause-applies g c =
    rw c.in-Unshard.is
    (alone Unshard c.args.self.now c.unshard.new.self (g.H.Shelf.contents c.args.shelf.now) (Ok c.unshard.result)
    refl c.unshard.ensures tt)

pub returns-in-Change-clause-applies : goal.returns-in-Change-clause-applies
returns-in-Change-clause-applies g c =
    rw (c.in-Change.is, c.settle-in-Change.ensures.value)
    (alone (Change (said_change c.in-Change.asked)) c.args.self.now c.change.new.self
    (g.H.Shelf.contents c.args.shelf.now) c.change.result refl c.change.ensures.ok c.change.ensures.err)

pub returns-in-Ask-clause-applies : goal.returns-in-Ask-clause-applies
returns-in-Ask-clause-applies g c =
    rw (c.in-Ask.is, c.settle-in-Ask.ensures.value)
    (alone (Ask (said_question c.in-Ask.question)) c.args.self.now c.args.self.now
    (g.H.Shelf.contents c.args.shelf.now) c.ask.result refl c.ask.ensures (unmoved c.ask.result c.args.self.now))

pub returns-in-AskShards-clause-applies : goal.returns-in-AskShards-clause-applies
returns-in-AskShards-clause-applies g c =
    rw (c.in-AskShards.is, c.settle-in-AskShards.ensures.value)
    (alone (AskShards (said_shard_question c.in-AskShards.question)) c.args.self.now c.args.self.now
    (g.H.Shelf.contents c.args.shelf.now) c.ask_shards.result refl c.ask_shards.ensures
    (unmoved c.ask_shards.result c.args.self.now))
