-- What the session did with a line.
use Rattle.std.specs.Prelude.{◌≡◌, List, Option}
use Rattle.bcodes.specs.Value.{IndexValue}
use Rattle.outside.specs.Contents.{Contents, HasFiles}
use Rattle.faissb_core.specs.declared.reply.reply.Reply.{Reply}
use Rattle.faissb_core.specs.Reply.Answer.{reply_of}
use Rattle.faissb_core.specs.Machine.State.{State}
use Rattle.faissb_core.specs.Machine.Step.{Step}

-- the state of a session that holds this index, if there is one, and these shards
abbrev pub state_of : Option IndexValue → List IndexValue → State
state_of index shards = record { index = index; shards = shards }

-- this step was done: the state and the files are those after it, and the reply is its reply
pub record FollowsStep (done : Step) (new : State) (contents : Option Contents) (reply : Reply) : Type 0 where
  pub state : new ≡ done.state
  pub reply_is : reply_of reply ≡ done.reply
  pub files : HasFiles done.files contents
