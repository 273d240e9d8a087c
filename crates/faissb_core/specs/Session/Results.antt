-- What a command did, and why it did nothing.
use Rattle.std.specs.Prelude.{◌≡◌, Result, Ok, Err}
use Rattle.bcodes.specs.Value.{IndexValue}
use Rattle.outside.specs.Contents.{Files}
use Rattle.outside.specs.declared.trouble.Trouble.{Trouble}
use Rattle.outside.specs.declared.trouble.Trouble.TheVariants as trouble
use Rattle.bcodes.specs.declared.direct_error.DirectError.{DirectError}
use Rattle.bcodes.specs.declared.direct_error.DirectError.TheVariants as direct
use Rattle.faissb_core.specs.declared.reply.refusal.Refusal.TheVariants.{Sequential}
use Rattle.faissb_core.specs.declared.reply.reply.Reply.{Reply}
use Rattle.faissb_core.specs.declared.reply.reply.Reply.TheVariants.{Refused as RefusedReply}
use Rattle.faissb_core.specs.declared.session.stop.Stop.{Stop}
use Rattle.faissb_core.specs.declared.session.stop.Stop.TheVariants.{ShelfFailed, Memory as NoMemory}
use Rattle.faissb_core.specs.declared.session.halt.Halt.{Halt}
use Rattle.faissb_core.specs.declared.session.halt.Halt.TheVariants.{Refused, Memory}
use Rattle.faissb_core.specs.Reply.Answer.{Answer, reply_of}
use Rattle.faissb_core.specs.Machine.Checked.{Checked}
use Rattle.faissb_core.specs.Machine.State.{State, Outcome, leaves, Changed, changed}

-- why a direct map is not kept
abbrev pub halt_of_direct : DirectError → Halt
halt_of_direct direct.NotSequential = Refused Sequential
halt_of_direct direct.Memory = Memory

-- why a call of the shelf did nothing
abbrev pub stop_of : Trouble → Stop
stop_of trouble.Failed = ShelfFailed
stop_of trouble.Memory = NoMemory

-- the checks refuse in this way, unless memory ran out
abbrev pub Refuses : {A : Type 0} → Checked A → Halt → Type 0
Refuses checked (Refused refusal) = checked ≡ Err refusal
Refuses checked Memory = Unit {0}

-- what the checks give is seen in the result
abbrev pub Gives : {A B : Type 0} → (A → B) → Checked B → Result A Halt → Type 0
Gives seen checked (Ok x) = checked ≡ Ok (seen x)
Gives seen checked (Err halt) = Refuses checked halt

-- the checks are passed, and the reply is the answer
pub record IsAnswer (checked : Checked Answer) (reply : Reply) : Type 0 where
  pub answer : Answer
  pub passed : checked ≡ Ok answer
  pub reply_is : reply_of reply ≡ Ok answer

abbrev pub Answers : Checked Answer → Result Reply Halt → Type 0
Answers checked (Ok reply) = IsAnswer checked reply
Answers checked (Err halt) = Refuses checked halt

-- the checks are passed, this is the index after the change, and the reply is its answer
pub record IsChange (checked : Checked Changed) (new : IndexValue) (reply : Reply) : Type 0 where
  pub answer : Answer
  pub passed : checked ≡ changed new answer
  pub reply_is : reply_of reply ≡ Ok answer

abbrev pub Changes : Checked Changed → IndexValue → Result Reply Halt → Type 0
Changes checked new (Ok reply) = IsChange checked new reply
Changes checked new (Err halt) = Refuses checked halt

-- the checks are passed, this is the state after the command, the files stay, and the reply is its answer
pub record IsOutcome (checked : Checked Outcome) (new : State) (files : Files) (reply : Reply) : Type 0 where
  pub answer : Answer
  pub passed : checked ≡ leaves new answer files
  pub reply_is : reply_of reply ≡ Ok answer

abbrev pub Leaves : Checked Outcome → State → Files → Result Reply Halt → Type 0
Leaves checked new files (Ok reply) = IsOutcome checked new files reply
Leaves checked new files (Err halt) = Refuses checked halt

-- a refusal is a reply
abbrev pub settled : Result Reply Halt → Result Reply Stop
settled (Ok reply) = Ok reply
settled (Err (Refused refusal)) = Ok (RefusedReply refusal)
settled (Err Memory) = Err NoMemory
