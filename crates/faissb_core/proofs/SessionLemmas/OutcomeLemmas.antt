-- What a line does, from what its command did.
use Rattle.std.proofs.Common.{◌≡◌, ℕ, Option, Some, None, Ok, Err, Result, Bool, List, IsTrue, is_err, false}
use Rattle.std.proofs.Common.{refl, sym, ap, ◌∙◌, subst}
use Rattle.std.specs.Result.{OnErr}
use Rattle.bcodes.specs.Value.{IndexValue}
use Rattle.outside.specs.Contents.{Contents, Files, HasFiles, Fits}
use Rattle.faissb_core.specs.declared.reply.reply.Reply.{Reply}
use Rattle.faissb_core.specs.declared.reply.reply.Reply.TheVariants.{Done as DoneReply, Refused as RefusedReply}
use Rattle.faissb_core.specs.declared.reply.refusal.Refusal.{Refusal}
use Rattle.faissb_core.specs.declared.session.halt.Halt.{Halt}
use Rattle.faissb_core.specs.declared.session.halt.Halt.TheVariants.{Refused, Memory}
use Rattle.faissb_core.specs.Language.Words.{Word}
use Rattle.faissb_core.specs.Language.Command.{IndexChange, IndexQuestion, ShardQuestion, New, Change, Ask, AskShards}
use Rattle.faissb_core.specs.Language.Lines.{Line, line_of}
use Rattle.faissb_core.specs.Reply.Answer.{Answer, Done, reply_of}
use Rattle.faissb_core.specs.Machine.Checked.{Checked, ◌>>=◌}
use Rattle.faissb_core.specs.Machine.New.{new_index}
use Rattle.faissb_core.specs.Machine.State.{State, Outcome, Changed, changed, leaves}
use Rattle.faissb_core.specs.Machine.Step.{step, step_with, line_outcome, command_outcome, change, ask, ask_shards}
use Rattle.faissb_core.specs.Session.Results.{Refuses, Answers, IsChange, Changes, Leaves, settled}
use Rattle.faissb_core.specs.Session.Followed.{FollowsStep}

pub fits_files : (files : Files) (contents : Option Contents) (looks : Bool) → Fits files contents looks
    → HasFiles files contents
fits_files files None looks fits = tt
fits_files files (Some contents) looks fits = fits

-- ---- commands

pub new_leaves : (bits : ℕ) (text : Word) (v : IndexValue) (s : State) (files : Files) → new_index bits text ≡ Ok v
    → Leaves (command_outcome (New bits text) s files) (record s { index = Some v }) files (Ok DoneReply)
new_leaves bits text v s files is = record {
  answer = Done;
  passed = ap
      (λ (c : Checked IndexValue). c >>= (λ v. leaves (record s { index = Some v }) Done files)) is;
  reply_is = refl;
}

pub new_refused : (bits : ℕ) (text : Word) (halt : Halt) (s : State) (files : Files)
    → Refuses (new_index bits text) halt → Refuses (command_outcome (New bits text) s files) halt
new_refused bits text (Refused r) s files is = ap
    (λ (c : Checked IndexValue). c >>= (λ v. leaves (record s { index = Some v }) Done files)) is
new_refused bits text Memory s files is = tt

-- a state that holds this index and these shards
abbrev pub holding : IndexValue → List IndexValue → State
holding v vs = record { index = Some v; shards = vs }

pub change_leaves : (c : IndexChange) (v w : IndexValue) (vs : List IndexValue) (files : Files) (done : Result Reply Halt)
    → Changes (change c v) w done
    → Leaves (command_outcome (Change c) (holding v vs) files) (holding w vs) files done
change_leaves c v w vs files (Ok reply) is = record {
  answer = is.answer;
  passed = ap (λ (m : Checked Changed). m >>= (λ d. leaves (holding d.index vs) d.answer files)) is.passed;
  reply_is = is.reply_is;
}
change_leaves c v w vs files (Err (Refused r)) is = ap
    (λ (m : Checked Changed). m >>= (λ d. leaves (holding d.index vs) d.answer files)) is
change_leaves c v w vs files (Err Memory) is = tt

pub answer_leaves : (question : IndexQuestion) (v : IndexValue) (vs : List IndexValue) (files : Files)
    (done : Result Reply Halt)
    → Answers (ask question v) done
    → Leaves (command_outcome (Ask question) (holding v vs) files) (holding v vs) files done
answer_leaves question v vs files (Ok reply) is = record {
  answer = is.answer;
  passed = ap (λ (m : Checked Answer). m >>= (λ a. leaves (holding v vs) a files)) is.passed;
  reply_is = is.reply_is;
}
answer_leaves question v vs files (Err (Refused r)) is = ap
    (λ (m : Checked Answer). m >>= (λ a. leaves (holding v vs) a files)) is
answer_leaves question v vs files (Err Memory) is = tt

pub shards_leave : (question : ShardQuestion) (s : State) (files : Files) (done : Result Reply Halt)
    → Answers (ask_shards question s.shards) done
    → Leaves (command_outcome (AskShards question) s files) s files done
shards_leave question s files (Ok reply) is = record {
  answer = is.answer;
  passed = ap (λ (m : Checked Answer). m >>= (λ a. leaves s a files)) is.passed;
  reply_is = is.reply_is;
}
shards_leave question s files (Err (Refused r)) is = ap (λ (m : Checked Answer). m >>= (λ a. leaves s a files)) is
shards_leave question s files (Err Memory) is = tt

-- what a change came to
pub changes_to : (checked : Checked Changed) (new after : IndexValue) (answer : Answer) (reply : Reply)
    → checked ≡ changed after answer → new ≡ after → reply_of reply ≡ Ok answer → IsChange checked new reply
changes_to checked new after answer reply passes is replies = record {
  answer = answer;
  passed = passes ∙ ap (λ (w : IndexValue). changed w answer) (sym is);
  reply_is = replies;
}
