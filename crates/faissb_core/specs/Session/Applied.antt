-- What a line that is applied leaves of the session and the files.
use Rattle.std.specs.Prelude.{◌≡◌, ◌⊎◌, ◌||◌, false, IsTrue, is_err, Option, Result, Ok, Err}
use Rattle.outside.specs.Contents.{Contents, Files, HasFiles, Fits}
use Rattle.faissb_core.specs.declared.reply.refusal.Refusal.{Refusal}
use Rattle.faissb_core.specs.declared.reply.reply.Reply.{Reply}
use Rattle.faissb_core.specs.declared.session.stop.Stop.{Stop}
use Rattle.faissb_core.specs.declared.session.stop.Stop.TheVariants.{ShelfFailed, Memory}
use Rattle.faissb_core.specs.Language.Lines.{Line, has_command, reads_file, writes_file}
use Rattle.faissb_core.specs.Reply.Answer.{Answer, Loaded, reply_of}
use Rattle.faissb_core.specs.Machine.State.{State}
use Rattle.faissb_core.specs.Machine.Step.{Step, step_with, line_outcome}
use Rattle.faissb_core.specs.Session.Followed.{FollowsStep}

-- what a line that was read does
abbrev pub said_step : Line → State → Files → Step
said_step line s files = step_with s files (line_outcome line s files)

-- a file was loaded, or the line was refused
abbrev pub AnswersLoad : Result Answer Refusal → Type 0
AnswersLoad (Ok (Loaded n)) = Unit {0}
AnswersLoad (Ok answer) = ⊥
AnswersLoad (Err refusal) = Unit {0}

-- Where there is a reply, the step of the line was done. Where the shelf does not tell its files, a line that reads one
-- is answered as a load.
pub record IsAnswered (line : Line) (s new : State) (before after : Option Contents) (reply : Reply) : Type 0 where
  pub step : (files : Files) → Fits files before (reads_file line) → FollowsStep (said_step line s files) new after reply
  pub refused : IsTrue (is_err (reply_of reply)) → new ≡ s
  pub loaded : IsTrue (reads_file line) → AnswersLoad (reply_of reply)

-- Where there is none, the state stays, and the files do, but where the shelf failed in a save.
pub record IsStopped (line : Line) (s new : State) (before after : Option Contents) (stop : Stop) : Type 0 where
  pub state : new ≡ s
  pub command : IsTrue (has_command line)
  pub uses_shelf : stop ≡ ShelfFailed → IsTrue (writes_file line || reads_file line)
  pub kept : (files : Files) → HasFiles files before
      → HasFiles files after ⊎ HasFiles (said_step line s files).files after
  pub memory : (files : Files) → HasFiles files before → stop ≡ Memory → HasFiles files after
  pub save_only : (files : Files) → HasFiles files before → writes_file line ≡ false → HasFiles files after

abbrev pub Applies : Line → State → State → Option Contents → Option Contents → Result Reply Stop → Type 0
Applies line s new before after (Ok reply) = IsAnswered line s new before after reply
Applies line s new before after (Err stop) = IsStopped line s new before after stop
