-- What the run of a script leaves, by its status.
use Rattle.std.specs.Prelude.{◌≡◌, ◌<◌, ◌≤◌, ◌+◌, ◌-◌, ◌^◌, ◌⊎◌, ◌||◌, ◌==◌, ℕ, List, [], Bool, true, false, IsTrue}
use Rattle.std.specs.Prelude.{length, take, count_by, slice_index_or}
use Rattle.std.specs.List.{list_any}
use Rattle.std.specs.Io.KnownBytes.{Appends, Consumes, IsAtEnd}
use Rattle.outside.specs.Causes.{RisesBy}
use Rattle.outside.specs.Contents.{Files, HasFiles, Fits}
use Rattle.faissb_core.specs.declared.runs.status.Status.{Status}
use Rattle.faissb_core.specs.declared.runs.status.Status.TheVariants.{Fine, Refused, Usage, ScriptFault, OutputFault}
use Rattle.faissb_core.specs.declared.runs.status.Status.TheVariants.{ShelfFault, Memory, TooLong}
use Rattle.faissb_core.specs.Language.Lines.{is_load, is_save, lines}
use Rattle.faissb_core.specs.Machine.State.{start}
use Rattle.faissb_core.specs.Machine.Script.{steps, text_of, files_after, script_text, script_files, script_refuses}
use Rattle.faissb_core.specs.Runs.Limits.{script_limit, read_limit}
use Rattle.faissb_core.specs.Runs.Devices.{Input, Outputs}

-- whether some line reads a file
abbrev pub loads : List ℕ → Bool
loads bytes = list_any is_load (lines bytes)

-- the text of the replies to the first n lines, and the files after them
abbrev pub text_to : ℕ → List ℕ → Files → List ℕ
text_to n bytes files = text_of (steps start files (take n (lines bytes)))

abbrev pub files_to : ℕ → List ℕ → Files → Files
files_to n bytes files = files_after start files (take n (lines bytes))

-- line n, counted from 0
abbrev pub line_at : ℕ → List ℕ → List ℕ
line_at n bytes = slice_index_or (lines bytes) n []

-- how many line feeds there are, each of which ends a line
abbrev pub line_feeds : List ℕ → ℕ
line_feeds bytes = count_by (λ b. b == 10) bytes

-- the first n lines are applied and answered whole, and no more
pub record AnswersFirst (n : ℕ) (bytes : List ℕ) (files : Files) (before after : Outputs) : Type 0 where
  pub text : Appends before.written after.written (text_to n bytes files)
  pub shelf : HasFiles (files_to n bytes files) after.contents

-- the script is applied and answered whole, and has a refusal or none
pub record AnswersAll (refused : Bool) (bytes : List ℕ) (files : Files) (before after : Outputs) : Type 0 where
  pub text : Appends before.written after.written (script_text bytes files)
  pub shelf : HasFiles (script_files bytes files) after.contents
  pub refuses : script_refuses bytes files ≡ refused

-- the first `done` lines are applied, the replies to all of them but the last are written whole, and of the last reply
-- a front is
pub record AnswersFront (bytes : List ℕ) (files : Files) (before after : Outputs) : Type 0 where
  pub done : ℕ
  pub shelf : HasFiles (files_to done bytes files) after.contents
  pub len : ℕ
  pub text : Appends before.written after.written (take len (script_text bytes files))
  pub least : length (text_to (done - 1) bytes files) ≤ len
  pub most : len ≤ length (text_to done bytes files)

-- the first `done` lines are applied and answered whole, and the next line saves or loads: the shelf failed in it, and
-- a save may have changed the files or not
pub record ShelfFailsAfter (bytes : List ℕ) (files : Files) (before after : Outputs) : Type 0 where
  pub done : ℕ
  pub text : Appends before.written after.written (text_to done bytes files)
  pub uses_shelf : IsTrue (is_save (line_at done bytes) || is_load (line_at done bytes))
  pub shelf : HasFiles (files_to done bytes files) after.contents
      ⊎ (IsTrue (is_save (line_at done bytes)) × HasFiles (files_to (done + 1) bytes files) after.contents)

-- how far the input was read, where these bytes were taken
pub record ReadsAll (bytes : List ℕ) (after : Input) : Type 0 where
  pub end : IsAtEnd after.left
  pub fits : length bytes ≤ script_limit

abbrev pub Reads : Status → List ℕ → Input → Type 0
Reads Fine bytes after = ReadsAll bytes after
Reads Refused bytes after = ReadsAll bytes after
Reads Usage bytes after = ⊥
Reads ScriptFault bytes after = length bytes ≤ script_limit
Reads TooLong bytes after = script_limit < length bytes
Reads _ bytes after = Unit {0}

-- what was written, and what is left of the files
abbrev pub Leaves : Status → List ℕ → Files → Outputs → Outputs → Type 0
Leaves Fine bytes files before after = AnswersAll false bytes files before after
Leaves Refused bytes files before after = AnswersAll true bytes files before after
Leaves Usage bytes files before after = ⊥
Leaves ScriptFault bytes files before after = AnswersFirst (line_feeds bytes) bytes files before after
Leaves TooLong bytes files before after = AnswersFirst (line_feeds bytes) bytes files before after
Leaves OutputFault bytes files before after = AnswersFront bytes files before after
Leaves ShelfFault bytes files before after = ShelfFailsAfter bytes files before after
Leaves Memory bytes files before after = AnswersFront bytes files before after

-- The run took these bytes, and applied and answered them as its status says, from the files that the shelf held at the
-- call. Where the shelf does not tell them, this holds of any files as long as no line reads one.
pub record IsScriptRun (status : Status) (input new_input : Input) (before after : Outputs) : Type 0 where
  pub bytes : List ℕ
  pub consumed : Consumes input.left new_input.left bytes
  pub count : RisesBy input.taken new_input.taken (length bytes)
  pub few : length bytes ≤ script_limit + read_limit
  pub reads : Reads status bytes new_input
  pub leaves : (files : Files) → Fits files before.contents (loads bytes) → Leaves status bytes files before after

-- more than n, or the last value of the type
abbrev pub IsPast : ℕ → ℕ → ℕ → Type 0
IsPast n before now = (before + n < now) ⊎ (2 ^ 64 - 1 ≤ now)
