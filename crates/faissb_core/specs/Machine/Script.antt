-- The plain machine: what a script is answered, and what it leaves.
use Rattle.std.specs.Prelude.{ℕ, List, [], ◌∷◌, ◌++◌, Bool, is_err, codes}
use Rattle.std.specs.List.{flat_map, list_any}
use Rattle.outside.specs.Contents.{Files}
use Rattle.faissb_core.specs.Language.Lines.{lines}
use Rattle.faissb_core.specs.Language.Words.{Word}
use Rattle.faissb_core.specs.Reply.Text.{reply_text}
use Rattle.faissb_core.specs.Machine.State.{State, start}
use Rattle.faissb_core.specs.Machine.Step.{Step, step}

-- what some lines do, one after the other
abbrev pub steps : State → Files → List (List ℕ) → List Step
steps s files [] = []
steps s files (line ∷ more) = let done = step s files line in done ∷ steps done.state done.files more

-- the text of all replies, and whether one of them is a refusal
abbrev pub text_of : List Step → List ℕ
text_of done = flat_map (λ d. reply_text d.reply) done

abbrev pub has_refusal : List Step → Bool
has_refusal done = list_any (λ d. is_err d.reply) done

-- the state and the files after some lines
abbrev pub state_after : State → Files → List (List ℕ) → State
state_after s files [] = s
state_after s files (line ∷ more) = let done = step s files line in state_after done.state done.files more

abbrev pub files_after : State → Files → List (List ℕ) → Files
files_after s files [] = files
files_after s files (line ∷ more) = let done = step s files line in files_after done.state done.files more

-- a whole script, from the start
abbrev pub script_steps : List ℕ → Files → List Step
script_steps bytes files = steps start files (lines bytes)

abbrev pub script_text : List ℕ → Files → List ℕ
script_text bytes files = text_of (script_steps bytes files)

abbrev pub script_files : List ℕ → Files → Files
script_files bytes files = files_after start files (lines bytes)

abbrev pub script_refuses : List ℕ → Files → Bool
script_refuses bytes files = has_refusal (script_steps bytes files)

-- the script that `check` runs
abbrev pub check_script : Word → List ℕ
check_script name = codes "load " ++ name ++ codes "\nshow\n"
