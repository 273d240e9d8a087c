-- What the words of the command line ask for.
use Rattle.std.specs.Prelude.{ℕ, ◌-◌, ◌^◌, ◌≤◌, List, [], ◌∷◌, codes, Option}
use Rattle.faissb_core.specs.Language.Words.{Word, name, number_within}
use Rattle.faissb_core.specs.Language.Grammar.{Entry, ◌means◌, alone, named, one, two}
use Rattle.faissb_core.specs.declared.runs.words.Run.{Run as ReadRun}
use Rattle.faissb_core.specs.declared.runs.words.Run.TheVariants as read_run

-- what the program does: it runs the script of its source; it loads the file of a name and shows the index; or it asks
-- an index of generated codes, by a seed and the number of codes
pub data Run : Type 0 where
  Script : Run
  Check : Word → Run
  Sample : ℕ → ℕ → Run

abbrev pub runs : List (Entry Run)
runs =
    (codes "script" means alone Script)
    ∷ (codes "check" means one name Check)
    ∷ (codes "sample" means two (number_within 0 (2 ^ 63 - 1)) (number_within 1 1000000) Sample)
    ∷ []

-- the run that the words ask for, where they have one of these forms
abbrev pub run_of : List Word → Option Run
run_of words = named runs words

-- the run that was read
abbrev pub said_run : ReadRun → Run
said_run read_run.Script = Script
said_run (read_run.Check name) = Check name.now
said_run (read_run.Sample seed count) = Sample seed count

-- a sample has at most a million codes
abbrev pub HasFewCodes : ReadRun → Type 0
HasFewCodes read_run.Script = Unit {0}
HasFewCodes (read_run.Check name) = Unit {0}
HasFewCodes (read_run.Sample seed count) = count ≤ 1000000
