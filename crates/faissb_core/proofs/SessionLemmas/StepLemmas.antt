-- What every line keeps.
use Rattle.std.proofs.Common.{◌≡◌, ℕ, List, IsTrue, is_err, Ok, Err, refl}
use Rattle.outside.specs.Contents.{Files}
use Rattle.faissb_core.specs.Language.Lines.{line_of}
use Rattle.faissb_core.specs.Machine.Checked.{Checked}
use Rattle.faissb_core.specs.Machine.State.{State, Outcome}
use Rattle.faissb_core.specs.Machine.Step.{step_with, step, line_outcome}

step_with_stays : (s : State) (files : Files) (c : Checked Outcome) → IsTrue (is_err (step_with s files c).reply)
    → ((step_with s files c).state ≡ s) × ((step_with s files c).files ≡ files)
step_with_stays s files (Ok done) refused = cc
step_with_stays s files (Err e) refused = (refl, refl)

-- a refused line changes nothing
pub refused_stays : (s : State) (files : Files) (line : List ℕ) → IsTrue (is_err (step s files line).reply)
    → ((step s files line).state ≡ s) × ((step s files line).files ≡ files)
unfolding step
refused_stays s files line refused = step_with_stays s files (line_outcome (line_of line) s files) refused
