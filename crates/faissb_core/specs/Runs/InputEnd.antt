-- What the end of the input leaves of a run.
use Rattle.std.specs.Prelude.{◌≡◌, ◌≢◌, [], Bool, true, false}
use Rattle.std.specs.Io.KnownBytes.{Appends}
use Rattle.outside.specs.Contents.{HasFiles}
use Rattle.faissb_core.specs.declared.runs.fault.Fault.{Fault}
use Rattle.faissb_core.specs.declared.runs.fault.Fault.TheVariants.{Shelf, Output, Memory as LineMemory}
use Rattle.faissb_core.specs.declared.runs.status.Status.{Status}
use Rattle.faissb_core.specs.declared.runs.status.Status.TheVariants.{Fine, Refused, OutputFault, ShelfFault, Memory}
use Rattle.faissb_core.specs.Runs.Devices.{Outputs}
use Rattle.faissb_core.specs.Runs.Progress.{Progress, last, last_text}
use Rattle.faissb_core.specs.Runs.LineFailure.{LineFails}

-- a status that the end of the input may give
abbrev pub IsEndStatus : Status → Type 0
IsEndStatus Fine = Unit {0}
IsEndStatus Refused = Unit {0}
IsEndStatus OutputFault = Unit {0}
IsEndStatus ShelfFault = Unit {0}
IsEndStatus Memory = Unit {0}
IsEndStatus _ = ⊥

-- the held line, where there is one, is applied and answered
pub record InputEnds (p : Progress) (before after : Outputs) (refused : Bool) : Type 0 where
  pub text : Appends before.written after.written (last_text p)
  pub shelf : HasFiles (last p).files after.contents
  pub refuses : (last p).held.refused ≡ refused

-- there is one, and it fails
pub record LastLineFails (p : Progress) (before after : Outputs) (fault : Fault) : Type 0 where
  pub is_line : p.held.line ≢ []
  pub line : LineFails p before after fault

-- by status, for a run that has come to p
abbrev pub EndLeaves : Status → Progress → Outputs → Outputs → Type 0
EndLeaves Fine p before after = InputEnds p before after false
EndLeaves Refused p before after = InputEnds p before after true
EndLeaves OutputFault p before after = LastLineFails p before after Output
EndLeaves ShelfFault p before after = LastLineFails p before after Shelf
EndLeaves Memory p before after = LastLineFails p before after LineMemory
EndLeaves _ p before after = ⊥
