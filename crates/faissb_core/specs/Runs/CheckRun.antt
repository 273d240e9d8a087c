-- What the run of `check` leaves, by its status.
use Rattle.std.specs.Prelude.{ℕ, List}
use Rattle.outside.specs.Contents.{Files, Fits}
use Rattle.faissb_core.specs.declared.runs.status.Status.{Status}
use Rattle.faissb_core.specs.Runs.Devices.{Outputs}
use Rattle.faissb_core.specs.Runs.InputEnd.{IsEndStatus}
use Rattle.faissb_core.specs.Runs.ScriptRun.{loads, Leaves}

-- The lines of these bytes are applied and answered as the status says, from the files that the shelf held at the call;
-- no status of a source comes.
pub record IsBytesRun (status : Status) (bytes : List ℕ) (before after : Outputs) : Type 0 where
  pub kind : IsEndStatus status
  pub leaves : (files : Files) → Fits files before.contents (loads bytes) → Leaves status bytes files before after
