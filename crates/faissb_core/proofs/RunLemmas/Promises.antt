-- What the machine promises of all scripts.
use Rattle.std.proofs.Common.{ℕ, List}
use Rattle.outside.specs.Contents.{Files}
use Rattle.faissb_core.specs.Language.Lines.{lines}
use Rattle.faissb_core.specs.Machine.Legal.{HoldBytes}
use Rattle.faissb_core.specs.Machine.State.{start}
use Rattle.faissb_core.specs.Machine.Marked.{AllMarkedAreScans, AllWithinBoundAreExact}
use Rattle.faissb_core.proofs.SessionLemmas.LegalLemmas.{bytes_hold, no_shards}
use Rattle.faissb_core.proofs.SessionLemmas.MarkLemmas.{lines_are, lines_exact}

pub marked_are_scans : (bytes : List ℕ) (files : Files) → HoldBytes files
    → AllMarkedAreScans start files (lines bytes)
marked_are_scans bytes files are =
    lines_are start files (lines bytes) (record { index = tt; shards = no_shards }) (bytes_hold files are)

pub within_bound_are_exact : (bytes : List ℕ) (files : Files) → AllWithinBoundAreExact start files (lines bytes)
within_bound_are_exact bytes files = lines_exact start files (lines bytes)
