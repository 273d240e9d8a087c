-- What a line, some bytes, and the end of the input come to: what is held and left after them, or what failed.
use Rattle.std.specs.Prelude.{List, ℕ, Result, Ok, Err, Bool}
use Rattle.faissb_core.specs.declared.runs.fault.Fault.{Fault}
use Rattle.faissb_core.specs.Runs.Devices.{Outputs}
use Rattle.faissb_core.specs.Runs.Progress.{Held, Progress, ComesTo, end_line, end_text, feed, fed_text}
use Rattle.faissb_core.specs.Runs.LineFailure.{LineFails, FeedFails}
use Rattle.faissb_core.specs.Runs.InputEnd.{InputEnds, LastLineFails}

-- the held line ends
abbrev pub EndsLine : Progress → Held → Outputs → Outputs → Result (Unit {0}) Fault → Type 0
EndsLine p held before after (Ok done) = ComesTo (end_line p) (end_text p) held before after
EndsLine p held before after (Err fault) = LineFails p before after fault

-- more bytes come
abbrev pub Feeds : Progress → List ℕ → Held → Outputs → Outputs → Result (Unit {0}) Fault → Type 0
Feeds p bytes held before after (Ok done) = ComesTo (feed p bytes) (fed_text p bytes) held before after
Feeds p bytes held before after (Err fault) = FeedFails p bytes before after fault

-- the input ends, and it is said whether some line was refused
abbrev pub Finishes : Progress → Outputs → Outputs → Result Bool Fault → Type 0
Finishes p before after (Ok refused) = InputEnds p before after refused
Finishes p before after (Err fault) = LastLineFails p before after fault
