-- The statuses of a run.
use Rattle.std.specs.Prelude.{ℕ, Bool, true, false}
use Rattle.faissb_core.specs.declared.runs.status.Status.{Status}
use Rattle.faissb_core.specs.declared.runs.status.Status.TheVariants.{Fine, Refused, Usage, ScriptFault, OutputFault}
use Rattle.faissb_core.specs.declared.runs.status.Status.TheVariants.{ShelfFault, Memory, TooLong}

abbrev pub status_code : Status → ℕ
status_code Fine = 0
status_code Refused = 1
status_code Usage = 2
status_code ScriptFault = 3
status_code OutputFault = 4
status_code ShelfFault = 5
status_code Memory = 6
status_code TooLong = 7

-- the status of a script that was read to its end, by whether some command was refused
abbrev pub status_for : Bool → Status
status_for false = Fine
status_for true = Refused

-- the run ended before its input did
abbrev pub IsCutShort : Status → Type 0
IsCutShort Fine = ⊥
IsCutShort Refused = ⊥
IsCutShort Usage = ⊥
IsCutShort _ = Unit {0}
