-- What the run of `sample` leaves, by its status.
use Rattle.std.specs.Prelude.{ℕ, List}
use Rattle.std.specs.declared.option.Option.{Option}
use Rattle.std.specs.Io.KnownBytes.{Appends}
use Rattle.faissb_core.specs.declared.runs.status.Status.{Status}
use Rattle.faissb_core.specs.declared.runs.status.Status.TheVariants.{Fine, OutputFault, Memory}
use Rattle.faissb_core.specs.Reply.Sent.{AppendsFront}

-- a status that a sample may end with
abbrev pub IsSampleStatus : Status → Type 0
IsSampleStatus Fine = Unit {0}
IsSampleStatus OutputFault = Unit {0}
IsSampleStatus Memory = Unit {0}
IsSampleStatus _ = ⊥

-- the text is written whole, or a front of it is, from what the sink took before to what it took after
abbrev pub SampleLeaves : Status → List ℕ → Option (List ℕ) → Option (List ℕ) → Type 0
SampleLeaves Fine text before after = Appends before after text
SampleLeaves OutputFault text before after = AppendsFront before after text
SampleLeaves Memory text before after = AppendsFront before after text
SampleLeaves _ text before after = ⊥
