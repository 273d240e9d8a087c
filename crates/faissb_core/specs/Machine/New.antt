-- new: an index that holds nothing, in place of the one before.
use Rattle.std.specs.Prelude.{ℕ, Ok}
use Rattle.bcodes.specs.Ranges.{is_dim}
use Rattle.bcodes.specs.Value.{IndexValue}
use Rattle.factory_text.specs.declared.spec_error.SpecError.{SpecError}
use Rattle.factory_text.specs.declared.spec_error.SpecError.TheVariants as error
use Rattle.factory_text.specs.Printing.{fits}
use Rattle.factory_text.specs.Reading.{read_spec}
use Rattle.any_index.specs.Specs.{empty}
use Rattle.faissb_core.specs.declared.reply.factory_word.FactoryWord.{FactoryWord}
use Rattle.faissb_core.specs.declared.reply.factory_word.FactoryWord.TheVariants as word
use Rattle.faissb_core.specs.declared.reply.refusal.Refusal.TheVariants.{Dim, Factory}
use Rattle.faissb_core.specs.Language.Words.{Word}
use Rattle.faissb_core.specs.Machine.Checked.{Checked, demand◌else◌, accept◌else◌, ◌>>=◌, ◌>>◌}

abbrev pub word_of : SpecError → FactoryWord
word_of error.Unknown = word.Unknown
word_of error.Number = word.Number
word_of error.LeftOut = word.LeftOut
word_of error.Nested = word.Nested

abbrev pub new_index : ℕ → Word → Checked IndexValue
new_index bits text = do
  demand is_dim bits else Dim
  spec ← accept read_spec text else (λ e. Factory (word_of e))
  demand fits spec bits else Factory word.Misfit
  Ok (empty spec bits)
