use Rattle.std.proofs.Common.{sym, ◌∙◌}
use Rattle.factory_text.proofs.SpecLemmas.{read_canonical, read_numbers}
use Rattle.factory_text.proofs.reading.read_bytes.Goals as goal

pub returns-clause-canonical : goal.returns-clause-canonical
returns-clause-canonical c = read_canonical _ _ (c.read_under.ensures ∙ sym c.cut_prefix-prefix.ensures)

pub returns-clause-numbers : goal.returns-clause-numbers
returns-clause-numbers c = read_numbers _ _ (c.read_under.ensures ∙ sym c.cut_prefix-prefix.ensures)
