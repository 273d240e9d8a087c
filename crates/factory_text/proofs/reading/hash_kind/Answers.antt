use Rattle.std.proofs.Common.{sym, ◌∙◌}
use Rattle.factory_text.proofs.HashLemmas.{hash_of_one, hash_of_two}
use Rattle.factory_text.proofs.reading.hash_kind.Goals as goal

pub returns-in-None : goal.returns-in-None
returns-in-None c = c.one_number.ensures ∙ sym (hash_of_one _ c.in-None.ensures)

pub returns-in-Some : goal.returns-in-Some
returns-in-Some c = c.two_numbers.ensures ∙ sym (hash_of_two _ _ _ c.in-Some.ensures.0 c.in-Some.ensures.1)
