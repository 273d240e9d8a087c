use Rattle.std.proofs.Common.{◌∙◌, sym}
use Rattle.faissb_core.proofs.LanguageLemmas.IdLemmas.{some_ids, ids_are, ids_are_not}
use Rattle.faissb_core.proofs.language.ids.Ids.read.Goals as goal

pub invariant_of-result : goal.invariant_of-result
invariant_of-result c = record {
  are_ids = some_ids c.args.words.now ∙ sym c.are_ids.ensures ∙ c.if-are_ids.true;
}

pub returns-then-are_ids : goal.returns-then-are_ids
returns-then-are_ids c = ids_are c.args.words.now (sym c.are_ids.ensures ∙ c.if-are_ids.true)

pub returns-else-are_ids : goal.returns-else-are_ids
returns-else-are_ids c = ids_are_not c.args.words.now (sym c.are_ids.ensures ∙ c.if-are_ids.false)
