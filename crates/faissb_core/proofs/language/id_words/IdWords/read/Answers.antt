use Rattle.std.proofs.Common.{◌∙◌, sym}
use Rattle.faissb_core.proofs.LanguageLemmas.IdLemmas.{some_pairs, pairs_are, pairs_are_not}
use Rattle.faissb_core.proofs.language.id_words.IdWords.read.Goals as goal

pub invariant_of-result : goal.invariant_of-result
invariant_of-result c = record {
  are_pairs = some_pairs c.args.words.now ∙ sym c.are_pairs.ensures ∙ c.if-are_pairs.true;
}

pub returns-then-are_pairs : goal.returns-then-are_pairs
returns-then-are_pairs c = pairs_are c.args.words.now (sym c.are_pairs.ensures ∙ c.if-are_pairs.true)

pub returns-else-are_pairs : goal.returns-else-are_pairs
returns-else-are_pairs c = pairs_are_not c.args.words.now (sym c.are_pairs.ensures ∙ c.if-are_pairs.false)
