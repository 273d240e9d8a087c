use Rattle.std.proofs.Common.{◌∙◌, sym}
use Rattle.faissb_core.proofs.LanguageLemmas.GrammarLemmas.{last_question}
use Rattle.faissb_core.proofs.language.grammar.question_named.Goals as goal

pub returns-else-is_named-4 : goal.returns-else-is_named-4
returns-else-is_named-4 c = sym (last_question c.args.name.now c.args.words.now
    (sym c.is_named.ensures ∙ c.if-is_named.false)
    (sym c.is_named-else-is_named.ensures ∙ c.if-is_named-2.false)
    (sym c.is_named-else-is_named-2.ensures ∙ c.if-is_named-3.false)
    (sym c.is_named-else-is_named-3.ensures ∙ c.if-is_named-4.false))
