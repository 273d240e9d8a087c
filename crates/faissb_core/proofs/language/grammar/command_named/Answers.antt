use Rattle.std.proofs.Common.{rules, ◌≡◌, ◌∷◌, ◌∙◌, sym, None}
use Rattle.faissb_core.specs.Language.Words.{words_of}
use Rattle.faissb_core.specs.Language.Grammar.{named, changes, questions}
use Rattle.faissb_core.specs.Language.Read.{said_change, said_question, said_shard_question}
use Rattle.faissb_core.proofs.LanguageLemmas.GrammarLemmas.{change_is, question_is, shard_question_is, neither_is}
use Rattle.faissb_core.proofs.language.grammar.command_named.Goals as goal

pub returns-in-Some : goal.returns-in-Some
returns-in-Some c = sym (change_is c.args.name.now (words_of c.args.words.now) (said_change c.in-Some.change)
    (sym c.in-Some.ensures))

pub returns-in-Some-question_named : goal.returns-in-Some-question_named
returns-in-Some-question_named c = sym (question_is c.args.name.now (words_of c.args.words.now)
    (said_question c.in-Some-question_named.question) (sym c.in-Some-question_named.ensures))

pub returns-in-Some-shard_question_named : goal.returns-in-Some-shard_question_named
returns-in-Some-shard_question_named c =
    sym (shard_question_is c.args.name.now (words_of c.args.words.now)
    (said_shard_question c.in-Some-shard_question_named.question) (sym c.in-Some-shard_question_named.ensures))

pub returns-in-None : goal.returns-in-None
returns-in-None c =
    let no_change : named changes (c.args.name.now ∷ words_of c.args.words.now) ≡ None = search rules in
    let no_question : named questions (c.args.name.now ∷ words_of c.args.words.now) ≡ None = search rules in
    sym (neither_is c.args.name.now c.args.words.now (sym c.is_named.ensures ∙ c.if-is_named.false)
    (sym c.is_named-2.ensures ∙ c.if-is_named-2.false) (sym c.is_named-3.ensures ∙ c.if-is_named-3.false)
    no_change no_question (sym c.in-None.ensures))
