use Rattle.faissb_core.proofs.LanguageLemmas.WordLemmas.{words_of_last, words_of_first}
use Rattle.faissb_core.proofs.language.words.first_word.Goals as goal

pub returns-in-Some-clause-words : goal.returns-in-Some-clause-words
returns-in-Some-clause-words c = words_of_first _ _ _ c.in-Some.ensures.0 c.in-Some.ensures.1

pub returns-in-None-clause-words : goal.returns-in-None-clause-words
returns-in-None-clause-words c = words_of_last _ c.in-None.ensures
