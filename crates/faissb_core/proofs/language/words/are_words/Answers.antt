use Rattle.std.proofs.Common.{rules, ◌==◌}
use Rattle.std.proofs.lemmas.Iterator.Splits.{YieldsList-from_slice_split}
use Rattle.std.proofs.lemmas.Iterator.Search.{all_from_yields_List}
use Rattle.faissb_core.specs.Language.Words.{is_word}
use Rattle.faissb_core.proofs.language.words.are_words.Goals as goal

pub returns : goal.returns
returns c = all_from_yields_List is_word _ _ c.all.result c.all.ensures.ran
    (YieldsList-from_slice_split _
    (λ b. b == 32) c.args.line.now c.split.ensures.rest c.split.ensures.done c.split.ensures.closure
    (λ x b q call. search rules))
    (λ x b q call. search rules)
