use Rattle.std.proofs.Common.{rules, ◌==◌, is_some}
use Rattle.std.proofs.lemmas.Iterator.Splits.{YieldsList-from_slice_split}
use Rattle.std.proofs.lemmas.Iterator.Search.{all_from_yields_List}
use Rattle.faissb_core.specs.Language.Words.{id}
use Rattle.faissb_core.proofs.language.ids.are_ids.Goals as goal

pub returns : goal.returns
returns c = all_from_yields_List (λ w. is_some (id w)) _ _ c.all.result c.all.ensures.ran
    (YieldsList-from_slice_split _
    (λ b. b == 32) c.args.words.now c.split.ensures.rest c.split.ensures.done c.split.ensures.closure
    (λ x b q call. search rules))
    (λ x b q call. search rules)
