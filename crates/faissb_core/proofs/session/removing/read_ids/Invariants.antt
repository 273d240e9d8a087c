use Rattle.std.proofs.Common.{◌≡◌, ◌++◌}
use Rattle.faissb_core.specs.Language.Grammar.{ids_in}
use Rattle.faissb_core.proofs.SessionLemmas.CodesLemmas.{ids_left, ids_text_left}
use Rattle.faissb_core.proofs.session.removing.read_ids.Given as goal

abbrev pub invariant-loop-rest : goal.invariant-loop-rest
invariant-loop-rest l = ids_in l.fn.words.text.now ≡ l.ids.items ++ ids_left l.rest

abbrev pub decreases-loop-rest : goal.decreases-loop-rest
decreases-loop-rest l = ids_text_left l.rest
