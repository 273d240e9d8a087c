use Rattle.std.proofs.Common.{ap, not}
use Rattle.faissb_core.proofs.SessionLemmas.LegalLemmas.{bytes_hold, step_follows}
use Rattle.faissb_core.proofs.laws.steps_keep_legal.Goals as goal

pub returns-clause-legal : goal.returns-clause-legal
returns-clause-legal c = λ s files line legal are.
    (step_follows s files line legal).legal (bytes_hold files are)

pub returns-clause-index_stays : goal.returns-clause-index_stays
returns-clause-index_stays c = λ s files line legal keeps some.
    (step_follows s files line legal).some (ap not keeps) some
