use Rattle.faissb_core.proofs.SessionLemmas.StepLemmas.{refused_stays}
use Rattle.faissb_core.proofs.laws.refused_steps_stay.Goals as goal

pub returns-clause-state : goal.returns-clause-state
returns-clause-state c = λ s files line refused. (refused_stays s files line refused).0

pub returns-clause-files : goal.returns-clause-files
returns-clause-files c = λ s files line refused. (refused_stays s files line refused).1
