use Rattle.growing_probe.proofs.CertainLemmas.{last_mark}
use Rattle.growing_probe.proofs.GrownLemmas.{grown_least, grown_marked, grown_most}
use Rattle.growing_probe.proofs.laws.grown_is_the_least.Goals as goal

pub returns-clause-within : goal.returns-clause-within
returns-clause-within c = λ v q k. grown_most v q k

pub returns-clause-marked : goal.returns-clause-marked
returns-clause-marked c = λ v q k legal. grown_marked v q k (last_mark v q k legal)

pub returns-clause-least : goal.returns-clause-least
returns-clause-least c = λ v q k flips low. grown_least v q k flips low
