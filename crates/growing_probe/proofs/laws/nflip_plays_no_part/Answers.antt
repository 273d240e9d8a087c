use Rattle.std.proofs.Common.{refl}
use Rattle.multi_hash.specs.Maps.{map_key, map_keys}
use Rattle.growing_probe.specs.Grown.{grown}
use Rattle.growing_probe.proofs.laws.nflip_plays_no_part.Goals as goal

pub returns-clause-grown : goal.returns-clause-grown
unfolding grown
returns-clause-grown c = λ v q k n. refl

pub returns-clause-asked : goal.returns-clause-asked
unfolding map_keys map_key
returns-clause-asked c = λ v flips n. refl
