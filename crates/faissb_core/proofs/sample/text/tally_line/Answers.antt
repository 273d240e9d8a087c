use Rattle.std.proofs.Common.{rules, append_assoc}
use Rattle.faissb_core.proofs.sample.text.tally_line.Goals as goal

pub returns : goal.returns
returns c = simp append_assoc (search rules)
