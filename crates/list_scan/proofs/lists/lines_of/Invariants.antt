use Rattle.std.proofs.Common.{◌-◌}
use Rattle.list_scan.proofs.lists.lines_of.Given as goal

abbrev pub decreases-loop-at : goal.decreases-loop-at
decreases-loop-at l = l.end - l.at
