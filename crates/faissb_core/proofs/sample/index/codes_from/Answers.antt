use Rattle.std.proofs.Common.{List, ℕ, ap, sym, ◌∙◌, refl, rules, arith}
use Rattle.bcodes.specs.Value.{CodeList}
use Rattle.faissb_core.proofs.SampleLemmas.{codes-more, codes-none}
use Rattle.faissb_core.proofs.sample.index.codes_from.Goals as goal

pub loop-i-init : goal.loop-i-init
loop-i-init c = rw (codes-none c.args.seed c.args.from) c.new-codes.ensures

pub loop-i-preserved : goal.loop-i-preserved
loop-i-preserved c = rw (codes-more c.args.seed c.args.from c.loop-i.i _ refl) (search rules)
