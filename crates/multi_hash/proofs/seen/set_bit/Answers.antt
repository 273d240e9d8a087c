use Rattle.multi_hash.proofs.MarkLemmas.{bit_set, bit_kept}
use Rattle.multi_hash.proofs.seen.set_bit.Goals as goal

pub returns-clause-set : goal.returns-clause-set
returns-clause-set c = bit_set c.args.page.now c.args.bit c.requires c.told-page

pub returns-clause-others : goal.returns-clause-others
returns-clause-others c = bit_kept c.args.page.now c.args.bit c.requires c.told-page
