use Rattle.key_buckets.proofs.DirectLemmas.{set_shown}
use Rattle.key_buckets.proofs.direct.Direct.set.Goals as goal

pub returns : goal.returns
returns c = set_shown c.self.inside.lists.items c.args.self.now c.args.key c.args.list c.self.view_is c.requires.list
