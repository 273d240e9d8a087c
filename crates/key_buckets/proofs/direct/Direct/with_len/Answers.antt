use Rattle.std.proofs.Common.{map, ap, ◌∙◌}
use Rattle.key_buckets.specs.Direct.{shown}
use Rattle.key_buckets.proofs.DirectLemmas.{none_shown}
use Rattle.key_buckets.proofs.direct.Direct.with_len.Goals as goal

pub returns : goal.returns
returns c = ap (map shown) c.in_ok-lists.ensures ∙ none_shown c.args.n
