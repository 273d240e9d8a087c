use Rattle.std.proofs.Common.{rules}
use Rattle.std.proofs.lemmas.Fn.{filter_same}
use Rattle.id_select.specs.Removal.{stays}
use Rattle.id_map.proofs.labels.retain_ids.Goals as goal

pub returns : goal.returns
returns c = filter_same _ (stays c.args.sel.now) _ (λ x b f' k. search rules) _ _ c.retain.ensures.filtered
