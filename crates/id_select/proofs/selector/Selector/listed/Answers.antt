use Rattle.std.proofs.Common.{sym}
use Rattle.std.specs.Ordering.{int_eq}
use Rattle.std.proofs.lemmas.List.Sorted.{list_any-IsPermutation}
use Rattle.id_select.proofs.selector.Selector.listed.Goals as goal

pub returns : goal.returns
returns c = λ id. sym (list_any-IsPermutation (int_eq id) c.args.ids.now c.in_ok-list.list c.in_ok-list.ensures)
