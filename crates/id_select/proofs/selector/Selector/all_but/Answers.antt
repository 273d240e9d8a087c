use Rattle.std.proofs.Common.{sym, ap}
use Rattle.std.specs.Prelude.{not}
use Rattle.std.specs.Ordering.{int_eq}
use Rattle.std.proofs.lemmas.List.Sorted.{list_any-IsPermutation}
use Rattle.id_select.proofs.selector.Selector.all_but.Goals as goal

pub returns : goal.returns
returns c = λ id.
    ap not (sym (list_any-IsPermutation (int_eq id) c.args.ids.now c.in_ok-list.list c.in_ok-list.ensures))
