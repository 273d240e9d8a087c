use Rattle.std.proofs.Common.{◌≡◌, map, Some, OnOk, sym, subst}
use Rattle.bcodes.specs.Value.{ListRow, IvfValue, Bare, IsNumbering}
use Rattle.bcodes.specs.Settings.{ivf_in}
use Rattle.any_index.specs.declared.inner_index.InnerIndex.{InnerIndex}
use Rattle.any_index.specs.Kinds.{inner_value}
use Rattle.any_index.proofs.inner_index.InnerIndexListSettings.set_direct.Goals as goal

pub returns-in-Ivf-clause-numbered : goal.returns-in-Ivf-clause-numbered
returns-in-Ivf-clause-numbered c = λ on.
    subst (λ (x : InnerIndex). OnOk c.set_direct.result ((v : IvfValue) → ivf_in (Bare (inner_value x)) ≡ Some v
    → IsNumbering (map (λ (row : ListRow). row.label) v.rows))) (sym c.in-Ivf.is) (c.set_direct.ensures.numbered on)
