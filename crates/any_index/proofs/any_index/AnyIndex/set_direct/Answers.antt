use Rattle.std.proofs.Common.{◌≡◌, map, Some, OnOk, sym, ap, ◌∙◌, subst}
use Rattle.bcodes.specs.Value.{ListRow, IvfValue, IndexValue, IsNumbering}
use Rattle.bcodes.specs.Settings.{ivf_in}
use Rattle.any_index.specs.Held.{index_value}
use Rattle.any_index.proofs.any_index.AnyIndex.set_direct.Goals as goal
use Rattle.any_index.proofs.any_index.AnyIndex.set_direct.Goals.{in-Plain, in-Mapped}

pub returns-clause-numbered : goal.returns-clause-numbered
returns-clause-numbered c = λ on.
    elim c.match-self.branch [
      | in-Plain w ↦ rw w.result-is
          (subst (λ (x : IndexValue). OnOk w.set_direct.result ((v : IvfValue) → ivf_in x ≡ Some v → IsNumbering (map (λ (row : ListRow). row.label) v.rows)))
          (sym (ap index_value w.in-Plain.is) ∙ c.self.view_is) (w.set_direct.ensures.numbered on))
      | in-Mapped w ↦ rw w.result-is
          (subst (λ (x : IndexValue). OnOk w.set_direct-in-Mapped.result ((v : IvfValue) → ivf_in x ≡ Some v → IsNumbering (map (λ (row : ListRow). row.label) v.rows)))
          (sym (ap index_value w.in-Mapped.is) ∙ c.self.view_is) (w.set_direct-in-Mapped.ensures.numbered on))
    ]
