use Rattle.std.proofs.Common.{◌∙◌, sym, ap}
use Rattle.factory_text.specs.declared.spec.Spec.{Spec}
use Rattle.faissb_core.proofs.SessionLemmas.RoomLemmas.{ivf_is}
use Rattle.faissb_core.proofs.session.settings.require_ivf.Goals as goal

pub returns-in-Ivf : goal.returns-in-Ivf
returns-in-Ivf c =
    let at = ivf_is c.args.index.now c.in-Ivf.field-0 (ap (λ (s : Spec). s.kind) (sym c.spec.ensures) ∙ c.in-Ivf.is) in
    (at.0, at.1)
