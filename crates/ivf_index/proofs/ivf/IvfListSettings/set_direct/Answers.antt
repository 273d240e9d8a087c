use Rattle.std.proofs.Common.{map, subst, sym}
use Rattle.bcodes.specs.Value.{ListRow, IvfValue, IsNumbering}
use Rattle.ivf_index.proofs.SettingLemmas.{some_same}
use Rattle.ivf_index.proofs.ivf.IvfListSettings.set_direct.Goals as goal

pub returns-in-Ok-clause-numbered : goal.returns-in-Ok-clause-numbered
returns-in-Ok-clause-numbered g c = λ on v e.
    subst (λ (w : IvfValue). IsNumbering (map (λ (row : ListRow). row.label) w.rows)) (some_same c.args.self.now v e)
    (c.in-Ok.ensures.numbered on)

pub returns-in-Err-clause-only : goal.returns-in-Err-clause-only
returns-in-Err-clause-only g c = λ e v same.
    let no = c.in-Err.ensures.only e in (
      no.0,
      λ h. no.1 (subst (λ (w : IvfValue). IsNumbering (map (λ (row : ListRow). row.label) w.rows))
          (sym (some_same c.args.self.now v same)) h),
    )
