use Rattle.std.proofs.Common.{rules, ◌≡◌, refl, ap, Err}
use Rattle.bcodes.specs.Settings.{with_ivf}
use Rattle.faissb_core.specs.Reply.Answer.{Done}
use Rattle.faissb_core.specs.Session.Results.{halt_of_direct}
use Rattle.faissb_core.proofs.SessionLemmas.OutcomeLemmas.{changes_to}
use Rattle.faissb_core.proofs.SessionLemmas.RoomLemmas.{direct_fails, direct_set}
use Rattle.faissb_core.proofs.session.settings.set_direct.Goals as goal

pub returns-in_err-set_direct-clause-ok : goal.returns-in_err-set_direct-clause-ok
returns-in_err-set_direct-clause-ok c =
    let ivf = c.in_ok-require_ivf.ensures in
    let error = c.in_err-set_direct.field-0.0 in
    let result : c.from_residual-in_err-set_direct.result ≡ Err (halt_of_direct error) = search rules in
    rw result (direct_fails c.args.index.now ivf.0 c.args.on error ivf.1
    (λ is. c.in_err-set_direct.ensures.only (ap Err is) ivf.0 ivf.1))

pub returns-clause-ok : goal.returns-clause-ok
returns-clause-ok c =
    let v = c.args.index.now in
    let ivf = c.in_ok-require_ivf.ensures in
    changes_to _ c.set_direct.new.self (with_ivf (record ivf.0 { direct = c.args.on }) v) Done _
    (direct_set v ivf.0 c.args.on ivf.1 (λ on. c.in_ok-set_direct.ensures.numbered on ivf.0 ivf.1))
    (c.in_ok-set_direct.ensures.ok ivf.0 ivf.1) refl
