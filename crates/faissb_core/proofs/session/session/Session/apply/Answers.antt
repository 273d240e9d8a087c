use Rattle.std.proofs.Common.{subst}
use Rattle.faissb_core.specs.Machine.Legal.{IsLegalState}
use Rattle.faissb_core.proofs.SessionLemmas.AppliedLemmas.{applied_step, applied_refused, applied_err, applied_command}
use Rattle.faissb_core.proofs.SessionLemmas.AppliedLemmas.{applied_kept, applied_memory, applied_save_only, applied_which}
use Rattle.faissb_core.proofs.SessionLemmas.AppliedLemmas.{applied_marked, applied_exact, said_applies}
use Rattle.faissb_core.proofs.session.session.Session.apply.Goals as goal

pub returns-clause-ok : goal.returns-clause-ok
returns-clause-ok g c =
    applied_step _ _ _ _ _ c.obey.result
    (said_applies _ _ _ _ _ _ c.obey.result c.read_line.ensures c.obey.ensures.applies)

pub returns-clause-refused : goal.returns-clause-refused
returns-clause-refused g c =
    applied_refused _ _ _ _ _ c.obey.result
    (said_applies _ _ _ _ _ _ c.obey.result c.read_line.ensures c.obey.ensures.applies)

pub returns-clause-marked : goal.returns-clause-marked
returns-clause-marked g c =
    applied_marked _ _ _ _ _ c.obey.result
    (said_applies _ _ _ _ _ _ c.obey.result c.read_line.ensures c.obey.ensures.applies)
    (subst IsLegalState c.self.view_is c.know_legal.ensures)

pub returns-clause-within_bound : goal.returns-clause-within_bound
returns-clause-within_bound g c =
    applied_exact _ _ _ _ _ c.obey.result
    (said_applies _ _ _ _ _ _ c.obey.result c.read_line.ensures c.obey.ensures.applies)

pub returns-clause-err : goal.returns-clause-err
returns-clause-err g c =
    applied_err _ _ _ _ _ c.obey.result
    (said_applies _ _ _ _ _ _ c.obey.result c.read_line.ensures c.obey.ensures.applies)

pub returns-clause-memory_for_commands : goal.returns-clause-memory_for_commands
returns-clause-memory_for_commands g c =
    applied_command _ _ _ _ _ c.obey.result
    (said_applies _ _ _ _ _ _ c.obey.result c.read_line.ensures c.obey.ensures.applies)

pub returns-clause-kept : goal.returns-clause-kept
returns-clause-kept g c =
    applied_kept _ _ _ _ _ c.obey.result
    (said_applies _ _ _ _ _ _ c.obey.result c.read_line.ensures c.obey.ensures.applies)

pub returns-clause-memory : goal.returns-clause-memory
returns-clause-memory g c =
    applied_memory _ _ _ _ _ c.obey.result
    (said_applies _ _ _ _ _ _ c.obey.result c.read_line.ensures c.obey.ensures.applies)

pub returns-clause-save_only : goal.returns-clause-save_only
returns-clause-save_only g c =
    applied_save_only _ _ _ _ _ c.obey.result
    (said_applies _ _ _ _ _ _ c.obey.result c.read_line.ensures c.obey.ensures.applies)

pub returns-clause-which : goal.returns-clause-which
returns-clause-which g c =
    applied_which _ _ _ _ _ c.obey.result
    (said_applies _ _ _ _ _ _ c.obey.result c.read_line.ensures c.obey.ensures.applies)
