use Rattle.std.proofs.Common.{sym, subst, ◌≡◌, ◌||◌, false, Err, IsTrue}
use Rattle.std.proofs.lemmas.Result.{err_from_is_err_and}
use Rattle.faissb_core.specs.Language.Lines.{is_load, is_save}
use Rattle.faissb_core.specs.Runs.Progress.{beside}
use Rattle.faissb_core.specs.Runs.LineFailure.{LineFails}
use Rattle.faissb_core.proofs.RunLemmas.Feeding.{not_applied}
use Rattle.faissb_core.proofs.RunLemmas.Progress.{HasFiles-fits}
use Rattle.faissb_core.proofs.runs.running.Running.end_line.Goals as goal

pub returns-in_err-reply-clause-line : goal.returns-in_err-reply-clause-line
returns-in_err-reply-clause-line g c = λ files fits.
    let p = err_from_is_err_and c.from_residual.result c.from_residual.ensures.1 in
    let has = HasFiles-fits _ _ _ fits in
    let kept = rw c.deref.ensures.value at (c.in_err-reply.ensures.kept files has) in
    rw p.1 (subst (λ h. LineFails (beside h files)
    (record { written = g.K.Sink.written c.args.out.now; contents = g.H.Shelf.contents c.args.shelf.now })
    (record { written = g.K.Sink.written c.args.out.now; contents = g.H.Shelf.contents c.apply.new.shelf })
    p.0) c.self.view_is
    (not_applied _ _ _ _ c.in_err-reply.field-0.0 _ p.2 kept
    (λ e. c.in_err-reply.ensures.memory files has (λ i. Err (e i)))
    (λ e. c.in_err-reply.ensures.save_only files has (subst (λ l. is_save l ≡ false) (sym c.deref.ensures.value) e))
    (λ e. subst (λ l. IsTrue (is_save l || is_load l)) c.deref.ensures.value
    (c.in_err-reply.ensures.which (λ i. Err (e i))))))
