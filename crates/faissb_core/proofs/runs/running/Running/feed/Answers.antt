use Rattle.std.proofs.Common.{rules, refl, sym, ◌∙◌}
use Rattle.std.proofs.lemmas.List.{append-nil}
use Rattle.faissb_core.proofs.RunLemmas.Feeding.{Come-more, Come-end, fits-line, feeds_line_fails}
use Rattle.faissb_core.proofs.RunLemmas.Feeding.{feeds_not_held}
use Rattle.faissb_core.proofs.runs.running.Running.feed.Goals as goal

pub loop-line-preserved : goal.loop-line-preserved
loop-line-preserved g c = record {
  line_fits = search rules;
  come = λ files fits.
      let come = c.loop-line.invariant.come files fits in
      let of_line = fits-line _ _ _ _ _ _ _ come c.loop-line.invariant.line_fits c.in-Some.ensures.0 _
      c.in_ok-hold.ensures.ok _ c.in-Some.ensures.1 in
      Come-more _ _ _ _ _ _ _ come c.loop-line.invariant.line_fits c.in-Some.ensures.0 _ c.in_ok-hold.ensures.ok _
      c.in-Some.ensures.1 _ _
      c.in_ok-end_line.ensures.tells (c.in_ok-end_line.ensures.line _ of_line);
  tells = c.in_ok-end_line.ensures.tells ∙ c.loop-line.invariant.tells;
  shelf_same = search rules;
  out_same = search rules;
}

pub returns-in_err-end_line-clause-lines : goal.returns-in_err-end_line-clause-lines
returns-in_err-end_line-clause-lines g c = λ files fits.
    let come = c.loop-line.invariant.come files fits in
    let of_line = fits-line _ _ _ _ _ _ _ come c.loop-line.invariant.line_fits c.in-Some.ensures.0 _
    c.in_ok-hold.ensures.ok _ c.in-Some.ensures.1 in
    feeds_line_fails _ _ _ _ _ _ _ come c.loop-line.invariant.line_fits c.in-Some.ensures.0 _ c.in_ok-hold.ensures.ok _
    c.in-Some.ensures.1 _ _ _ _
    c.from_residual-in_err-end_line.ensures.1 (c.in_err-end_line.ensures.line _ of_line)

pub returns-in_err-hold-clause-lines : goal.returns-in_err-hold-clause-lines
returns-in_err-hold-clause-lines g c = λ files fits.
    feeds_not_held _ _ _ _ _ _ _ (c.loop-line.invariant.come files fits) c.loop-line.invariant.line_fits
    c.in-Some.ensures.0 _ _ _ (sym c.in-Some.ensures.1) c.from_residual.ensures.1

pub returns-in_err-hold-2-clause-lines : goal.returns-in_err-hold-2-clause-lines
returns-in_err-hold-2-clause-lines g c = λ files fits.
    feeds_not_held _ _ _ _ _ _ _ (c.loop-line.invariant.come files fits) c.loop-line.invariant.line_fits
    c.in_default.ensures _ _ _ (append-nil _) c.from_residual-in_err-hold-2.ensures.1

pub returns-clause-lines : goal.returns-clause-lines
returns-clause-lines g c = λ files fits.
    Come-end _ _ _ _ _ _ _ (c.loop-line.invariant.come files fits) c.loop-line.invariant.line_fits c.in_default.ensures
    _ c.in_ok-hold-2.ensures.ok refl
