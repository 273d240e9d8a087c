use Rattle.std.proofs.Common.{◌≡◌, ◌∙◌, Ok, Err, [], sym, ap}
use Rattle.std.proofs.lemmas.Result.{err_from_is_err_and}
use Rattle.file_parts.specs.Feeding.{bytes_from}
use Rattle.index_files.proofs.LoadLemmas.{loaded_ok, loaded_only, loaded_bad, loaded_first}
use Rattle.index_files.proofs.reading.load.decode.Goals as goal

pub returns-clause-ok : goal.returns-clause-ok
returns-clause-ok g c = λ told fits.
    loaded_ok (Ok c.in_ok-index.index) (bytes_from [] (g.H.Shelf.contents c.args.shelf.now))
    (c.in_ok-index.ensures.exact told) fits

pub returns-clause-only : goal.returns-clause-only
returns-clause-only g c = λ told v is.
    loaded_only (Ok c.in_ok-index.index) (bytes_from [] (g.H.Shelf.contents c.args.shelf.now)) v
    (c.in_ok-index.ensures.exact told) is

pub returns-clause-first : goal.returns-clause-first
returns-clause-first g c = λ told f is.
    loaded_first (Ok c.in_ok-index.index) (bytes_from [] (g.H.Shelf.contents c.args.shelf.now)) f
    (c.in_ok-index.ensures.exact told) is

pub returns-in_err-index-clause-only : goal.returns-in_err-index-clause-only
returns-in_err-index-clause-only g c = λ told v is. (
    let r = err_from_is_err_and c.from_residual.result c.from_residual.ensures.1 in
    rw (r.1, r.2) (loaded_only (Err c.in_err-index.field-0.0) (bytes_from [] (g.H.Shelf.contents c.args.shelf.now)) v
    (c.in_err-index.ensures.exact told) is))

pub returns-in_err-index-clause-first : goal.returns-in_err-index-clause-first
returns-in_err-index-clause-first g c = λ told f is. (
    let r = err_from_is_err_and c.from_residual.result c.from_residual.ensures.1 in
    rw (r.1, r.2) (loaded_first (Err c.in_err-index.field-0.0) (bytes_from [] (g.H.Shelf.contents c.args.shelf.now)) f
    (c.in_err-index.ensures.exact told) is))

pub returns-in_err-index-clause-bad : goal.returns-in_err-index-clause-bad
returns-in_err-index-clause-bad g c = λ told f e. (
    let r = err_from_is_err_and c.from_residual.result c.from_residual.ensures.1 in
    loaded_bad (Err c.in_err-index.field-0.0) (bytes_from [] (g.H.Shelf.contents c.args.shelf.now)) f
    (c.in_err-index.ensures.exact told) (sym (r.1 ∙ ap (λ x. Err x) r.2) ∙ e))
