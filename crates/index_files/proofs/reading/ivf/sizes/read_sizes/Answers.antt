use Rattle.std.proofs.Common.{◌≡◌, ℕ, List, true, false, sym, ◌∙◌, if◌then◌else◌}
use Rattle.std.specs.Prelude.{codes}
use Rattle.std.specs.Str.{bytes_eq}
use Rattle.std.proofs.lemmas.Result.{err_from_is_err_and}
use Rattle.file_parts.specs.Feeding.{place}
use Rattle.file_parts.specs.Fields.{bytes_field}
use Rattle.file_parts.specs.Format.{Format, ◌>>=◌}
use Rattle.index_files.specs.IvfFormat.{ListSize, form_checks, full_form, list_sizes, sparse_form}
use Rattle.index_files.proofs.IvfReading.{stops_later}
use Rattle.index_files.proofs.LoadLemmas.{told_kept}
use Rattle.index_files.proofs.reading.ivf.sizes.read_sizes.Goals as goal

abbrev after_form : ℕ → ℕ → List ℕ → Format (List ListSize)
after_form nlist total form =
    if bytes_eq form (codes "full") then full_form nlist total else sparse_form nlist total

pub returns-in_err-sizes-clause-gives : goal.returns-in_err-sizes-clause-gives
unfolding list_sizes
returns-in_err-sizes-clause-gives g c = λ told. (
    let now = told_kept _ _ c.in_ok-form.ensures.shelf.files told in
    let full : bytes_eq c.in_ok-form.form (codes "full") ≡ true = sym c.is.ensures ∙ c.if-is.true in
    let r = err_from_is_err_and c.from_residual-in_err-sizes.result c.from_residual-in_err-sizes.ensures.1 in
    rw (r.1, r.2) (stops_later (bytes_field 4 form_checks) (after_form c.args.nlist c.args.total)
    (place g.H.Shelf.contents c.args.feed.now) (place g.H.Shelf.contents c.read_form.new.feed) c.in_ok-form.form
    c.in_err-sizes.field-0.0 (c.in_ok-form.ensures.gives told) (rw full (c.in_err-sizes.ensures.gives now))))

pub returns-in_err-sizes-2-clause-gives : goal.returns-in_err-sizes-2-clause-gives
unfolding list_sizes
returns-in_err-sizes-2-clause-gives g c = λ told. (
    let now = told_kept _ _ c.in_ok-form.ensures.shelf.files told in
    let sparse : bytes_eq c.in_ok-form.form (codes "full") ≡ false = sym c.is.ensures ∙ c.if-is.false in
    let r = err_from_is_err_and c.from_residual-in_err-sizes-2.result c.from_residual-in_err-sizes-2.ensures.1 in
    rw (r.1, r.2) (stops_later (bytes_field 4 form_checks) (after_form c.args.nlist c.args.total)
    (place g.H.Shelf.contents c.args.feed.now) (place g.H.Shelf.contents c.read_form.new.feed) c.in_ok-form.form
    c.in_err-sizes-2.field-0.0 (c.in_ok-form.ensures.gives told) (rw sparse (c.in_err-sizes-2.ensures.gives now))))
