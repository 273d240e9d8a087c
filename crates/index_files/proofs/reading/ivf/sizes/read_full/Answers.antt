use Rattle.std.proofs.lemmas.Result.{err_from_is_err_and}
use Rattle.file_parts.specs.Feeding.{place}
use Rattle.std.proofs.Common.{ℕ, List, [], ◌∙◌}
use Rattle.file_parts.specs.declared.reason.Reason.TheVariants as reason
use Rattle.file_parts.specs.Fields.{must_be, number}
use Rattle.file_parts.specs.Format.{Format, done, ◌>>=◌}
use Rattle.index_files.specs.IvfFormat.{ListSize}
use Rattle.index_files.specs.IvfSteps.{filled_sizes}
use Rattle.index_files.proofs.IvfReading.{step, stops, stops_later}
use Rattle.index_files.proofs.LoadLemmas.{told_kept}
use Rattle.index_files.proofs.reading.ivf.sizes.read_full.Goals as goal

abbrev after_count : ℕ → ℕ → ℕ → Format (List ListSize)
after_count nlist total n = filled_sizes nlist total nlist []

pub returns-in_err-read_wanted-clause-gives : goal.returns-in_err-read_wanted-clause-gives
returns-in_err-read_wanted-clause-gives g c = λ told. (
    let r = err_from_is_err_and c.from_residual.result c.from_residual.ensures.1 in
    rw (r.1, r.2) (stops (number 8 (must_be c.args.nlist reason.VectorSize)) (after_count c.args.nlist c.args.total)
    (place g.H.Shelf.contents c.args.feed.now) c.in_err-read_wanted.field-0.0 (c.in_err-read_wanted.ensures.gives
    told)))

pub returns-in_err-sizes-clause-gives : goal.returns-in_err-sizes-clause-gives
returns-in_err-sizes-clause-gives g c = λ told. (
    let told_1 = told_kept _ _ c.in_ok-read_wanted.ensures.shelf.files told in
    let r = err_from_is_err_and c.from_residual-in_err-sizes.result c.from_residual-in_err-sizes.ensures.1 in
    rw (r.1, r.2) (stops_later (number 8 (must_be c.args.nlist reason.VectorSize)) (after_count c.args.nlist
    c.args.total) (place g.H.Shelf.contents c.args.feed.now) (place g.H.Shelf.contents c.read_wanted.new.feed)
    c.in_ok-read_wanted.field-0 c.in_err-sizes.field-0.0 (c.in_ok-read_wanted.ensures.gives told)
    (c.in_err-sizes.ensures.gives told_1)))

pub returns-clause-gives : goal.returns-clause-gives
returns-clause-gives g c = λ told. (
    let told_1 = told_kept _ _ c.in_ok-read_wanted.ensures.shelf.files told in
    step (number 8 (must_be c.args.nlist reason.VectorSize)) (after_count c.args.nlist c.args.total) (place
    g.H.Shelf.contents c.args.feed.now) (place g.H.Shelf.contents c.read_wanted.new.feed) c.in_ok-read_wanted.field-0
    (c.in_ok-read_wanted.ensures.gives told)
    ∙ c.in_ok-sizes.ensures.gives told_1)
