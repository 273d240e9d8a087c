use Rattle.std.proofs.lemmas.Result.{err_from_is_err_and}
use Rattle.file_parts.specs.Feeding.{place}
use Rattle.std.proofs.Common.{ℕ, List, Option, Some, ◌∙◌}
use Rattle.file_parts.specs.declared.reason.Reason.TheVariants as reason
use Rattle.file_parts.specs.Fields.{any_number, must_be, number, repeated}
use Rattle.file_parts.specs.Format.{Format, done, ◌>>=◌}
use Rattle.index_files.proofs.IvfReading.{step, stops, stops_later}
use Rattle.index_files.proofs.LoadLemmas.{told_kept}
use Rattle.index_files.proofs.reading.ivf.direct.read_counted.Goals as goal

abbrev as_entries : List ℕ → Format (Option (List ℕ))
as_entries entries = done (Some entries)

abbrev after_count : ℕ → ℕ → Format (Option (List ℕ))
after_count count n = repeated count (any_number 8) >>= as_entries

pub returns-in_err-read_wanted-clause-gives : goal.returns-in_err-read_wanted-clause-gives
returns-in_err-read_wanted-clause-gives g c = λ told. (
    let r = err_from_is_err_and c.from_residual.result c.from_residual.ensures.1 in
    rw (r.1, r.2) (stops (number 8 (must_be c.args.count reason.VectorSize)) (after_count c.args.count) (place
    g.H.Shelf.contents c.args.feed.now) c.in_err-read_wanted.field-0.0 (c.in_err-read_wanted.ensures.gives told)))

pub returns-in_err-entries-clause-gives : goal.returns-in_err-entries-clause-gives
returns-in_err-entries-clause-gives g c = λ told. (
    let told_1 = told_kept _ _ c.in_ok-read_wanted.ensures.shelf.files told in
    let r = err_from_is_err_and c.from_residual-in_err-entries.result c.from_residual-in_err-entries.ensures.1 in
    rw (r.1, r.2) (stops_later (number 8 (must_be c.args.count reason.VectorSize)) (after_count c.args.count) (place
    g.H.Shelf.contents c.args.feed.now) (place g.H.Shelf.contents c.read_wanted.new.feed) c.in_ok-read_wanted.field-0
    c.in_err-entries.field-0.0 (c.in_ok-read_wanted.ensures.gives told) (stops (repeated c.args.count (any_number 8))
    as_entries (place g.H.Shelf.contents c.read_wanted.new.feed) c.in_err-entries.field-0.0
    (c.in_err-entries.ensures.gives told_1))))

pub returns-clause-gives : goal.returns-clause-gives
returns-clause-gives g c = λ told. (
    let told_1 = told_kept _ _ c.in_ok-read_wanted.ensures.shelf.files told in
    step (number 8 (must_be c.args.count reason.VectorSize)) (after_count c.args.count) (place g.H.Shelf.contents
    c.args.feed.now) (place g.H.Shelf.contents c.read_wanted.new.feed) c.in_ok-read_wanted.field-0
    (c.in_ok-read_wanted.ensures.gives told)
    ∙ step (repeated c.args.count (any_number 8)) as_entries (place g.H.Shelf.contents c.read_wanted.new.feed) (place
    g.H.Shelf.contents c.read_entries.new.feed) c.in_ok-entries.entries.items (c.in_ok-entries.ensures.gives told_1))
