use Rattle.std.proofs.lemmas.Result.{err_from_is_err_and}
use Rattle.file_parts.specs.Feeding.{place}
use Rattle.std.proofs.Common.{ℕ, ◌/◌, List, [], ◌∙◌}
use Rattle.file_parts.specs.Fields.{number}
use Rattle.file_parts.specs.Format.{Format, done, ◌>>=◌}
use Rattle.index_files.specs.IvfFormat.{ListSize, sparse_count_checks, sparse_sizes}
use Rattle.index_files.proofs.IvfReading.{step, stops, stops_later}
use Rattle.index_files.proofs.LoadLemmas.{told_kept}
use Rattle.index_files.proofs.reading.ivf.sizes.read_sparse.Goals as goal

abbrev after_count : ℕ → ℕ → ℕ → Format (List ListSize)
after_count nlist total count = sparse_sizes nlist total (count / 2) []

pub returns-in_err-count-clause-gives : goal.returns-in_err-count-clause-gives
returns-in_err-count-clause-gives g c = λ told. (
    let r = err_from_is_err_and c.from_residual.result c.from_residual.ensures.1 in
    rw (r.1, r.2) (stops (number 8 (sparse_count_checks c.args.nlist c.args.total)) (after_count c.args.nlist
    c.args.total) (place g.H.Shelf.contents c.args.feed.now) c.in_err-count.field-0.0 (c.in_err-count.ensures.gives
    told)))

pub returns-in_err-sizes-clause-gives : goal.returns-in_err-sizes-clause-gives
returns-in_err-sizes-clause-gives g c = λ told. (
    let told_1 = told_kept _ _ c.in_ok-count.ensures.shelf.files told in
    let r = err_from_is_err_and c.from_residual-in_err-sizes.result c.from_residual-in_err-sizes.ensures.1 in
    rw (r.1, r.2) (stops_later (number 8 (sparse_count_checks c.args.nlist c.args.total)) (after_count c.args.nlist
    c.args.total) (place g.H.Shelf.contents c.args.feed.now) (place g.H.Shelf.contents c.read_pair_count.new.feed)
    c.in_ok-count.count c.in_err-sizes.field-0.0 (c.in_ok-count.ensures.gives told) (c.in_err-sizes.ensures.gives
    told_1)))

pub returns-clause-gives : goal.returns-clause-gives
returns-clause-gives g c = λ told. (
    let told_1 = told_kept _ _ c.in_ok-count.ensures.shelf.files told in
    step (number 8 (sparse_count_checks c.args.nlist c.args.total)) (after_count c.args.nlist c.args.total) (place
    g.H.Shelf.contents c.args.feed.now) (place g.H.Shelf.contents c.read_pair_count.new.feed) c.in_ok-count.count
    (c.in_ok-count.ensures.gives told)
    ∙ c.in_ok-sizes.ensures.gives told_1)
