use Rattle.std.proofs.Common.{ℕ, ◌+◌, ◌-◌, List, ◌∙◌}
use Rattle.std.proofs.lemmas.Result.{err_from_is_err_and}
use Rattle.file_parts.specs.Feeding.{place}
use Rattle.file_parts.specs.Fields.{number}
use Rattle.file_parts.specs.Format.{Format, done, ◌>>=◌}
use Rattle.index_files.specs.IvfFormat.{ListSize, list_checks, sparse_size_checks}
use Rattle.index_files.proofs.IvfReading.{step, stops, stops_later}
use Rattle.index_files.proofs.LoadLemmas.{keeps_then, told_kept}
use Rattle.index_files.proofs.reading.ivf.sizes.read_pair.Goals as goal

abbrev list_field : ℕ → List ListSize → Format ℕ
list_field nlist before = number 8 (list_checks nlist before)

abbrev size_field : ℕ → ℕ → List ListSize → Format ℕ
size_field total n before = number 8 (sparse_size_checks total n before)

abbrev as_pair : ℕ → ℕ → Format ListSize
as_pair list size = done (record { list = list; size = size })

abbrev after_list : ℕ → ℕ → List ListSize → ℕ → Format ListSize
after_list total n before list = size_field total n before >>= as_pair list

pub returns-in_err-list-clause-gives : goal.returns-in_err-list-clause-gives
returns-in_err-list-clause-gives g c = λ before len rows next told.
    let r = err_from_is_err_and c.from_residual.result c.from_residual.ensures.1 in
    let n : ℕ = c.args.pairs - (c.args.done + 1) in
    rw (r.1, r.2) (stops (list_field c.args.nlist before) (after_list c.args.total n before)
    (place g.H.Shelf.contents c.args.feed.now) c.in_err-list.field-0.0
    (c.in_err-list.ensures.gives before next told))

pub returns-in_err-size-clause-gives : goal.returns-in_err-size-clause-gives
returns-in_err-size-clause-gives g c = λ before len rows next told.
    let r = err_from_is_err_and c.from_residual-in_err-size.result c.from_residual-in_err-size.ensures.1 in
    let n : ℕ = c.args.pairs - (c.args.done + 1) in
    let list = c.in_ok-list.ensures in
    let now = told_kept _ _ list.shelf.files told in
    rw (r.1, r.2) (stops_later (list_field c.args.nlist before) (after_list c.args.total n before)
    (place g.H.Shelf.contents c.args.feed.now) (place g.H.Shelf.contents c.read_list_number.new.feed) c.in_ok-list.list
    c.in_err-size.field-0.0 (list.gives before next told)
    (stops (size_field c.args.total n before) (as_pair c.in_ok-list.list)
    (place g.H.Shelf.contents c.read_list_number.new.feed) c.in_err-size.field-0.0
    (c.in_err-size.ensures.gives before len rows now)))

pub returns-clause-gives : goal.returns-clause-gives
returns-clause-gives g c = λ before len rows next told.
    let n : ℕ = c.args.pairs - (c.args.done + 1) in
    let list = c.in_ok-list.ensures in
    let now = told_kept _ _ list.shelf.files told in
    step (list_field c.args.nlist before) (after_list c.args.total n before)
    (place g.H.Shelf.contents c.args.feed.now) (place g.H.Shelf.contents c.read_list_number.new.feed) c.in_ok-list.list
    (list.gives before next told)
    ∙ step (size_field c.args.total n before) (as_pair c.in_ok-list.list)
    (place g.H.Shelf.contents c.read_list_number.new.feed) (place g.H.Shelf.contents c.read_pair_size.new.feed)
    c.in_ok-size.size (c.in_ok-size.ensures.gives before len rows now)
