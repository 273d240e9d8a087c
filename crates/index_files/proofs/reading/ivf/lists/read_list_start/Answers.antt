use Rattle.std.proofs.Common.{ℕ, ◌/◌, List}
use Rattle.std.proofs.lemmas.Result.{err_from_is_err_and}
use Rattle.file_parts.specs.declared.reason.Reason.TheVariants as reason
use Rattle.file_parts.specs.Feeding.{place}
use Rattle.file_parts.specs.Fields.{bytes_field, must_be, number}
use Rattle.file_parts.specs.Format.{Format, ◌>>=◌}
use Rattle.index_files.specs.IvfFormat.{list_kind_checks}
use Rattle.index_files.specs.IvfSteps.{list_start}
use Rattle.index_files.proofs.IvfReading.{stops, stops_later}
use Rattle.index_files.proofs.LoadLemmas.{keeps_then, told_kept}
use Rattle.index_files.proofs.reading.ivf.lists.read_list_start.Goals as goal

abbrev sizes_field : ℕ → Format ℕ
sizes_field size = number 8 (must_be size reason.CodeSize)

abbrev nlist_field : ℕ → Format ℕ
nlist_field nlist = number 8 (must_be nlist reason.Number)

abbrev after_kind : ℕ → ℕ → List ℕ → Format ℕ
after_kind nlist size kind = nlist_field nlist >>= λ n. sizes_field size

pub returns-in_err-read_list_kind-clause-gives : goal.returns-in_err-read_list_kind-clause-gives
unfolding list_start
returns-in_err-read_list_kind-clause-gives g c = λ told.
    let r = err_from_is_err_and c.from_residual.result c.from_residual.ensures.1 in
    rw (r.1, r.2) (stops (bytes_field 4 list_kind_checks) (after_kind c.args.nlist (c.args.d / 8))
    (place g.H.Shelf.contents c.args.feed.now) c.in_err-read_list_kind.field-0.0
    (c.in_err-read_list_kind.ensures.gives told))

pub returns-in_err-read_wanted-clause-gives : goal.returns-in_err-read_wanted-clause-gives
unfolding list_start
returns-in_err-read_wanted-clause-gives g c = λ told.
    let r = err_from_is_err_and c.from_residual-in_err-read_wanted.result
    c.from_residual-in_err-read_wanted.ensures.1 in
    let kind = c.in_ok-read_list_kind.ensures in
    let now = told_kept _ _ kind.shelf.files told in
    rw (r.1, r.2) (stops_later (bytes_field 4 list_kind_checks) (after_kind c.args.nlist (c.args.d / 8))
    (place g.H.Shelf.contents c.args.feed.now) (place g.H.Shelf.contents c.read_list_kind.new.feed)
    c.in_ok-read_list_kind.field-0 c.in_err-read_wanted.field-0.0 (kind.gives told)
    (stops (nlist_field c.args.nlist) (λ n. sizes_field (c.args.d / 8))
    (place g.H.Shelf.contents c.read_list_kind.new.feed) c.in_err-read_wanted.field-0.0
    (c.in_err-read_wanted.ensures.gives now)))

pub returns-in_err-code_size-clause-gives : goal.returns-in_err-code_size-clause-gives
unfolding list_start
returns-in_err-code_size-clause-gives g c = λ told.
    let r = err_from_is_err_and c.from_residual-in_err-code_size.result c.from_residual-in_err-code_size.ensures.1 in
    let kind = c.in_ok-read_list_kind.ensures in
    let nlist = c.in_ok-read_wanted.ensures in
    let now = told_kept _ _ kind.shelf.files told in
    let then = told_kept _ _ nlist.shelf.files now in
    rw (r.1, r.2) (stops_later (bytes_field 4 list_kind_checks) (after_kind c.args.nlist (c.args.d / 8))
    (place g.H.Shelf.contents c.args.feed.now) (place g.H.Shelf.contents c.read_list_kind.new.feed)
    c.in_ok-read_list_kind.field-0 c.in_err-code_size.field-0.0 (kind.gives told)
    (stops_later (nlist_field c.args.nlist) (λ n. sizes_field (c.args.d / 8))
    (place g.H.Shelf.contents c.read_list_kind.new.feed) (place g.H.Shelf.contents c.read_wanted.new.feed)
    c.in_ok-read_wanted.field-0 c.in_err-code_size.field-0.0 (nlist.gives now)
    (c.in_err-code_size.ensures.gives then)))
