use Rattle.std.proofs.lemmas.Result.{err_from_is_err_and}
use Rattle.file_parts.specs.Feeding.{place}
use Rattle.std.proofs.Common.{ℕ, ◌-◌, ◌^◌, ◌∙◌}
use Rattle.bcodes.specs.Value.{CodeList, IvfValue}
use Rattle.file_parts.specs.declared.role.Role.{Role}
use Rattle.file_parts.specs.declared.role.Role.TheVariants.{Quantizer}
use Rattle.file_parts.specs.Fields.{HeadValue, header, in_range, number}
use Rattle.file_parts.specs.Format.{Format, ◌>>=◌}
use Rattle.file_parts.specs.Heads.{view_head}
use Rattle.index_files.specs.FlatFormat.{flat_inside, flat_value}
use Rattle.index_files.specs.IvfFormat.{ivf_body}
use Rattle.index_files.specs.IvfSteps.{ivf_lists, list_start}
use Rattle.index_files.proofs.IvfReading.{step, stops, stops_later}
use Rattle.index_files.proofs.LoadLemmas.{told_kept}
use Rattle.index_files.proofs.reading.ivf.read_ivf.Goals as goal

abbrev after_quantizer : Role → HeadValue → ℕ → ℕ → CodeList → Format IvfValue
after_quantizer role head nlist nprobe quantizer = ivf_lists role head nlist nprobe quantizer.codes

abbrev after_nprobe : Role → HeadValue → ℕ → ℕ → Format IvfValue
after_nprobe role head nlist nprobe =
    flat_inside (Quantizer head.dim nlist head.count head.flag) >>= after_quantizer role head nlist nprobe

abbrev after_nlist : Role → HeadValue → ℕ → Format IvfValue
after_nlist role head nlist = number 8 (in_range 1 (2 ^ 63 - 1)) >>= after_nprobe role head nlist

abbrev after_head : Role → HeadValue → Format IvfValue
after_head role head = number 8 (in_range 1 4194304) >>= after_nlist role head

pub returns-in_err-head-clause-gives : goal.returns-in_err-head-clause-gives
unfolding ivf_body ivf_lists list_start
returns-in_err-head-clause-gives g c = λ told. (
    let r = err_from_is_err_and c.from_residual.result c.from_residual.ensures.1 in
    rw (r.1, r.2) (stops (header c.args.role) (after_head c.args.role) (place g.H.Shelf.contents c.args.feed.now)
    c.in_err-head.field-0.0 (c.in_err-head.ensures.gives told)))

pub returns-in_err-nlist-clause-gives : goal.returns-in_err-nlist-clause-gives
unfolding ivf_body ivf_lists list_start
returns-in_err-nlist-clause-gives g c = λ told. (
    let told_1 = told_kept _ _ c.in_ok-head.ensures.shelf.files told in
    let r = err_from_is_err_and c.from_residual-in_err-nlist.result c.from_residual-in_err-nlist.ensures.1 in
    rw (r.1, r.2) (stops_later (header c.args.role) (after_head c.args.role) (place g.H.Shelf.contents
    c.args.feed.now) (place g.H.Shelf.contents c.head.new.self) (view_head c.in_ok-head.head)
    c.in_err-nlist.field-0.0 (c.in_ok-head.ensures.gives told) (stops (number 8 (in_range 1 4194304)) (after_nlist
    c.args.role (view_head c.in_ok-head.head)) (place g.H.Shelf.contents c.head.new.self) c.in_err-nlist.field-0.0
    (c.in_err-nlist.ensures.gives told_1))))

pub returns-in_err-nprobe-clause-gives : goal.returns-in_err-nprobe-clause-gives
unfolding ivf_body ivf_lists list_start
returns-in_err-nprobe-clause-gives g c = λ told. (
    let told_1 = told_kept _ _ c.in_ok-head.ensures.shelf.files told in
    let told_2 = told_kept _ _ c.in_ok-nlist.ensures.shelf.files told_1 in
    let r = err_from_is_err_and c.from_residual-in_err-nprobe.result c.from_residual-in_err-nprobe.ensures.1 in
    rw (r.1, r.2) (stops_later (header c.args.role) (after_head c.args.role) (place g.H.Shelf.contents
    c.args.feed.now) (place g.H.Shelf.contents c.head.new.self) (view_head c.in_ok-head.head)
    c.in_err-nprobe.field-0.0 (c.in_ok-head.ensures.gives told) (stops_later (number 8 (in_range 1 4194304))
    (after_nlist c.args.role (view_head c.in_ok-head.head)) (place g.H.Shelf.contents c.head.new.self) (place
    g.H.Shelf.contents c.read_nlist.new.feed) c.in_ok-nlist.nlist c.in_err-nprobe.field-0.0
    (c.in_ok-nlist.ensures.gives told_1) (stops (number 8 (in_range 1 (2 ^ 63 - 1))) (after_nprobe c.args.role
    (view_head c.in_ok-head.head) c.in_ok-nlist.nlist) (place g.H.Shelf.contents c.read_nlist.new.feed)
    c.in_err-nprobe.field-0.0 (c.in_err-nprobe.ensures.gives told_2)))))

pub returns-in_err-quantizer-clause-gives : goal.returns-in_err-quantizer-clause-gives
unfolding ivf_body ivf_lists list_start
returns-in_err-quantizer-clause-gives g c = λ told. (
    let told_1 = told_kept _ _ c.in_ok-head.ensures.shelf.files told in
    let told_2 = told_kept _ _ c.in_ok-nlist.ensures.shelf.files told_1 in
    let told_3 = told_kept _ _ c.in_ok-nprobe.ensures.shelf.files told_2 in
    let r = err_from_is_err_and c.from_residual-in_err-quantizer.result c.from_residual-in_err-quantizer.ensures.1 in
    rw (r.1, r.2) (stops_later (header c.args.role) (after_head c.args.role) (place g.H.Shelf.contents
    c.args.feed.now) (place g.H.Shelf.contents c.head.new.self) (view_head c.in_ok-head.head)
    c.in_err-quantizer.field-0.0 (c.in_ok-head.ensures.gives told) (stops_later (number 8 (in_range 1 4194304))
    (after_nlist c.args.role (view_head c.in_ok-head.head)) (place g.H.Shelf.contents c.head.new.self) (place
    g.H.Shelf.contents c.read_nlist.new.feed) c.in_ok-nlist.nlist c.in_err-quantizer.field-0.0
    (c.in_ok-nlist.ensures.gives told_1) (stops_later (number 8 (in_range 1 (2 ^ 63 - 1))) (after_nprobe c.args.role
    (view_head c.in_ok-head.head) c.in_ok-nlist.nlist) (place g.H.Shelf.contents c.read_nlist.new.feed) (place
    g.H.Shelf.contents c.read_nprobe.new.feed) c.in_ok-nprobe.nprobe c.in_err-quantizer.field-0.0
    (c.in_ok-nprobe.ensures.gives told_2) (stops (flat_inside (Quantizer c.in_ok-head.head.dim c.in_ok-nlist.nlist
    c.in_ok-head.head.count c.in_ok-head.head.flag)) (after_quantizer c.args.role (view_head c.in_ok-head.head)
    c.in_ok-nlist.nlist c.in_ok-nprobe.nprobe) (place g.H.Shelf.contents c.read_nprobe.new.feed)
    c.in_err-quantizer.field-0.0 (c.in_err-quantizer.ensures.gives told_3))))))

pub returns-in_err-ivf-clause-gives : goal.returns-in_err-ivf-clause-gives
unfolding ivf_body ivf_lists list_start
returns-in_err-ivf-clause-gives g c = λ told. (
    let told_1 = told_kept _ _ c.in_ok-head.ensures.shelf.files told in
    let told_2 = told_kept _ _ c.in_ok-nlist.ensures.shelf.files told_1 in
    let told_3 = told_kept _ _ c.in_ok-nprobe.ensures.shelf.files told_2 in
    let told_4 = told_kept _ _ c.in_ok-quantizer.ensures.shelf.files told_3 in
    let r = err_from_is_err_and c.from_residual-in_err-ivf.result c.from_residual-in_err-ivf.ensures.1 in
    rw (r.1, r.2) (stops_later (header c.args.role) (after_head c.args.role) (place g.H.Shelf.contents
    c.args.feed.now) (place g.H.Shelf.contents c.head.new.self) (view_head c.in_ok-head.head) c.in_err-ivf.field-0.0
    (c.in_ok-head.ensures.gives told) (stops_later (number 8 (in_range 1 4194304)) (after_nlist c.args.role
    (view_head c.in_ok-head.head)) (place g.H.Shelf.contents c.head.new.self) (place g.H.Shelf.contents
    c.read_nlist.new.feed) c.in_ok-nlist.nlist c.in_err-ivf.field-0.0 (c.in_ok-nlist.ensures.gives told_1)
    (stops_later (number 8 (in_range 1 (2 ^ 63 - 1))) (after_nprobe c.args.role (view_head c.in_ok-head.head)
    c.in_ok-nlist.nlist) (place g.H.Shelf.contents c.read_nlist.new.feed) (place g.H.Shelf.contents
    c.read_nprobe.new.feed) c.in_ok-nprobe.nprobe c.in_err-ivf.field-0.0 (c.in_ok-nprobe.ensures.gives told_2)
    (stops_later (flat_inside (Quantizer c.in_ok-head.head.dim c.in_ok-nlist.nlist c.in_ok-head.head.count
    c.in_ok-head.head.flag)) (after_quantizer c.args.role (view_head c.in_ok-head.head) c.in_ok-nlist.nlist
    c.in_ok-nprobe.nprobe) (place g.H.Shelf.contents c.read_nprobe.new.feed) (place g.H.Shelf.contents
    c.read_quantizer.new.feed) (flat_value c.in_ok-quantizer.quantizer.dim c.in_ok-quantizer.quantizer.centroids)
    c.in_err-ivf.field-0.0 (c.in_ok-quantizer.ensures.gives told_3) (c.in_err-ivf.ensures.gives told_4))))))

pub returns-clause-gives : goal.returns-clause-gives
unfolding ivf_body ivf_lists list_start
returns-clause-gives g c = λ told. (
    let told_1 = told_kept _ _ c.in_ok-head.ensures.shelf.files told in
    let told_2 = told_kept _ _ c.in_ok-nlist.ensures.shelf.files told_1 in
    let told_3 = told_kept _ _ c.in_ok-nprobe.ensures.shelf.files told_2 in
    let told_4 = told_kept _ _ c.in_ok-quantizer.ensures.shelf.files told_3 in
    step (header c.args.role) (after_head c.args.role) (place g.H.Shelf.contents c.args.feed.now) (place
    g.H.Shelf.contents c.head.new.self) (view_head c.in_ok-head.head) (c.in_ok-head.ensures.gives told)
    ∙ step (number 8 (in_range 1 4194304)) (after_nlist c.args.role (view_head c.in_ok-head.head)) (place
    g.H.Shelf.contents c.head.new.self) (place g.H.Shelf.contents c.read_nlist.new.feed) c.in_ok-nlist.nlist
    (c.in_ok-nlist.ensures.gives told_1)
    ∙ step (number 8 (in_range 1 (2 ^ 63 - 1))) (after_nprobe c.args.role (view_head c.in_ok-head.head)
    c.in_ok-nlist.nlist) (place g.H.Shelf.contents c.read_nlist.new.feed) (place g.H.Shelf.contents
    c.read_nprobe.new.feed) c.in_ok-nprobe.nprobe (c.in_ok-nprobe.ensures.gives told_2)
    ∙ step (flat_inside (Quantizer c.in_ok-head.head.dim c.in_ok-nlist.nlist c.in_ok-head.head.count
    c.in_ok-head.head.flag)) (after_quantizer c.args.role (view_head c.in_ok-head.head) c.in_ok-nlist.nlist
    c.in_ok-nprobe.nprobe) (place g.H.Shelf.contents c.read_nprobe.new.feed) (place g.H.Shelf.contents
    c.read_quantizer.new.feed) (flat_value c.in_ok-quantizer.quantizer.dim c.in_ok-quantizer.quantizer.centroids)
    (c.in_ok-quantizer.ensures.gives told_3)
    ∙ c.in_ok-ivf.ensures.gives told_4)
