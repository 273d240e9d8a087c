use Rattle.std.proofs.Common.{◌/◌, sym, ◌∙◌}
use Rattle.std.proofs.lemmas.Result.{err_from_is_err_and}
use Rattle.file_parts.specs.Feeding.{place}
use Rattle.index_files.specs.Counts.{known_count}
use Rattle.index_files.specs.HashReading.{key_size}
use Rattle.index_files.proofs.HashReading.{byte_count_fails, codes_next, count_fails, ids_fail}
use Rattle.index_files.proofs.LoadLemmas.{keeps_then, told_kept}
use Rattle.index_files.proofs.reading.hash.rows.read_bucket.Goals as goal

pub returns-in_err-read_wanted-clause-gives : goal.returns-in_err-read_wanted-clause-gives
unfolding known_count
returns-in_err-read_wanted-clause-gives g c = λ told. (
    let old = c.args.hash.now in
    let r = err_from_is_err_and c.from_residual.result c.from_residual.ensures.1 in
    rw (r.1, r.2) (count_fails c.args.role (old.dim / 8) c.args.total old.b (key_size c.args.bucket)
    (place g.H.Shelf.contents c.args.feed.now) c.in_err-read_wanted.field-0.0 old.rows
    (c.in_err-read_wanted.ensures.gives told)))

pub returns-in_err-read_ids-clause-gives : goal.returns-in_err-read_ids-clause-gives
unfolding known_count
returns-in_err-read_ids-clause-gives g c = λ told. (
    let old = c.args.hash.now in
    let r = err_from_is_err_and c.from_residual-in_err-read_ids.result c.from_residual-in_err-read_ids.ensures.1 in
    rw (r.1, r.2) (ids_fail c.args.role (old.dim / 8) c.args.total old.b (key_size c.args.bucket)
    (place g.H.Shelf.contents c.args.feed.now) c.in_err-read_ids.field-0.0 old.rows
    c.in_ok-read_wanted.field-0 (place g.H.Shelf.contents c.read_wanted.new.feed)
    (c.in_ok-read_wanted.ensures.gives told)
    (c.in_err-read_ids.ensures.gives (told_kept _ _ c.in_ok-read_wanted.ensures.shelf.files told))))

pub returns-in_err-read_wanted-2-clause-gives : goal.returns-in_err-read_wanted-2-clause-gives
unfolding known_count
returns-in_err-read_wanted-2-clause-gives g c = λ told. (
    let old = c.args.hash.now in
    let r = err_from_is_err_and c.from_residual-in_err-read_wanted-2.result
    c.from_residual-in_err-read_wanted-2.ensures.1 in
    let first = c.in_ok-read_wanted.ensures.shelf.files in
    let then = keeps_then _ _ _ first c.in_ok-read_ids.ensures.shelf.files in
    rw (r.1, r.2) (byte_count_fails c.args.role (old.dim / 8) c.args.total old.b (key_size c.args.bucket)
    (place g.H.Shelf.contents c.args.feed.now) c.in_err-read_wanted-2.field-0.0 old.rows
    c.in_ok-read_wanted.field-0 c.read_ids.new.ids.items
    (place g.H.Shelf.contents c.read_wanted.new.feed) (place g.H.Shelf.contents c.read_ids.new.feed)
    (c.in_ok-read_wanted.ensures.gives told)
    (c.in_ok-read_ids.ensures.gives (told_kept _ _ first told))
    (rw (sym c.dim-dim.ensures.value, sym c.bytes.ensures.value)
    (c.in_err-read_wanted-2.ensures.gives (told_kept _ _ then told)))))

pub returns-in_err-read_codes-clause-gives : goal.returns-in_err-read_codes-clause-gives
unfolding known_count
returns-in_err-read_codes-clause-gives g c = λ told. (
    let old = c.args.hash.now in
    let r = err_from_is_err_and c.from_residual-in_err-read_codes.result
    c.from_residual-in_err-read_codes.ensures.1 in
    let first = c.in_ok-read_wanted.ensures.shelf.files in
    let then = keeps_then _ _ _ first c.in_ok-read_ids.ensures.shelf.files in
    let last = keeps_then _ _ _ then c.in_ok-read_wanted-2.ensures.shelf.files in
    rw (
      r.1,
      r.2,
      codes_next c.args.role (old.dim / 8) c.args.total old.b (key_size c.args.bucket)
          (place g.H.Shelf.contents c.args.feed.now) old.rows
          c.in_ok-read_wanted.field-0 c.in_ok-read_wanted-2.field-0 c.read_ids.new.ids.items
          (place g.H.Shelf.contents c.read_wanted.new.feed) (place g.H.Shelf.contents c.read_ids.new.feed)
          (place g.H.Shelf.contents c.read_wanted-2.new.feed)
          (c.in_ok-read_wanted.ensures.gives told)
          (c.in_ok-read_ids.ensures.gives (told_kept _ _ first told))
          (rw (sym c.dim-dim.ensures.value, sym c.bytes.ensures.value)
          (c.in_ok-read_wanted-2.ensures.gives (told_kept _ _ then told))),
      sym c.deref.ensures.value,
    ) (c.in_err-read_codes.ensures.gives (told_kept _ _ last told)))

pub returns-clause-gives : goal.returns-clause-gives
unfolding known_count
returns-clause-gives g c = λ told. (
    let old = c.args.hash.now in
    let first = c.in_ok-read_wanted.ensures.shelf.files in
    let then = keeps_then _ _ _ first c.in_ok-read_ids.ensures.shelf.files in
    let last = keeps_then _ _ _ then c.in_ok-read_wanted-2.ensures.shelf.files in
    codes_next c.args.role (old.dim / 8) c.args.total old.b (key_size c.args.bucket)
    (place g.H.Shelf.contents c.args.feed.now) old.rows
    c.in_ok-read_wanted.field-0 c.in_ok-read_wanted-2.field-0 c.read_ids.new.ids.items
    (place g.H.Shelf.contents c.read_wanted.new.feed) (place g.H.Shelf.contents c.read_ids.new.feed)
    (place g.H.Shelf.contents c.read_wanted-2.new.feed)
    (c.in_ok-read_wanted.ensures.gives told)
    (c.in_ok-read_ids.ensures.gives (told_kept _ _ first told))
    (rw (sym c.dim-dim.ensures.value, sym c.bytes.ensures.value)
    (c.in_ok-read_wanted-2.ensures.gives (told_kept _ _ then told)))
    ∙ rw (sym c.deref.ensures.value) (c.in_ok-read_codes.ensures.gives (told_kept _ _ last told)))
