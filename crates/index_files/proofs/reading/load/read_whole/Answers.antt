use Rattle.std.proofs.Common.{◌≡◌, ◌≤◌, ◌∙◌, rules, arith}
use Rattle.std.proofs.lemmas.Result.{err_from_is_err_and}
use Rattle.file_parts.specs.Feeding.{place}
use Rattle.index_files.specs.FileFormat.{file}
use Rattle.index_files.proofs.LoadLemmas.{end_fails, keeps_then, told_kept}
use Rattle.index_files.proofs.reading.load.read_whole.Goals as goal

pub returns-in_err-end-clause-exact : goal.returns-in_err-end-clause-exact
returns-in_err-end-clause-exact g c = λ told. (
    let r = err_from_is_err_and c.from_residual-in_err-end.result c.from_residual-in_err-end.ensures.1 in
    rw (r.1, r.2) (end_fails (λ v. v) c.in_err-end.field-0.0 file
    (place g.H.Shelf.contents c.args.feed.now)
    c.in_ok-index.index (place g.H.Shelf.contents c.read_file.new.feed) (c.in_ok-index.ensures.gives told)
    (c.in_err-end.ensures.gives (told_kept _ _ c.in_ok-index.ensures.shelf.files told))))
