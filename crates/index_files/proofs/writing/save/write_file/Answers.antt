use Rattle.std.proofs.Common.{rules, ◌≡◌, ℕ, List, length, sym, ap, ◌∙◌}
use Rattle.file_parts.specs.Storing.{Written, behind, written, made_in, put_behind}
use Rattle.index_files.specs.Canon.{canon}
use Rattle.index_files.proofs.LengthLaws.{canon-few, all-written}
use Rattle.index_files.proofs.writing.save.write_file.Goals as goal

pub returns-clause-bytes : goal.returns-clause-bytes
unfolding behind
returns-clause-bytes g c =
    let v = c.args.index.now in
    let whole = c.in_ok-write_index.ensures.ok ∙ ap (behind (canon v)) c.new-store.ensures.written in
    all-written (length (canon v)) c.at.result (canon-few v c.dim-dim.ensures.legal)
    (c.at.ensures ∙ ap (λ (w : Written). w.at) whole)

pub returns-clause-ok : goal.returns-clause-ok
unfolding behind
returns-clause-ok g c =
    let v = c.args.index.now in
    let whole = c.in_ok-write_index.ensures.ok ∙ ap (behind (canon v)) c.new-store.ensures.written in
    let made : made_in (g.H.Shelf.contents c.write_index.new.store.shelf.now)
    ≡ put_behind (canon v) (made_in (g.H.Shelf.contents c.args.shelf.now)) =
    ap (λ (w : Written). w.made) whole in
    search (rules, made)
