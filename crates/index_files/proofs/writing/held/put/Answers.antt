use Rattle.std.proofs.Common.{ℕ, List, sym, ap, ◌∙◌}
use Rattle.file_parts.specs.Storing.{behind, written}
use Rattle.file_parts.proofs.StoreLemmas.{behind_twice, behind_none}
use Rattle.index_files.proofs.writing.held.put.Goals as goal

pub returns-then-bytes-room-clause-ok : goal.returns-then-bytes-room-clause-ok
returns-then-bytes-room-clause-ok g c =
    let now = written g.H.Shelf.contents c.args.store.now in
    ap (λ (b : List ℕ). behind b now) c.push.ensures ∙ sym (behind_twice c.args.held.now c.args.bytes.now now)

pub returns-clause-ok : goal.returns-clause-ok
returns-clause-ok g c =
    let now = written g.H.Shelf.contents c.bytes.new.self in
    ap (λ (b : List ℕ). behind b now) c.in_ok-write_held.ensures.none ∙ behind_none now
    ∙ c.in_ok-bytes.ensures.ok ∙ ap (behind c.args.bytes.now) c.in_ok-write_held.ensures.ok
