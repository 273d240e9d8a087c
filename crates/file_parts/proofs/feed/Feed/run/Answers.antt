use Rattle.std.proofs.Common.{rules, ◌≡◌, length}
use Rattle.file_parts.specs.Format.{forward}
use Rattle.file_parts.proofs.RunLemmas.{run_given}
use Rattle.file_parts.proofs.feed.Feed.run.Goals as goal

pub returns-in-Some-clause-gives : goal.returns-in-Some-clause-gives
returns-in-Some-clause-gives g c = λ told.
    let feed = c.args.self.now in
    let len : length c.in-Some.bytes.items ≡ c.args.count = search rules in
    let stands : c.saturating_add-self.result ≡ forward feed.at c.args.count = search rules in
    run_given (λ v. v.items) feed.ahead c.read_run.new.ahead c.args.count feed.at _ c.in-Some.bytes
    c.in_ok-bytes.field-0 (g.H.Shelf.contents feed.shelf.now) (g.H.Shelf.contents c.read_run.new.shelf) told
    c.in_ok-bytes.ensures.contents c.in-Some.is len stands
