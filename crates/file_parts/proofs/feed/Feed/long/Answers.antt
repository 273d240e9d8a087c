use Rattle.std.proofs.Common.{rules, ◌≡◌, length}
use Rattle.file_parts.specs.Format.{forward}
use Rattle.file_parts.proofs.FeedLemmas.{ahead_gives}
use Rattle.file_parts.proofs.feed.Feed.long.Goals as goal

pub returns-in-Some-clause-gives : goal.returns-in-Some-clause-gives
returns-in-Some-clause-gives g c = λ told.
    let feed = c.args.self.now in
    let len : length c.in-Some.bytes ≡ 8 = search rules in
    let stands : c.saturating_add-self.result ≡ forward feed.at 8 = search rules in
    ahead_gives 8 feed.at _ c.in-Some.bytes c.take_number.new.self feed.ahead (g.H.Shelf.contents feed.shelf.now) told
    len c.in-Some.ensures.some stands
