use Rattle.file_parts.proofs.FeedLemmas.{number_gives}
use Rattle.file_parts.proofs.feed.Feed.u64.Goals as goal

pub returns-clause-gives : goal.returns-clause-gives
returns-clause-gives g c = λ told.
    number_gives 8 _ _ c.in_ok-bytes.bytes c.read_u64.result (c.in_ok-bytes.ensures.gives told) c.read_u64.ensures
