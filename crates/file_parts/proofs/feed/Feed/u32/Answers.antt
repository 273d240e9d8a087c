use Rattle.file_parts.proofs.FeedLemmas.{number_gives}
use Rattle.file_parts.proofs.feed.Feed.u32.Goals as goal

pub returns-clause-gives : goal.returns-clause-gives
returns-clause-gives g c = λ told.
    number_gives 4 _ _ c.bytes.new.into c.read_u32.result (c.in_ok-bytes.ensures.gives told) c.read_u32.ensures
