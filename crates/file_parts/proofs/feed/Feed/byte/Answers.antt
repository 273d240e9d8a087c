use Rattle.std.proofs.Common.{get_or, arith}
use Rattle.file_parts.proofs.FeedLemmas.{number_gives}
use Rattle.file_parts.proofs.feed.Feed.byte.Goals as goal

pub returns-clause-gives : goal.returns-clause-gives
returns-clause-gives g c = λ told.
    let byte = get_or c.bytes.new.into 0 0 in
    number_gives 1 _ _ c.bytes.new.into byte (c.in_ok-bytes.ensures.gives told) (omega arith)
