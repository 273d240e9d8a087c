use Rattle.std.proofs.Common.{rules}
use Rattle.std.proofs.lemmas.Int.{to_z-of_z}
use Rattle.std.specs.Int.{w64}
use Rattle.std.specs.Prelude.{FitsSigned}
use Rattle.file_parts.proofs.FeedLemmas.{signed_gives}
use Rattle.file_parts.proofs.feed.Feed.i64.Goals as goal

pub returns-clause-gives : goal.returns-clause-gives
returns-clause-gives g c = λ told.
    let fits : FitsSigned w64 c.read_i64.result = search rules in
    rw (to_z-of_z w64 c.read_i64.result fits)
    (signed_gives 8 _ _ c.in_ok-bytes.bytes c.read_i64.result (c.in_ok-bytes.ensures.gives told) c.read_i64.ensures)
