use Rattle.std.proofs.Common.{rules}
use Rattle.std.proofs.lemmas.Int.{to_z-of_z}
use Rattle.std.specs.Int.{w32}
use Rattle.std.specs.Prelude.{FitsSigned}
use Rattle.file_parts.proofs.FeedLemmas.{int_gives}
use Rattle.file_parts.proofs.feed.Feed.i32.Goals as goal

pub returns-clause-gives : goal.returns-clause-gives
returns-clause-gives g c = λ told.
    let fits : FitsSigned w32 c.read_i32.result = search rules in
    rw (to_z-of_z w32 c.read_i32.result fits)
    (int_gives _ _ c.bytes.new.into c.read_i32.result (c.in_ok-bytes.ensures.gives told) c.read_i32.ensures)
