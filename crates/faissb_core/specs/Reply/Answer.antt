-- What an accepted line is answered, as plain data.
use Rattle.std.specs.Prelude.{ℕ, List, [], Bool, slice_index_or, Result, Ok, Err}
use Rattle.bcodes.specs.declared.hit.Hit.{Hit}
use Rattle.any_index.specs.declared.about.About.{About}
use Rattle.faissb_core.specs.declared.reply.refusal.Refusal.{Refusal}
use Rattle.faissb_core.specs.declared.reply.reply.Reply.{Reply}
use Rattle.faissb_core.specs.declared.reply.reply.Reply.TheVariants as reply

-- Added has the codes added and the count then; Held the centroids held and the lists. Found has the hits, the number
-- of codes looked at, and whether the answer is marked as exact. Saved has the bytes of the file, Loaded the count.
-- Sharded has the shards and their codes, Removed the codes that went and the count then.
pub data Answer : Type 0 where
  Quiet : Answer
  Done : Answer
  Added : ℕ → ℕ → Answer
  Held : ℕ → ℕ → Answer
  Found : List Hit → ℕ → Bool → Answer
  Code : List ℕ → Answer
  Saved : ℕ → Answer
  Loaded : ℕ → Answer
  Shown : About → Answer
  Sharded : ℕ → ℕ → Answer
  Removed : ℕ → ℕ → Answer

-- a reply as plain data: an answer or a refusal
abbrev pub reply_of : Reply → Result Answer Refusal
reply_of reply.Silent = Ok Quiet
reply_of reply.Done = Ok Done
reply_of (reply.Added m n) = Ok (Added m n)
reply_of (reply.Held m n) = Ok (Held m n)
reply_of (reply.Found hits lent exact) = Ok (Found hits.items lent exact)
reply_of (reply.Code list) = Ok (Code (slice_index_or list.codes 0 []))
reply_of (reply.Saved n) = Ok (Saved n)
reply_of (reply.Loaded n) = Ok (Loaded n)
reply_of (reply.Shown about) = Ok (Shown about)
reply_of (reply.Sharded m n) = Ok (Sharded m n)
reply_of (reply.Removed m n) = Ok (Removed m n)
reply_of (reply.Refused refusal) = Err refusal
