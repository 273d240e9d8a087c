-- What the mark `exact` promises.
use Rattle.std.specs.Prelude.{◌≡◌, ◌≤◌, ◌+◌, ◌*◌, ℕ, List, [], ◌∷◌, true, Some, Ok, Err}
use Rattle.bcodes.specs.declared.hit.Hit.{Hit}
use Rattle.bcodes.specs.Value.{MultiValue, IndexValue, code_size}
use Rattle.bcodes.specs.Settings.{multi_in}
use Rattle.bcodes.specs.Answers.{scan_best, scan_within}
use Rattle.shard_set.specs.Joined.{joined}
use Rattle.outside.specs.Contents.{Files}
use Rattle.faissb_core.specs.declared.reply.refusal.Refusal.TheVariants.{Line as NoQuery, NoIndex}
use Rattle.faissb_core.specs.Language.Words.{Word}
use Rattle.faissb_core.specs.Language.Command.{IndexQuestion, Search, Range, Nearest, Reconstruct, Show, Ask}
use Rattle.faissb_core.specs.Language.Command.{ShardQuestion, ShardSearch, ShardRange, AskShards}
use Rattle.faissb_core.specs.Language.Lines.{Line, Whole, line_of}
use Rattle.faissb_core.specs.Reply.Answer.{Answer, Found}
use Rattle.faissb_core.specs.Machine.Checked.{Checked, given◌else◌, ◌>>=◌}
use Rattle.faissb_core.specs.Machine.State.{State, index_of, code_of}
use Rattle.faissb_core.specs.Machine.Step.{step}

-- the hits of a scan of all rows
abbrev pub best_scan : ℕ → Word → IndexValue → Checked (List Hit)
best_scan k word v = do
  q ← code_of (code_size v) word
  Ok (scan_best v q k)

abbrev pub range_scan : ℕ → Word → IndexValue → Checked (List Hit)
range_scan radius word v = do
  q ← code_of (code_size v) word
  Ok (scan_within v q radius)

abbrev pub question_scan : IndexQuestion → IndexValue → Checked (List Hit)
question_scan (Search k word) v = best_scan k word v
question_scan (Range radius word) v = range_scan radius word v
question_scan (Nearest k word) v = best_scan k word v
question_scan (Reconstruct label) v = Err NoQuery
question_scan Show v = Err NoQuery

-- the same of all shards as one index
abbrev pub shard_scan : ShardQuestion → IndexValue → Checked (List Hit)
shard_scan (ShardSearch k word) v = best_scan k word v
shard_scan (ShardRange radius word) v = range_scan radius word v

-- what a line is answered by a full scan, where it is a query
abbrev pub scan_of : Line → State → Checked (List Hit)
scan_of (Whole (Ask question)) s = do
  v ← index_of s
  question_scan question v
scan_of (Whole (AskShards question)) s = do
  v ← given joined s.shards else NoIndex
  shard_scan question v
scan_of line s = Err NoQuery

-- hits that are marked as exact are those of the full scan
abbrev pub MarkedIsScan : Checked (List Hit) → Checked Answer → Type 0
MarkedIsScan scan (Ok (Found hits lent true)) = scan ≡ Ok hits
MarkedIsScan scan reply = Unit {0}

-- what a line is answered has P, for each of some lines
abbrev pub AllReplies : (List ℕ → State → Checked Answer → Type 0) → State → Files → List (List ℕ) → Type 0
AllReplies P s files [] = Unit {0}
AllReplies P s files (line ∷ more) =
    let done = step s files line in
    P line s done.reply × AllReplies P done.state done.files more

abbrev pub AllMarkedAreScans : State → Files → List (List ℕ) → Type 0
AllMarkedAreScans s files lines =
    AllReplies (λ line s reply. MarkedIsScan (scan_of (line_of line) s) reply) s files lines

-- a range search of a MultiHash, plain or under outer ids, whose radius is at most the number of maps times one more
-- than the number of flips
abbrev pub IsWithinBound : Line → State → Type 0
IsWithinBound (Whole (Ask (Range radius word))) s =
    (v : IndexValue) × (multi : MultiValue) × (s.index ≡ Some v) × (multi_in v ≡ Some multi)
    × (radius ≤ multi.nhash * (multi.nflip + 1))
IsWithinBound line s = ⊥

-- hits, where there are some, are marked as exact
abbrev pub IsNotPartial : Checked Answer → Type 0
IsNotPartial (Ok (Found hits lent exact)) = exact ≡ true
IsNotPartial reply = Unit {0}

abbrev pub AllWithinBoundAreExact : State → Files → List (List ℕ) → Type 0
AllWithinBoundAreExact s files lines =
    AllReplies (λ line s reply. IsWithinBound (line_of line) s → IsNotPartial reply) s files lines
