-- What a line does.
use Rattle.std.specs.Prelude.{ℕ, List, [], length, None, Some, Ok, Err}
use Rattle.bcodes.specs.Value.{IndexValue, count_of}
use Rattle.shard_set.specs.Joined.{joined_count}
use Rattle.outside.specs.Contents.{Files, put}
use Rattle.faissb_core.specs.declared.reply.refusal.Refusal.TheVariants.{Long, Line as NoCommand}
use Rattle.faissb_core.specs.Language.Command.{IndexChange, Add, AddIds, Centroids, Nprobe, Nflip, MaxCodes, DirectMap}
use Rattle.faissb_core.specs.Language.Command.{Remove}
use Rattle.faissb_core.specs.Language.Command.{IndexQuestion, Search, Range, Nearest, Reconstruct, Show}
use Rattle.faissb_core.specs.Language.Command.{ShardQuestion, ShardSearch, ShardRange}
use Rattle.faissb_core.specs.Language.Command.{Command, New, Load, Save, Shard, Unshard, Change, Ask, AskShards}
use Rattle.faissb_core.specs.Language.Lines.{Line, TooLong, Silent, Whole, Broken, line_of}
use Rattle.faissb_core.specs.Reply.Answer.{Answer, Quiet, Done, Loaded, Saved, Sharded}
use Rattle.faissb_core.specs.Machine.Checked.{Checked, ◌>>=◌}
use Rattle.faissb_core.specs.Machine.State.{State, Outcome, leaves, Changed, index_of}
use Rattle.faissb_core.specs.Machine.New.{new_index}
use Rattle.faissb_core.specs.Machine.Adding.{add, add_ids, give_centroids}
use Rattle.faissb_core.specs.Machine.Settings.{set_nprobe, set_nflip, set_max_codes, set_direct}
use Rattle.faissb_core.specs.Machine.Queries.{search, range, nearest, reconstruct, show}
use Rattle.faissb_core.specs.Machine.Removing.{remove}
use Rattle.faissb_core.specs.Machine.Files.{loaded, spelled}
use Rattle.faissb_core.specs.Machine.Shards.{with_shard, shard_search, shard_range}

-- what a change makes of the index
abbrev pub change : IndexChange → IndexValue → Checked Changed
change (Add words) v = add words v
change (AddIds pairs) v = add_ids pairs v
change (Centroids words) v = give_centroids words v
change (Nprobe n) v = set_nprobe n v
change (Nflip n) v = set_nflip n v
change (MaxCodes n) v = set_max_codes n v
change (DirectMap on) v = set_direct on v
change (Remove selector) v = remove selector v

-- what the index answers
abbrev pub ask : IndexQuestion → IndexValue → Checked Answer
ask (Search k word) v = search k word v
ask (Range radius word) v = range radius word v
ask (Nearest k word) v = nearest k word v
ask (Reconstruct label) v = reconstruct label v
ask Show v = show v

-- what the shards answer
abbrev pub ask_shards : ShardQuestion → List IndexValue → Checked Answer
ask_shards (ShardSearch k word) vs = shard_search k word vs
ask_shards (ShardRange radius word) vs = shard_range radius word vs

-- the state, the answer and the files after a command that is not refused
abbrev pub command_outcome : Command → State → Files → Checked Outcome
command_outcome (New bits text) s files = do
  v ← new_index bits text
  leaves (record s { index = Some v }) Done files
command_outcome (Load name) s files = do
  v ← loaded files name
  leaves (record s { index = Some v }) (Loaded (count_of v)) files
command_outcome (Save name) s files = do
  v ← index_of s
  bytes ← spelled v
  leaves s (Saved (length bytes)) (put files name bytes)
command_outcome Shard s files = do
  v ← index_of s
  vs ← with_shard s.shards v
  leaves (record { index = None; shards = vs }) (Sharded (length vs) (joined_count vs)) files
command_outcome Unshard s files = leaves (record s { shards = [] }) Done files
command_outcome (Change c) s files = do
  v ← index_of s
  done ← change c v
  leaves (record s { index = Some done.index }) done.answer files
command_outcome (Ask question) s files = do
  v ← index_of s
  answer ← ask question v
  leaves s answer files
command_outcome (AskShards question) s files = do
  answer ← ask_shards question s.shards
  leaves s answer files

abbrev pub line_outcome : Line → State → Files → Checked Outcome
line_outcome TooLong s files = Err Long
line_outcome Silent s files = leaves s Quiet files
line_outcome (Whole command) s files = command_outcome command s files
line_outcome Broken s files = Err NoCommand

-- the state and the files after a line, and the reply to it: an answer or a refusal
pub record Step : Type 0 where
  pub state : State
  pub reply : Checked Answer
  pub files : Files

-- what is refused changes nothing
abbrev pub step_with : State → Files → Checked Outcome → Step
step_with s files (Ok done) = record { state = done.state; reply = Ok done.answer; files = done.files }
step_with s files (Err refusal) = record { state = s; reply = Err refusal; files = files }

unfoldable pub step : State → Files → List ℕ → Step
step s files line = step_with s files (line_outcome (line_of line) s files)
