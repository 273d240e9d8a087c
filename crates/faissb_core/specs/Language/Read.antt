-- A line as it is read, and what it says.
use Rattle.id_select.specs.declared.selector.Selector.{Selector}
use Rattle.id_select.specs.declared.selector.Selector.TheVariants.{Listed, AllBut, Between}
use Rattle.faissb_core.specs.declared.language.command.Command.{Command as ReadCommand}
use Rattle.faissb_core.specs.declared.language.command.Command.TheVariants as read_command
use Rattle.faissb_core.specs.declared.language.command.IndexChange.{IndexChange as ReadIndexChange}
use Rattle.faissb_core.specs.declared.language.command.IndexChange.TheVariants as read_change
use Rattle.faissb_core.specs.declared.language.command.IndexQuestion.{IndexQuestion as ReadIndexQuestion}
use Rattle.faissb_core.specs.declared.language.command.IndexQuestion.TheVariants as read_question
use Rattle.faissb_core.specs.declared.language.command.Selection.{Selection as ReadSelection}
use Rattle.faissb_core.specs.declared.language.command.Selection.TheVariants as read_selection
use Rattle.faissb_core.specs.declared.language.command.ShardQuestion.{ShardQuestion as ReadShardQuestion}
use Rattle.faissb_core.specs.declared.language.command.ShardQuestion.TheVariants as read_shard_question
use Rattle.faissb_core.specs.declared.language.line.Line.{Line as ReadLine}
use Rattle.faissb_core.specs.declared.language.line.Line.TheVariants.{TooLong as ReadTooLong, Silent as ReadSilent}
use Rattle.faissb_core.specs.declared.language.line.Line.TheVariants.{Whole as ReadWhole, Broken as ReadBroken}
use Rattle.faissb_core.specs.Language.Words.{words_of}
use Rattle.faissb_core.specs.Language.Command.{IndexChange, Add, AddIds, Centroids, Nprobe, Nflip, MaxCodes, DirectMap}
use Rattle.faissb_core.specs.Language.Command.{Remove}
use Rattle.faissb_core.specs.Language.Command.{IndexQuestion, Search, Range, Nearest, Reconstruct, Show}
use Rattle.faissb_core.specs.Language.Command.{ShardQuestion, ShardSearch, ShardRange}
use Rattle.faissb_core.specs.Language.Command.{Command, New, Load, Save, Shard, Unshard, Change, Ask, AskShards}
use Rattle.faissb_core.specs.Language.Grammar.{ids_in, pairs_in}
use Rattle.faissb_core.specs.Language.Lines.{Line, TooLong, Silent, Whole, Broken}

-- which rows are removed
abbrev pub said_selection : ReadSelection → Selector
said_selection (read_selection.Listed ids) = Listed (ids_in ids.text.now)
said_selection (read_selection.AllBut ids) = AllBut (ids_in ids.text.now)
said_selection (read_selection.Between from to) = Between from to

abbrev pub said_change : ReadIndexChange → IndexChange
said_change (read_change.Add words) = Add (words_of words.now)
said_change (read_change.AddIds words) = AddIds (pairs_in words.text.now)
said_change (read_change.Centroids words) = Centroids (words_of words.now)
said_change (read_change.Nprobe n) = Nprobe n
said_change (read_change.Nflip n) = Nflip n
said_change (read_change.MaxCodes n) = MaxCodes n
said_change (read_change.DirectMap on) = DirectMap on
said_change (read_change.Remove selection) = Remove (said_selection selection)

abbrev pub said_question : ReadIndexQuestion → IndexQuestion
said_question (read_question.Search k word) = Search k word.now
said_question (read_question.Range radius word) = Range radius word.now
said_question (read_question.Nearest k word) = Nearest k word.now
said_question (read_question.Reconstruct label) = Reconstruct label
said_question read_question.Show = Show

abbrev pub said_shard_question : ReadShardQuestion → ShardQuestion
said_shard_question (read_shard_question.Search k word) = ShardSearch k word.now
said_shard_question (read_shard_question.Range radius word) = ShardRange radius word.now

abbrev pub said : ReadCommand → Command
said (read_command.New bits factory) = New bits factory.now
said (read_command.Load name) = Load name.now
said (read_command.Save name) = Save name.now
said read_command.Shard = Shard
said read_command.Unshard = Unshard
said (read_command.Change change) = Change (said_change change)
said (read_command.Ask question) = Ask (said_question question)
said (read_command.AskShards question) = AskShards (said_shard_question question)

abbrev pub line_said : ReadLine → Line
line_said ReadTooLong = TooLong
line_said ReadSilent = Silent
line_said (ReadWhole command) = Whole (said command)
line_said ReadBroken = Broken
