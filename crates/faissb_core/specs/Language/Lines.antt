-- The lines of a script, and what each of them is.
use Rattle.std.specs.Prelude.{ℕ, List, [], ◌∷◌, ◌==◌, Bool, true, false, nat_lt, if◌then◌else◌, length}
use Rattle.std.specs.Prelude.{Option, None, Some}
use Rattle.std.specs.List.{list_all, onto_first}
use Rattle.faissb_core.specs.Language.Words.{words_of, is_word}
use Rattle.faissb_core.specs.Language.Command.{Command, Load, Save, Shard}
use Rattle.faissb_core.specs.Language.Grammar.{command_of}

-- The lines, each without its line feed. What stands after the last line feed is a line where it is not empty.
abbrev pub lines : List ℕ → List (List ℕ)
lines [] = []
lines (b ∷ bytes) = if b == 10 then [] ∷ lines bytes else onto_first b (lines bytes)

-- the most bytes of a line, without its line feed
abbrev pub line_limit : ℕ
line_limit = 1048576

-- over the limit, without a command, one command, or none of these
pub data Line : Type 0 where
  TooLong : Line
  Silent : Line
  Whole : Command → Line
  Broken : Line

abbrev pub is_silent : List ℕ → Bool
is_silent [] = true
is_silent (b ∷ line) = b == 35

abbrev pub line_with : Option Command → Line
line_with None = Broken
line_with (Some command) = Whole command

abbrev pub short_line : List ℕ → Line
short_line line =
    if is_silent line then Silent
    else if list_all is_word (words_of line) then line_with (command_of (words_of line))
    else Broken

unfoldable pub line_of : List ℕ → Line
line_of line = if nat_lt line_limit (length line) then TooLong else short_line line

abbrev pub has_command : Line → Bool
has_command TooLong = false
has_command Silent = false
has_command (Whole command) = true
has_command Broken = false

-- whether a line is a command
abbrev pub is_command : List ℕ → Bool
is_command line = has_command (line_of line)

-- whether a line makes a shard of the index
abbrev pub makes_shard : Line → Bool
makes_shard (Whole Shard) = true
makes_shard line = false

abbrev pub is_shard : List ℕ → Bool
is_shard line = makes_shard (line_of line)

-- whether a line reads a file, and whether it writes one
abbrev pub reads_file : Line → Bool
reads_file (Whole (Load name)) = true
reads_file line = false

abbrev pub writes_file : Line → Bool
writes_file (Whole (Save name)) = true
writes_file line = false

abbrev pub is_load : List ℕ → Bool
is_load line = reads_file (line_of line)

abbrev pub is_save : List ℕ → Bool
is_save line = writes_file (line_of line)
