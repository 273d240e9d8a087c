-- How far a run has come: the state and the files after the lines that have ended, and what is held of the next.
use Rattle.std.specs.Prelude.{◌≡◌, ℕ, List, [], ◌∷◌, ◌++◌, ◌==◌, ◌||◌, Bool, false, is_err, if◌then◌else◌, take}
use Rattle.std.specs.Io.KnownBytes.{Appends}
use Rattle.outside.specs.Contents.{Files, HasFiles}
use Rattle.faissb_core.specs.Language.Lines.{is_load}
use Rattle.faissb_core.specs.Reply.Text.{reply_text}
use Rattle.faissb_core.specs.Machine.State.{State, start}
use Rattle.faissb_core.specs.Machine.Step.{Step, step}
use Rattle.faissb_core.specs.Runs.Limits.{line_kept}
use Rattle.faissb_core.specs.Runs.Devices.{Outputs}

-- what is held between two reads: the state, the bytes of the line that has begun, and whether a line was refused
pub record Held : Type 0 where
  pub state : State
  pub line : List ℕ
  pub refused : Bool

abbrev pub nothing_held : Held
nothing_held = record { state = start; line = []; refused = false }

-- more of a line, of which enough is kept to refuse it
abbrev pub hold : Held → List ℕ → Held
hold h part = record h { line = take line_kept (h.line ++ part) }

-- the same beside the files
pub record Progress : Type 0 where
  pub held : Held
  pub files : Files

abbrev pub beside : Held → Files → Progress
beside h files = record { held = h; files = files }

abbrev pub hold_part : Progress → List ℕ → Progress
hold_part p part = beside (hold p.held part) p.files

-- what the held line does
abbrev pub held_step : Progress → Step
held_step p = step p.held.state p.files p.held.line

-- what is held after it
abbrev pub held_after : Held → Step → Held
held_after h done = record { state = done.state; line = []; refused = h.refused || is_err done.reply }

-- the line has ended
abbrev pub end_line : Progress → Progress
end_line p = beside (held_after p.held (held_step p)) (held_step p).files

abbrev pub end_text : Progress → List ℕ
end_text p = reply_text (held_step p).reply

-- after more bytes
abbrev pub feed : Progress → List ℕ → Progress
feed p [] = p
feed p (b ∷ bytes) = if b == 10 then feed (end_line p) bytes else feed (hold_part p (b ∷ [])) bytes

-- what is answered meanwhile
abbrev pub fed_text : Progress → List ℕ → List ℕ
fed_text p [] = []
fed_text p (b ∷ bytes) =
    if b == 10 then end_text p ++ fed_text (end_line p) bytes else fed_text (hold_part p (b ∷ [])) bytes

-- whether a file is read meanwhile
abbrev pub fed_loads : Progress → List ℕ → Bool
fed_loads p [] = false
fed_loads p (b ∷ bytes) =
    if b == 10 then is_load p.held.line || fed_loads (end_line p) bytes else fed_loads (hold_part p (b ∷ [])) bytes

-- x for nothing, else y
abbrev pub if_none : {A : Type 0} → List ℕ → A → A → A
if_none [] x y = x
if_none (b ∷ held) x y = y

-- the input has ended: what is held is a line where it is not empty
abbrev pub last : Progress → Progress
last p = if_none p.held.line p (end_line p)

abbrev pub last_text : Progress → List ℕ
last_text p = if_none p.held.line [] (end_text p)

abbrev pub last_loads : Held → Bool
last_loads h = if_none h.line false (is_load h.line)

-- the run has come to p, and has written this text on the way
pub record ComesTo (p : Progress) (sent : List ℕ) (h : Held) (before after : Outputs) : Type 0 where
  pub held : h ≡ p.held
  pub shelf : HasFiles p.files after.contents
  pub text : Appends before.written after.written sent
