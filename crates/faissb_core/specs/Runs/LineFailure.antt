-- What is left where a line is not applied and answered whole.
use Rattle.std.specs.Prelude.{◌≡◌, ◌≢◌, ◌⊎◌, ◌||◌, ℕ, List, [], ◌∷◌, ◌++◌, IsTrue, take}
use Rattle.std.specs.Io.KnownBytes.{Appends}
use Rattle.outside.specs.Contents.{HasFiles}
use Rattle.faissb_core.specs.declared.runs.fault.Fault.{Fault}
use Rattle.faissb_core.specs.declared.runs.fault.Fault.TheVariants.{Shelf, Output, Memory}
use Rattle.faissb_core.specs.Language.Lines.{is_load, is_save}
use Rattle.faissb_core.specs.Runs.Devices.{Outputs}
use Rattle.faissb_core.specs.Runs.Progress.{Progress, end_line, end_text, feed, fed_text}

-- the files are those before the line, or those after it
abbrev pub IsBefore : Progress → Outputs → Type 0
IsBefore p after = HasFiles p.files after.contents

abbrev pub IsAfter : Progress → Outputs → Type 0
IsAfter p after = HasFiles (end_line p).files after.contents

-- the shelf failed in a line that saves or loads, and only a save may have changed the files
pub record ShelfFailsIn (p : Progress) (after : Outputs) : Type 0 where
  pub uses_shelf : IsTrue (is_save p.held.line || is_load p.held.line)
  pub files : IsBefore p after ⊎ (IsTrue (is_save p.held.line) × IsAfter p after)

-- by the fault that came, where n bytes of the reply to the held line were written
abbrev pub FaultLeaves : Fault → Progress → ℕ → Outputs → Type 0
FaultLeaves Shelf p n after = (n ≡ 0) × ShelfFailsIn p after
FaultLeaves Output p n after = IsAfter p after
FaultLeaves Memory p n after = ((n ≡ 0) × IsBefore p after) ⊎ IsAfter p after

-- the held line is not applied, or its reply is not written whole
pub record LineFails (p : Progress) (before after : Outputs) (fault : Fault) : Type 0 where
  pub len : ℕ
  pub text : Appends before.written after.written (take len (end_text p))
  pub leaves : FaultLeaves fault p len after

-- the held bytes are a line that ends here: by a line feed, or by the end of the input where they are not empty
abbrev pub EndsHere : List ℕ → List ℕ → Type 0
EndsHere held rest = ((more : List ℕ) × (rest ≡ 10 ∷ more)) ⊎ ((rest ≡ []) × (held ≢ []))

-- the line has not begun to be applied for want of memory to hold it, or it has ended
abbrev pub FailsAt : Fault → Progress → List ℕ → ℕ → Outputs → Type 0
FailsAt fault p rest n after =
    ((fault ≡ Memory) × (n ≡ 0) × IsBefore p after) ⊎ EndsHere p.held.line rest

-- some line among these bytes fails, the one that `part` ends with: all lines before it are applied and answered
pub record FeedFails (p : Progress) (bytes : List ℕ) (before after : Outputs) (fault : Fault) : Type 0 where
  pub part : List ℕ
  pub rest : List ℕ
  pub parts : part ++ rest ≡ bytes
  pub len : ℕ
  pub text : Appends before.written after.written (fed_text p part ++ take len (end_text (feed p part)))
  pub leaves : FaultLeaves fault (feed p part) len after
  pub place : FailsAt fault (feed p part) rest len after
