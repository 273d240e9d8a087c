-- What a feed has still to give, and what reading a field from it gives.
use Rattle.std.specs.Prelude.{◌≡◌, ◌<◌, ℕ, Bool, true, is_some, List, [], ◌++◌, length, Option}
use Rattle.std.specs.Prelude.{Some, None, Result, Ok, Err}
use Rattle.std.specs.Borrow.{GName}
use Rattle.outside.specs.Calls.{KeepsFiles}
use Rattle.outside.specs.Causes.{CountsFailure}
use Rattle.outside.specs.Contents.{Contents}
use Rattle.file_parts.specs.declared.feed.Feed.{Feed}
use Rattle.file_parts.specs.declared.file_fault.FileFault.{FileFault}
use Rattle.file_parts.specs.declared.reason.Reason.TheVariants.{Trailing}
use Rattle.file_parts.specs.declared.part_error.PartError.{PartError}
use Rattle.file_parts.specs.declared.part_error.PartError.TheVariants as error
use Rattle.file_parts.specs.Format.{Format, Place, run}

-- the shelf behind a feed
abbrev pub shelf_of : {H : Type 0} → Feed H → H
shelf_of feed = feed.shelf.now

-- the reference to that shelf, by its name
abbrev pub name_of : {H : Type 0} → Feed H → GName
name_of feed = feed.shelf.ghost_name

-- the shelf tells what it holds
abbrev pub IsTold : Option Contents → Type 0
IsTold contents = is_some contents ≡ true

-- the offset at which a feed stands
abbrev pub offset_of : {H : Type 0} → Feed H → ℕ
offset_of feed = feed.at

-- the bytes that were read ahead, and then those that are still to be read, where they are told
abbrev pub bytes_from : List ℕ → Option Contents → List ℕ
bytes_from ahead None = []
bytes_from ahead (Some contents) = ahead ++ contents.reading

abbrev pub place_of : ℕ → List ℕ → Option Contents → Place
place_of at ahead contents = record { at = at; bytes = bytes_from ahead contents }

-- where a feed stands in its file, and the bytes from there on, where they are told
abbrev pub place : {H : Type 0} → (H → Option Contents) → Feed H → Place
place contents feed = place_of feed.at feed.ahead (contents feed.shelf.now)

-- An error says what reading gives, unless a call failed or memory ran out.
abbrev pub GivesError : {Y : Type 0} → PartError → Result Y FileFault → Type 0
GivesError (error.Bad fault) read = read ≡ Err fault
GivesError error.Failed read = Unit {0}
GivesError error.Memory read = Unit {0}

-- What a call returned, seen by view, is what reading gives, and q is the place after it.
abbrev pub Gives : {X A : Type 0} → (X → A) → Result X PartError → Result (A × Place) FileFault → Place
    → Type 0
Gives view (Ok x) read q = read ≡ Ok (view x, q)
Gives view (Err e) read q = GivesError e read

-- What a call returned, seen by view, is what reading by the format gives from where the feed stood, where this is
-- told.
abbrev pub GivesField : {H X A : Type 0} → (H → Option Contents) → (X → A) → Format A → Feed H → Feed H
    → Result X PartError → Type 0
GivesField contents view format old new result =
    IsTold (contents old.shelf.now) → Gives view result (run format (place contents old)) (place contents new)

-- no byte follows, or one does
abbrev pub GivesEnd : {X : Type 0} → Result X PartError → Place → Type 0
GivesEnd (Ok x) p = length p.bytes ≡ 0
GivesEnd (Err (error.Bad fault)) p = (0 < length p.bytes) × (fault ≡ record { at = p.at; reason = Trailing })
GivesEnd (Err error.Failed) p = Unit {0}
GivesEnd (Err error.Memory) p = Unit {0}

-- what reading a whole file answered
abbrev pub Decodes : {X A : Type 0} → (X → A) → Result X PartError → Result A FileFault → Type 0
Decodes view (Ok x) read = read ≡ Ok (view x)
Decodes view (Err e) read = GivesError e read

-- The feed is over the same shelf, whose files stay and whose file is still being read; and its count of faults rose
-- where a call failed, and stays where none did.
pub record StaysOver {H : Type 0} (contents : H → Option Contents) (is_reading : H → Bool) (faults : H → ℕ)
    (old new : Feed H) (failed : Type 0) : Type 0 where
  pub same_shelf : name_of new ≡ name_of old
  pub files : KeepsFiles (contents old.shelf.now) (contents new.shelf.now)
  pub reading : is_reading new.shelf.now ≡ is_reading old.shelf.now
  pub cause : CountsFailure (faults old.shelf.now) (faults new.shelf.now) failed
