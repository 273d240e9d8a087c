-- What the calls of a shelf do to what it holds.
use Rattle.std.specs.Prelude.{◌≡◌, ◌⊎◌, ◌<◌, ◌^◌, ℕ, Bool, true, false, List, [], ◌++◌}
use Rattle.std.specs.Prelude.{Result, Ok, OnOk, IsErrOf}
use Rattle.std.specs.List.{All}
use Rattle.std.specs.Io.KnownBytes.{ReadConsumes}
use Rattle.std.specs.declared.option.Option.{Option}
use Rattle.std.specs.declared.option.Option.TheVariants.{None, Some}
use Rattle.outside.specs.declared.trouble.Trouble.{Trouble}
use Rattle.outside.specs.declared.trouble.Trouble.TheVariants.{Failed, Memory}
use Rattle.outside.specs.Contents.{Contents, put}

-- a shelf that tells what it holds goes on to tell it, and then P holds; one that does not tells nothing
abbrev pub WhereTold : Option Contents → Option Contents → (Contents → Contents → Type 0) → Type 0
WhereTold None None P = Unit {0}
WhereTold None (Some new) P = ⊥
WhereTold (Some old) None P = ⊥
WhereTold (Some old) (Some new) P = P old new

-- the files stay as they were
abbrev pub KeepsFiles : Option Contents → Option Contents → Type 0
KeepsFiles old new = WhereTold old new (λ before after. after.files ≡ before.files)

-- true only where there is such a file, of which all bytes are then to be read, and false only where there is none;
-- what is told of a file are bytes
pub record Opens (name : List ℕ) (result : Result Bool Trouble) (old new : Contents) : Type 0 where
  pub files : new.files ≡ old.files
  pub found : result ≡ Ok true → old.files name ≡ Some new.reading
  pub are_bytes : result ≡ Ok true → All (λ byte. byte < 2 ^ 8) new.reading
  pub missing : result ≡ Ok false → old.files name ≡ None

-- the bytes that a read gave are no longer to come
pub record Reads (buf : List ℕ) (result : Result ℕ Trouble) (old new : Contents) : Type 0 where
  pub files : new.files ≡ old.files
  pub bytes : ReadConsumes (Some old.reading) (Some new.reading) result buf

-- a file of this name and of no bytes is being made
pub record Creates (name : List ℕ) (result : Result (Unit {0}) Trouble) (old new : Contents) : Type 0 where
  pub files : new.files ≡ old.files
  pub name_is : OnOk result (new.name ≡ name)
  pub no_bytes : OnOk result (new.making ≡ [])

-- the piece is put behind the bytes of the file that is being made
pub record AppendsTo (piece : List ℕ) (result : Result (Unit {0}) Trouble) (old new : Contents) : Type 0 where
  pub files : new.files ≡ old.files
  pub name_stays : OnOk result (new.name ≡ old.name)
  pub bytes : OnOk result (new.making ≡ old.making ++ piece)

-- the file that was made stands under its name; after a failure it stands there, or the files are as before
pub record KeepsMade (result : Result (Unit {0}) Trouble) (old new : Contents) : Type 0 where
  pub ok : OnOk result (new.files ≡ put old.files old.name old.making)
  pub failed : IsErrOf result Failed
      → (new.files ≡ old.files) ⊎ (new.files ≡ put old.files old.name old.making)
  pub memory : IsErrOf result Memory → new.files ≡ old.files
