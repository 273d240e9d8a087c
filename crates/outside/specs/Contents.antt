-- What a shelf holds.
use Rattle.std.specs.Prelude.{◌≡◌, ℕ, List, [], Bool, false, if◌then◌else◌}
use Rattle.std.specs.Str.{bytes_eq}
use Rattle.std.specs.declared.option.Option.{Option}
use Rattle.std.specs.declared.option.Option.TheVariants.{None, Some}

-- the bytes of the file of each name, where there is one
abbrev pub Files : Type 0
Files = List ℕ → Option (List ℕ)

-- no file
abbrev pub no_files : Files
no_files name = None

-- the files with these bytes under a name, and all others as they were
abbrev pub put : Files → List ℕ → List ℕ → Files
put files name bytes other = if bytes_eq other name then Some bytes else files other

-- the files of a shelf, what is left of the one that is being read, and the one that is being made
pub record Contents : Type 0 where
  pub files : Files
  pub reading : List ℕ
  pub name : List ℕ
  pub making : List ℕ

-- a shelf with no file
abbrev pub no_contents : Contents
no_contents = record { files = no_files; reading = []; name = []; making = [] }

-- these are the files, where the shelf tells
abbrev pub HasFiles : Files → Option Contents → Type 0
HasFiles files None = Unit {0}
HasFiles files (Some contents) = contents.files ≡ files

-- the shelf tells these files; or it tells none, and what is done does not look at them
abbrev pub Fits : Files → Option Contents → Bool → Type 0
Fits files None looks = looks ≡ false
Fits files (Some contents) looks = contents.files ≡ files
