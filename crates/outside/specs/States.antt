-- What contracts see of each source, sink and shelf.
use Rattle.std.specs.Prelude.{ℕ, Bool, List, [], ◌++◌, length, drop, map, min, Option, None, Some}
use Rattle.std.specs.Option.{option_map, option_map_or, unwrap_or}
use Rattle.std.specs.Map.{lookup}
use Rattle.std.specs.Str.{bytes_eq}
use Rattle.outside.specs.Causes.{next_count}
use Rattle.outside.specs.Contents.{Files, Contents, put}

-- a source in memory: the bytes still to come, the most bytes of one read, and the bytes handed out
pub record SureSourceState : Type 0 where
  pub left : List ℕ
  pub most : ℕ
  pub taken : ℕ

-- the same with the faults so far, the number of the next call, and the numbers of the calls that fail
pub record MemSourceState : Type 0 where
  pub left : List ℕ
  pub most : ℕ
  pub taken : ℕ
  pub faults : ℕ
  pub next : ℕ
  pub failing : List ℕ

-- a sink in memory: its bytes, the faults so far, the number of the next call, and those that fail
pub record MemSinkState : Type 0 where
  pub written : List ℕ
  pub faults : ℕ
  pub next : ℕ
  pub failing : List ℕ

-- a reader, the bytes taken from it, and its errors
pub record InputState (R : Type 0) : Type 0 where
  pub reader : R
  pub taken : ℕ
  pub faults : ℕ

-- a writer, and its errors
pub record OutputState (W : Type 0) : Type 0 where
  pub writer : W
  pub faults : ℕ

-- how many bytes a read gives: no more than are left, than the buffer holds and than one read may
abbrev pub read_len : List ℕ → ℕ → ℕ → ℕ
read_len left room most = min (min (length left) room) most

-- a file that is being made: its name, and its bytes so far
pub record DraftState : Type 0 where
  pub name : List ℕ
  pub bytes : List ℕ

-- a file of this name and these bytes, that is being made
abbrev pub draft_of : List ℕ → List ℕ → DraftState
draft_of name bytes = record { name = name; bytes = bytes }

-- a shelf in memory: names with the bytes of their files, what is left of the file that is being read, and the file
-- that is being made
pub record SureShelfState : Type 0 where
  pub named : List (List ℕ × List ℕ)
  pub reading : Option (List ℕ)
  pub making : Option DraftState

-- a shelf in memory, the faults so far, the number of the next call, and the numbers of the calls that fail
pub record MemShelfState : Type 0 where
  pub held : SureShelfState
  pub faults : ℕ
  pub next : ℕ
  pub failing : List ℕ

-- the folder's shelf: whether a file is being read, whether one is being made, and the errors
pub record FolderState : Type 0 where
  pub is_reading : Bool
  pub is_making : Bool
  pub faults : ℕ

-- names with bytes, out of a list of pairs
abbrev pub named_by : {K V : Type 0} → (K → List ℕ) → (V → List ℕ) → List (K × V)
    → List (List ℕ × List ℕ)
named_by name bytes files = map (λ file. (name file.0, bytes file.1)) files

-- the bytes under a name
abbrev pub files_of : List (List ℕ × List ℕ) → Files
files_of named name = lookup (λ other. bytes_eq name other) named

-- what a shelf in memory holds
abbrev pub contents_of : SureShelfState → Contents
contents_of s = record {
  files = files_of s.named;
  reading = unwrap_or s.reading [];
  name = option_map_or (λ draft. draft.name) s.making [];
  making = option_map_or (λ draft. draft.bytes) s.making [];
}

-- a shelf in memory with no file
abbrev pub empty_shelf : SureShelfState
empty_shelf = record { named = []; reading = None; making = None }

-- nothing is being read or made
abbrev pub closed : SureShelfState → SureShelfState
closed s = record { named = s.named; reading = None; making = None }

-- the file of this name is being read, where there is one
abbrev pub opened : SureShelfState → List ℕ → SureShelfState
opened s name = record { named = s.named; reading = files_of s.named name; making = None }

-- the bytes that are still to be read
abbrev pub to_read : SureShelfState → List ℕ
to_read s = unwrap_or s.reading []

-- how many bytes a read gives: no more than are left, and than the buffer holds
abbrev pub given_len : SureShelfState → ℕ → ℕ
given_len s room = min (length (to_read s)) room

-- the first bytes of those to be read are gone
abbrev pub read_on : SureShelfState → ℕ → SureShelfState
read_on s room = record { named = s.named; reading = Some (drop (given_len s room) (to_read s)); making = s.making }

-- a file of this name and of no bytes is being made
abbrev pub created : SureShelfState → List ℕ → SureShelfState
created s name = record { named = s.named; reading = None; making = Some (draft_of name []) }

-- a file that is being made, with a piece behind its bytes
abbrev pub longer : List ℕ → DraftState → DraftState
longer piece draft = draft_of draft.name (draft.bytes ++ piece)

-- the shelf with a piece behind the bytes of the file that is being made
abbrev pub lengthened : SureShelfState → List ℕ → SureShelfState
lengthened s piece = record { named = s.named; reading = s.reading; making = option_map (longer piece) s.making }

-- the files with the one that was made
abbrev pub with_made : SureShelfState → Files
with_made s = put (files_of s.named) (contents_of s).name (contents_of s).making

-- no file is being made
abbrev pub dropped : SureShelfState → SureShelfState
dropped s = record { named = s.named; reading = s.reading; making = None }

-- no file is being made, and these are the files
abbrev pub refiled : SureShelfState → List (List ℕ × List ℕ) → SureShelfState
refiled s named = record { named = named; reading = s.reading; making = None }

-- the next call has the next number, and this is held after it
abbrev pub counted : MemShelfState → SureShelfState → MemShelfState
counted s held = record { held = held; faults = s.faults; next = next_count s.next; failing = s.failing }

-- the same after a call that failed
abbrev pub struck : MemShelfState → SureShelfState → MemShelfState
struck s held = record { held = held; faults = next_count s.faults; next = next_count s.next; failing = s.failing }
