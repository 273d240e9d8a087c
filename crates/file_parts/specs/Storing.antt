-- What writing a file does to what a shelf holds.
use Rattle.std.specs.Prelude.{◌≡◌, ℕ, List, ◌++◌, length, Bool, is_ok, Option, Some, None, Result}
use Rattle.std.specs.Borrow.{GName}
use Rattle.bcodes.specs.Ranges.{raised}
use Rattle.outside.specs.Causes.{CountsFailure}
use Rattle.outside.specs.Contents.{Files, Contents}
use Rattle.outside.specs.declared.trouble.Trouble.{Trouble}
use Rattle.file_parts.specs.declared.store.Store.{Store}

-- the shelf behind a store, and the reference to it, by its name
abbrev pub maker_of : {H : Type 0} → Store H → H
maker_of store = store.shelf.now

abbrev pub name_of : {H : Type 0} → Store H → GName
name_of store = store.shelf.ghost_name

-- the number of bytes that were written
abbrev pub offset_of : {H : Type 0} → Store H → ℕ
offset_of store = store.at

-- the file that is being made, and the files beside it
pub record Made : Type 0 where
  pub files : Files
  pub name : List ℕ
  pub bytes : List ℕ

-- where the shelf tells it
abbrev pub made_in : Option Contents → Option Made
made_in None = None
made_in (Some c) = Some (record { files = c.files; name = c.name; bytes = c.making })

-- the files, where the shelf tells them
abbrev pub files_in : Option Contents → Option Files
files_in None = None
files_in (Some c) = Some c.files

abbrev pub put_behind : List ℕ → Option Made → Option Made
put_behind bytes None = None
put_behind bytes (Some m) = Some (record m { bytes = m.bytes ++ bytes })

-- how many bytes were written, and the file where the shelf tells it
pub record Written : Type 0 where
  pub at : ℕ
  pub made : Option Made

abbrev pub written_in : ℕ → Option Contents → Written
written_in at contents = record { at = at; made = made_in contents }

abbrev pub written : {H : Type 0} → (H → Option Contents) → Store H → Written
written contents store = written_in store.at (contents store.shelf.now)

-- what was written, and bytes behind it
unfoldable pub behind : List ℕ → Written → Written
behind bytes w = record { at = raised w.at (length bytes); made = put_behind bytes w.made }

-- The store is over the same shelf, whose files stay; a file is still being made unless there was an error; and the
-- shelf's count of faults rose where a call failed, and stays where none did.
pub record GoesOn {H : Type 0} (contents : H → Option Contents) (is_making : H → Bool) (faults : H → ℕ)
    (old new : Store H) (result : Result (Unit {0}) Trouble) (failed : Type 0) : Type 0 where
  pub same_shelf : name_of new ≡ name_of old
  pub files : files_in (contents new.shelf.now) ≡ files_in (contents old.shelf.now)
  pub making : is_making new.shelf.now ≡ is_ok result
  pub cause : CountsFailure (faults old.shelf.now) (faults new.shelf.now) failed
