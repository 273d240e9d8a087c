-- What writing a part of a file does to the shelf, to bytes that are held back, and to packed numbers.
use Rattle.std.specs.Prelude.{◌≡◌, ℕ, ◌+◌, Bool, true, List, ◌++◌, Option, Result, OnOk}
use Rattle.outside.specs.Causes.{CountsFailure}
use Rattle.outside.specs.Contents.{Contents}
use Rattle.outside.specs.declared.trouble.Trouble.{Trouble}
use Rattle.bit_strings.specs.Packed.{Bits, spread, total_width}
use Rattle.bit_strings.specs.States.{Written as Numbers}
use Rattle.file_parts.specs.declared.store.Store.{Store}
use Rattle.file_parts.specs.Storing.{Written, behind, files_in, name_of, written}

-- The store is over the same shelf, whose files stay; the file is still being made where all was written; and the
-- shelf's count of faults rose where a call of the shelf failed, and stays where none did.
pub record Writes {H : Type 0} (contents : H → Option Contents) (is_making : H → Bool) (faults : H → ℕ)
    (old new : Store H) (result : Result (Unit {0}) Trouble) (failed : Type 0) : Type 0 where
  pub same_shelf : name_of new ≡ name_of old
  pub files : files_in (contents new.shelf.now) ≡ files_in (contents old.shelf.now)
  pub making : OnOk result (is_making new.shelf.now ≡ true)
  pub cause : CountsFailure (faults old.shelf.now) (faults new.shelf.now) failed

-- what was written, and behind it the bytes that are held back
abbrev pub gathered : {H : Type 0} → (H → Option Contents) → Store H → List ℕ → Written
gathered contents store held = behind held (written contents store)

-- numbers were packed behind those before, and took their room
pub record Packs (xs : List Bits) (old new : Numbers) : Type 0 where
  pub bits : new.bits ≡ old.bits ++ spread xs
  pub room : old.room ≡ new.room + total_width xs
