-- What a save does to the files of a shelf.
use Rattle.std.specs.Prelude.{◌≡◌, ◌⊎◌, ℕ, List, Result, Err, IsErrOf, OnOk}
use Rattle.outside.specs.Contents.{Contents, put}
use Rattle.multi_hash.specs.declared.wide.Wide.{Wide}
use Rattle.index_files.specs.declared.save_error.SaveError.{SaveError}
use Rattle.index_files.specs.declared.save_error.SaveError.TheVariants as error

-- these bytes stand under the name, and all other files are as before; or all files are as before
pub record Saves (name bytes : List ℕ) (result : Result ℕ SaveError) (old new : Contents) : Type 0 where
  pub ok : OnOk result (new.files ≡ put old.files name bytes)
  pub failed : IsErrOf result error.Failed → (new.files ≡ old.files) ⊎ (new.files ≡ put old.files name bytes)
  pub memory : IsErrOf result error.Memory → new.files ≡ old.files
  pub wide : (w : Wide) → result ≡ Err (error.BucketBits w) → new.files ≡ old.files
