-- What reading ahead does to the bytes that are still to be given.
use Rattle.std.specs.Prelude.{◌≡◌, ◌<◌, ℕ, Bool, false, List, [], ◌++◌, length, take, Option, Some, None}
use Rattle.std.specs.Prelude.{Result, Ok, OnOk, IfOk}
use Rattle.outside.specs.Contents.{Contents}

-- There are bytes ahead, of one read where there were none, or the file has ended.
pub record Refills {E : Type 0} (ahead new_ahead : List ℕ) (result : Result Bool E)
    (old new : Contents) : Type 0 where
  pub files : new.files ≡ old.files
  pub bytes : OnOk result (ahead ++ old.reading ≡ new_ahead ++ new.reading)
  pub ended : result ≡ Ok false → new_ahead ++ new.reading ≡ []

-- The first bytes of a buffer are those that were read ahead and then those that were still to be read, and all of it
-- unless the file ends before.
pub record Fills {E : Type 0} (ahead new_ahead buf : List ℕ) (result : Result ℕ E)
    (old new : Contents) : Type 0 where
  pub files : new.files ≡ old.files
  pub bytes : IfOk result (λ n. ahead ++ old.reading ≡ take n buf ++ (new_ahead ++ new.reading))
  pub ended : IfOk result (λ n. n < length buf → new_ahead ++ new.reading ≡ [])

-- So many bytes were given, out of those that were read ahead and then of those that were still to be read, or these
-- ended before.
pub record GivesRun {X E : Type 0} (bytes_of : X → List ℕ) (ahead new_ahead : List ℕ) (count : ℕ)
    (result : Result (Option X) E) (old new : Contents) : Type 0 where
  pub files : new.files ≡ old.files
  pub bytes : (x : X) → result ≡ Ok (Some x) → ahead ++ old.reading ≡ bytes_of x ++ (new_ahead ++ new.reading)
  pub short : result ≡ Ok None → length (ahead ++ old.reading) < count
