-- A run of bytes, read as one field.
use Rattle.std.proofs.Common.{◌≡◌, List, ◌++◌, ℕ, length, Option, Some, None, Result, Ok, refl, ap}
use Rattle.outside.specs.Calls.{WhereTold}
use Rattle.outside.specs.Contents.{Contents}
use Rattle.outside.specs.declared.trouble.Trouble.{Trouble}
use Rattle.file_parts.specs.Ahead.{GivesRun}
use Rattle.file_parts.specs.Feeding.{IsTold, place_of}
use Rattle.file_parts.specs.Fields.{bytes_field, no_check}
use Rattle.file_parts.specs.Format.{done, forward, run}
use Rattle.file_parts.proofs.Reading.{field-passes}

-- the bytes were given, and the field is read
pub run_given : {X : Type 0} (bytes_of : X → List ℕ) (ahead later : List ℕ) (n at stands : ℕ) (x : X)
    (found : Option X) (a b : Option Contents) → IsTold a
    → WhereTold a b (GivesRun {E = Trouble} bytes_of ahead later n (Ok found)) → found ≡ Some x
    → length (bytes_of x) ≡ n → stands ≡ forward at n
    → run (bytes_field n no_check) (place_of at ahead a) ≡ Ok (bytes_of x, place_of stands later b)
run_given bytes_of ahead later n at stands x found None b told h is len ends = absurd cc
run_given bytes_of ahead later n at stands x found (Some a) None told h is len ends = absurd h
run_given {X = X} bytes_of ahead later n at stands x found (Some a) (Some b) told h is len ends =
    let okay : Option X → Result (Option X) Trouble = λ o. Ok o in
    let bytes = h.bytes x (ap okay is) in
    rw (bytes, ends) (field-passes n no_check (λ front. done front) at (bytes_of x) (later ++ b.reading) len refl)
