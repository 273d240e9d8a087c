-- Reading one format several times, as a loop does.
use Rattle.std.proofs.Common.{◌≡◌, ℕ, suc, ◌-◌, ◌+◌, ◌≤◌, ◌<◌, List, [], ◌∷◌}
use Rattle.std.proofs.Common.{◌++◌, Result, Ok, Err, refl, sym, ap, ◌∙◌, append_assoc, arith}
use Rattle.std.proofs.lemmas.List.{append-nil}
use Rattle.file_parts.specs.declared.file_fault.FileFault.{FileFault}
use Rattle.file_parts.specs.declared.part_error.PartError.{PartError}
use Rattle.file_parts.specs.declared.part_error.PartError.TheVariants as error
use Rattle.file_parts.specs.Format.{Format, done, ◌>>=◌, Place, run}
use Rattle.file_parts.specs.Fields.{repeated}
use Rattle.file_parts.specs.Feeding.{GivesError}
use Rattle.file_parts.proofs.Reading.{◌>>>◌, run_then}

-- what was read before, and what is still read
abbrev pub with_front : {A : Type 0} → List A → Result (List A × Place) FileFault
    → Result (List A × Place) FileFault
with_front front read = read >>> λ x. Ok (front ++ x.0, x.1)

regroup : {A : Type 0} (front : List A) (x : A) (read : Result (List A × Place) FileFault)
    → with_front front (read >>> λ y. Ok (x ∷ y.0, y.1)) ≡ with_front (front ++ x ∷ []) read
regroup {A = A} front x (Ok y) = ap (λ (xs : List A). Ok (xs, y.1)) (simp append_assoc)
regroup front x (Err e) = refl

pub one-more : {A : Type 0} (f : Format A) (n : ℕ) (p : Place)
    → run (repeated (suc n) f) p ≡ run f p >>> (λ x. run (repeated n f) x.1 >>> (λ y. Ok (x.0 ∷ y.0, y.1)))
one-more {A = A} f n p = run_then f (λ x. repeated n f >>= λ xs. done (x ∷ xs)) p ∙ go (run f p)
  where
    go : (r : Result (A × Place) FileFault)
        → r >>> (λ x. run (repeated n f >>= λ xs. done (x.0 ∷ xs)) x.1)
        ≡ r >>> (λ x. run (repeated n f) x.1 >>> (λ y. Ok (x.0 ∷ y.0, y.1)))
    go (Ok x) = run_then (repeated n f) (λ xs. done (x.0 ∷ xs)) x.1
    go (Err e) = refl

pub goes_on : {A : Type 0} (f : Format A) (front : List A) (count i : ℕ) (p q : Place) (x : A)
    (total : Result (List A × Place) FileFault) → i < count → run f p ≡ Ok (x, q)
    → with_front front (run (repeated (count - i) f) p) ≡ total
    → with_front (front ++ x ∷ []) (run (repeated (count - (i + 1)) f) q) ≡ total
goes_on f front count i p q x total lt h so_far =
    let k : count - i ≡ suc (count - (i + 1)) = omega arith in
    let one : with_front front (run (repeated (count - i) f) p)
    ≡ with_front (front ++ x ∷ []) (run (repeated (count - (i + 1)) f) q) = rw (
      k,
      one-more f (count - (i + 1)) p,
      h,
    ) (regroup front x (run (repeated (count - (i + 1)) f) q)) in
    sym one ∙ so_far

pub ends : {A : Type 0} (f : Format A) (e : PartError) (front : List A) (count i : ℕ) (p : Place)
    (total : Result (List A × Place) FileFault) → i < count → GivesError e (run f p)
    → with_front front (run (repeated (count - i) f) p) ≡ total → GivesError e total
ends f (error.Bad b) front count i p total lt h so_far =
    let k : count - i ≡ suc (count - (i + 1)) = omega arith in
    let one : with_front front (run (repeated (count - i) f) p)
    ≡ Err b = rw (k, one-more f (count - (i + 1)) p, h) refl in
    sym so_far ∙ one
ends f error.Failed front count i p total lt h so_far = tt
ends f error.Memory front count i p total lt h so_far = tt

pub is_done : {A : Type 0} (f : Format A) (front : List A) (count i : ℕ) (p : Place)
    (total : Result (List A × Place) FileFault) → count ≤ i
    → with_front front (run (repeated (count - i) f) p) ≡ total → total ≡ Ok (front, p)
is_done {A = A} f front count i p total le so_far =
    let k : count - i ≡ 0 = omega arith in
    let one : with_front front (run (repeated (count - i) f) p)
    ≡ Ok (front, p) = rw k (ap (λ (xs : List A). Ok (xs, p)) (append-nil front)) in
    sym so_far ∙ one
