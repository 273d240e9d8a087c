-- What the bytes of a field give, and the checks of it.
use Rattle.std.proofs.Common.{ℤ, ◌≡◌, List, ◌++◌, ℕ, ltb, false, length, take, drop, Ok, Option, Some, None}
use Rattle.std.proofs.Common.{inl, inr, refl, sym, ap, ◌∙◌, arith, append_assoc}
use Rattle.std.proofs.Math.Seq.{drop-append_seam}
use Rattle.std.proofs.lemmas.Bool.{cases_Bool, le-ltb}
use Rattle.std.proofs.lemmas.List.{take_at, length-append}
use Rattle.std.specs.Int.{w32, w64, cast_signed}
use Rattle.byteorder.specs.Endian.{little_number}
use Rattle.outside.specs.Contents.{Contents}
use Rattle.file_parts.specs.Feeding.{IsTold, place_of}
use Rattle.file_parts.specs.Format.{field, done, Check, first_refusal, forward, on_pass, Place, run, after}
use Rattle.file_parts.specs.Fields.{no_check, bytes_field, number_of, signed_of, int_of, number, any_number, any_signed}
use Rattle.file_parts.specs.Fields.{any_int}
use Rattle.file_parts.proofs.Reading.{okay, ok-is}

-- bytes that are tried by checks and read as something
pub field_gives : {A : Type 0} (w : ℕ) (checks : List ℕ → List Check) (f : List ℕ
    → A) (p q : Place) (bytes : List ℕ)
    → run (bytes_field w no_check) p ≡ Ok (bytes, q)
    → run (field w checks (λ b. done (f b))) p ≡ on_pass p.at (first_refusal (checks bytes)) (Ok (f bytes, q))
field_gives w checks f p q bytes e =
    elim (cases_Bool (ltb (length p.bytes) w)) [
      | inl h ↦ absurd (let k = rw h at e in cc)
      | inr h ↦
          let k : okay (take w p.bytes, after w p) ≡ Ok (bytes, q) = rw h at e in
          let b : take w p.bytes ≡ bytes = ap (λ (x : List ℕ × Place). x.0) (ok-is _ _ k) in
          let r : after w p ≡ q = ap (λ (x : List ℕ × Place). x.1) (ok-is _ _ k) in
          rw (h, b, r) refl
    ]

-- bytes that were read ahead, all of them
pub ahead_gives : (w at stands : ℕ) (bytes rest ahead : List ℕ) (contents : Option Contents) → IsTold contents
    → length bytes ≡ w → ahead ≡ bytes ++ rest → stands ≡ forward at w
    → run (bytes_field w no_check) (place_of at ahead contents) ≡ Ok (bytes, place_of stands rest contents)
ahead_gives w at stands bytes rest ahead None told len held is = absurd cc
ahead_gives w at stands bytes rest ahead (Some c) told len held is =
    let all : List ℕ = rest ++ c.reading in
    let whole : ahead ++ c.reading ≡ bytes ++ all =
    ap (λ (t : List ℕ). t ++ c.reading) held ∙ append_assoc bytes rest c.reading in
    let long : ltb (length (bytes ++ all)) w ≡ false = le-ltb _ _ (omega (arith, length-append bytes all, len)) in
    let front : take w (bytes ++ all) ≡ bytes = take_at bytes all w len in
    let behind : drop w (bytes ++ all) ≡ all =
    ap (λ (n : ℕ). drop n (bytes ++ all)) (sym len) ∙ drop-append_seam bytes all in
    rw (whole, long, front, behind, is) refl

-- bytes that are read as a number
pub number_gives : (w : ℕ) (p q : Place) (bytes : List ℕ) (n : ℕ)
    → run (bytes_field w no_check) p ≡ Ok (bytes, q)
    → n ≡ little_number w bytes → run (any_number w) p ≡ Ok (n, q)
unfolding number_of
number_gives w p q bytes n e is = rw is (field_gives w no_check (number_of w) p q bytes e)

pub signed_gives : (w : ℕ) (p q : Place) (bytes : List ℕ) (z : ℤ)
    → run (bytes_field w no_check) p ≡ Ok (bytes, q)
    → z ≡ cast_signed w64 (little_number w bytes) → run (any_signed w) p ≡ Ok (z, q)
unfolding signed_of
signed_gives w p q bytes z e is = rw is (field_gives w no_check (signed_of w) p q bytes e)

pub int_gives : (p q : Place) (bytes : List ℕ) (z : ℤ) → run (bytes_field 4 no_check) p ≡ Ok (bytes, q)
    → z ≡ cast_signed w32 (little_number 4 bytes) → run any_int p ≡ Ok (z, q)
unfolding int_of
int_gives p q bytes z e is = rw is (field_gives 4 no_check int_of p q bytes e)

-- a number that is tried by checks
pub checked_gives : (w : ℕ) (checks : ℕ → List Check) (p q : Place) (n : ℕ)
    → run (any_number w) p ≡ Ok (n, q)
    → run (number w checks) p ≡ on_pass p.at (first_refusal (checks n)) (Ok (n, q))
checked_gives w checks p q n e =
    elim (cases_Bool (ltb (length p.bytes) w)) [
      | inl h ↦ absurd (let k = rw h at e in cc)
      | inr h ↦
          let k : okay (number_of w (take w p.bytes), after w p) ≡ Ok (n, q) = rw h at e in
          let b : number_of w (take w p.bytes) ≡ n = ap (λ (x : ℕ × Place). x.0) (ok-is _ _ k) in
          let r : after w p ≡ q = ap (λ (x : ℕ × Place). x.1) (ok-is _ _ k) in
          rw (h, b, r) refl
    ]
