-- A buffer that is filled piece by piece.
use Rattle.std.proofs.Common.{◌≡◌, List, ℕ, ◌+◌, ◌-◌, ◌≤◌, ◌++◌, length, take, drop, Option}
use Rattle.std.proofs.Common.{Some, None}
use Rattle.std.proofs.Common.{true, Ok, sym, ap, ◌∙◌, append_assoc, arith}
use Rattle.std.proofs.lemmas.List.{take_at, take-append-drop, length-append, length-take, drop-drop, drop-take}
use borrow.Rule.Slice.PartMut.{put_mid, post_of}
use Rattle.outside.specs.Contents.{Contents}
use Rattle.outside.specs.Calls.{WhereTold}
use Rattle.outside.specs.declared.trouble.Trouble.{Trouble}
use Rattle.file_parts.specs.Ahead.{Refills}

-- what is left of the bytes from one place to another, after n of them
pub held_after : (bytes : List ℕ) (start stop n : ℕ) → start + n ≤ stop
    → take (stop - (start + n)) (drop (start + n) bytes) ≡ drop n (take (stop - start) (drop start bytes))
held_after bytes start stop n le =
    let rest = stop - (start + n) in
    let few : stop - start ≡ n + rest = omega (arith, le) in
    rw few (ap (take rest) (sym (drop-drop n start bytes)) ∙ sym (drop-take n rest (drop start bytes)))

-- what stands before is given, and the bytes ahead and those to be read are left
pub record SoFar (ahead new_ahead given : List ℕ) (old new : Contents) : Type 0 where
  pub files : new.files ≡ old.files
  pub bytes : ahead ++ old.reading ≡ given ++ (new_ahead ++ new.reading)

-- a slice from a place on, put back with other first bytes
take-filled : (got n k : ℕ) (into buf : List ℕ) → got ≤ length into → n ≤ length buf
    → take (got + n) (put_mid got k into buf) ≡ take got into ++ take n buf
take-filled got n k into buf le few =
    let front = take got into in
    let rest = post_of got k into in
    let whole : front ++ (buf ++ rest) ≡ (front ++ take n buf) ++ (drop n buf ++ rest) =
    ap (λ (b : List ℕ). front ++ (b ++ rest)) (sym (take-append-drop n buf))
    ∙ ap (λ (b : List ℕ). front ++ b) (append_assoc (take n buf) (drop n buf) rest)
    ∙ sym (append_assoc front (take n buf) (drop n buf ++ rest)) in
    let len : length (front ++ take n buf) ≡ got + n =
    omega (arith, length-append front (take n buf), length-take got into, length-take n buf) in
    ap (take (got + n)) whole ∙ take_at (front ++ take n buf) (drop n buf ++ rest) (got + n) len

pub length-put_mid : (got k : ℕ) (into buf : List ℕ) → got ≤ length into
    → got + length buf ≤ length (put_mid got k into buf)
length-put_mid got k into buf le =
    let rest = post_of got k into in
    omega (arith, length-append (take got into) (buf ++ rest), length-append buf rest, length-take got into)

-- one more piece of n bytes
module _ (first held more : List ℕ) (got n k : ℕ) (into buf : List ℕ) where
  piece : (a b c : Contents) → got ≤ length into → n ≤ length buf → SoFar first held (take got into) a b
      → Refills {E = Trouble} held more (Ok true) b c → take n buf ≡ take n more
      → SoFar first (drop n more) (take (got + n) (put_mid got k into buf)) a c
  piece a b c le few so_far refill front = record {
    files = refill.files ∙ so_far.files;
    bytes = so_far.bytes
        ∙ ap (λ (t : List ℕ). take got into ++ t) (
        refill.bytes
        ∙ ap (λ (t : List ℕ). t ++ c.reading) (sym (take-append-drop n more))
        ∙ append_assoc (take n more) (drop n more) c.reading
        ∙ ap (λ (t : List ℕ). t ++ (drop n more ++ c.reading)) (sym front)
        )
        ∙ sym (append_assoc (take got into) (take n buf) (drop n more ++ c.reading))
        ∙ ap (λ (t : List ℕ). t ++ (drop n more ++ c.reading)) (sym (take-filled got n k into buf le few));
  }

  pub one_more : (a b c : Option Contents) → got ≤ length into → n ≤ length buf
      → WhereTold a b (SoFar first held (take got into)) → WhereTold b c (Refills {E = Trouble} held more (Ok true))
      → take n buf ≡ take n more
      → WhereTold a c (SoFar first (drop n more) (take (got + n) (put_mid got k into buf)))
  one_more None None None le few p q front = tt
  one_more None None (Some c) le few p q front = q
  one_more None (Some b) c le few p q front = absurd p
  one_more (Some a) None c le few p q front = absurd p
  one_more (Some a) (Some b) None le few p q front = q
  one_more (Some a) (Some b) (Some c) le few p q front = piece a b c le few p q front
