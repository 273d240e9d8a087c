-- Fields of one width, read together.
use Rattle.std.proofs.Common.{◌≡◌, List, [], ◌∷◌, ◌++◌, ℕ, zero, suc, ◌+◌, ◌*◌, ◌/◌}
use Rattle.std.proofs.Common.{◌≤◌, ◌<◌, false, true, ltb, length}
use Rattle.std.proofs.Common.{take, drop, Option, Some, None, Ok, Err, refl, ap, ◌∙◌, arith, length-drop}
use Rattle.std.proofs.Math.Nat.{suc-mul, div-mul-le_self, lt-div-mul-add, lt_of_mul-lt-mul_right}
use Rattle.std.proofs.lemmas.Bool.{lt-ltb, le-ltb}
use Rattle.std.proofs.lemmas.List.{append-nil, length-append, length-take-le, nil_from_length, take_all}
use Rattle.std.proofs.lemmas.List.{take-append-le, drop-append-le}
use Rattle.bcodes.specs.Chunks.{chunks_of}
use Rattle.outside.specs.Calls.{WhereTold}
use Rattle.outside.specs.Contents.{Contents}
use Rattle.outside.specs.declared.trouble.Trouble.{Trouble}
use Rattle.file_parts.specs.declared.file_fault.FileFault.{FileFault}
use Rattle.file_parts.specs.Ahead.{Fills}
use Rattle.file_parts.specs.Feeding.{IsTold, place_of}
use Rattle.file_parts.specs.Fields.{bytes_field, no_check, repeated}
use Rattle.file_parts.specs.Format.{Format, Place, after, forward, run, short_at}
use Rattle.file_parts.proofs.Reading.{place, ◌>>>◌}
use Rattle.file_parts.proofs.Repeats.{one-more}

abbrev last : ℕ
last = 18446744073709551615

-- one field of w bytes
abbrev one : ℕ → Format (List ℕ)
one w = bytes_field w no_check

-- n more fields after one
step : (w n : ℕ) (p : Place) → ltb (length p.bytes) w ≡ false
    → run (repeated (suc n) (one w)) p
    ≡ run (repeated n (one w)) (after w p) >>> (λ y. Ok (take w p.bytes ∷ y.0, y.1))
step w n p long =
    let first : run (one w) p ≡ Ok (take w p.bytes, after w p) = rw long refl in
    one-more (one w) n p ∙ rw first refl

-- ---- all of them stand there

pub records_whole : (w n at : ℕ) (into rest : List ℕ) → at ≤ last → length into ≡ n * w
    → run (repeated n (bytes_field w no_check)) (place at (into ++ rest))
    ≡ Ok (chunks_of w n into, place (forward at (n * w)) rest)
unfolding chunks_of
records_whole w zero at into rest small len =
    let none : into ≡ [] = nil_from_length into (omega (arith, len)) in
    let here : at ≡ forward at (0 * w) = omega (arith, small) in
    rw none (ap (λ (n : ℕ). Ok ([], place n rest)) here)
records_whole w (suc n) at into rest small len =
    let room : length into ≡ n * w + w = len ∙ suc-mul n w in
    let long : ltb (length (into ++ rest)) w ≡ false = le-ltb _ _ (omega (arith, length-append into rest, room)) in
    let left : length (drop w into) ≡ n * w = omega (arith, length-drop w into, room) in
    let front : take w (into ++ rest) ≡ take w into = take-append-le w into rest (omega (arith, room)) in
    let behind : drop w (into ++ rest) ≡ drop w into ++ rest = drop-append-le w into rest (omega (arith, room)) in
    let total : forward (forward at w) (n * w) ≡ forward at (suc n * w) = omega (arith, suc-mul n w) in
    let more = records_whole w n (forward at w) (drop w into) rest (omega arith) left in
    step w n (place at (into ++ rest)) long ∙ rw (behind, more, front, total) refl

-- ---- the file ends before

pub records_short : (w n k at : ℕ) (bytes : List ℕ) → at ≤ last → k * w ≤ length bytes
    → length bytes < k * w + w
    → k < n → run (repeated n (bytes_field w no_check)) (place at bytes) ≡ Err (short_at (forward at (k * w)))
records_short w zero k at bytes small few less lt = absurd (omega (arith, lt))
records_short w (suc n) zero at bytes small few less lt =
    let short : ltb (length bytes) w ≡ true = lt-ltb _ _ (omega (arith, less)) in
    let here : at ≡ forward at (0 * w) = omega (arith, small) in
    one-more (one w) n (place at bytes) ∙ rw short (ap (λ (n : ℕ). Err (short_at n)) here)
records_short w (suc n) (suc k) at bytes small few less lt =
    let long : ltb (length bytes) w ≡ false = le-ltb _ _ (omega (arith, few, suc-mul k w)) in
    let left = length-drop w bytes in
    let some : k * w ≤ length (drop w bytes) = omega (arith, few, left, suc-mul k w) in
    let fewer : length (drop w bytes) < k * w + w = omega (arith, less, few, left, suc-mul k w) in
    let total : forward (forward at w) (k * w) ≡ forward at (suc k * w) = omega (arith, suc-mul k w) in
    let more = records_short w n k (forward at w) (drop w bytes) (omega arith) some fewer (omega (arith, lt)) in
    step w n (place at bytes) long ∙ rw (more, total) refl

-- ---- as a buffer was filled

module _ (ahead later into : List ℕ) (w n at got : ℕ) where
  -- the buffer has n fields
  pub filled_whole : (a b : Option Contents) (stands : ℕ) → IsTold a
      → WhereTold a b (Fills {E = Trouble} ahead later into (Ok got)) → at ≤ last → length into ≡ n * w
      → length into ≤ got → stands ≡ forward at (length into)
      → run (repeated n (one w)) (place_of at ahead a) ≡ Ok (chunks_of w n into, place_of stands later b)
  filled_whole None b stands told h small len all is = absurd cc
  filled_whole (Some a) None stands told h small len all is = absurd h
  filled_whole (Some a) (Some b) stands told h small len all is =
      let given : take got into ≡ into = take_all got into all in
      let bytes : ahead ++ a.reading ≡ into ++ (later ++ b.reading) =
      h.bytes ∙ ap (λ (t : List ℕ). t ++ (later ++ b.reading)) given in
      let ends : stands ≡ forward at (n * w) = is ∙ ap (forward at) len in
      rw (bytes, ends) (records_whole w n at into (later ++ b.reading) small len)

  -- the file ends before
  pub filled_short : (a b : Option Contents) (fault : FileFault) → IsTold a
      → WhereTold a b (Fills {E = Trouble} ahead later into (Ok got)) → at ≤ last → length into ≡ n * w
      → 0 < w
      → got < length into → fault ≡ short_at (forward at (got / w * w))
      → run (repeated n (one w)) (place_of at ahead a) ≡ Err fault
  filled_short None b fault told h small len some few is = absurd cc
  filled_short (Some a) None fault told h small len some few is = absurd h
  filled_short (Some a) (Some b) fault told h small len some few is =
      let bytes : ahead ++ a.reading ≡ take got into =
      h.bytes ∙ ap (λ (t : List ℕ). take got into ++ t) (h.ended few) ∙ append-nil (take got into) in
      let held : length (ahead ++ a.reading) ≡ got = ap length bytes
      ∙ length-take-le got into (omega (arith, few)) in
      let k = got / w in
      let least : k * w ≤ got = div-mul-le_self got w in
      let most : got < k * w + w = lt-div-mul-add some in
      let lt : k < n = lt_of_mul-lt-mul_right w (omega (arith, least, few, len)) in
      rw is (records_short w n k at (ahead ++ a.reading) small (omega (arith, least, held))
      (omega (arith, most, held)) lt)
