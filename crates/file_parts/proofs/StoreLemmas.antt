-- Bytes that are written one after the other.
use Rattle.std.proofs.Common.{◌≡◌, ℕ, List, ◌++◌, length, Option, Some, None, Result, Ok, refl, ap}
use Rattle.std.proofs.Common.{◌∙◌, append_assoc, length-append, arith, []}
use Rattle.std.proofs.lemmas.List.{append-nil}
use Rattle.outside.specs.Calls.{WhereTold, AppendsTo}
use Rattle.outside.specs.Contents.{Files, Contents}
use Rattle.outside.specs.declared.trouble.Trouble.{Trouble}
use Rattle.bcodes.specs.Ranges.{raised}
use Rattle.file_parts.specs.Storing.{Made, made_in, files_in, put_behind, Written, written_in, behind}

-- what a shelf did with a piece
pub appended : (bytes : List ℕ) (at later : ℕ) (old new : Option Contents)
    → WhereTold old new (AppendsTo bytes (Ok tt)) → later ≡ raised at (length bytes)
    → written_in later new ≡ behind bytes (written_in at old)
unfolding behind
appended bytes at later None None h e = ap (λ (n : ℕ). written_in n None) e
appended bytes at later None (Some new) h e = absurd h
appended bytes at later (Some old) None h e = absurd h
appended bytes at later (Some old) (Some new) h e =
    let made : made_in (Some new) ≡ put_behind bytes (made_in (Some old)) = cc (h.files, h.name_stays, h.bytes) in
    cc

pub same_files : (bytes : List ℕ) (r : Result (Unit {0}) Trouble) (old new : Option Contents)
    → WhereTold old new (AppendsTo bytes r) → files_in new ≡ files_in old
same_files bytes r None None h = refl
same_files bytes r None (Some new) h = absurd h
same_files bytes r (Some old) None h = absurd h
same_files bytes r (Some old) (Some new) h = ap (λ (f : Files). some-files f) h.files
  where
    some-files : Files → Option Files
    some-files f = Some f

-- bytes, and then bytes behind them
pub behind_twice : (x y : List ℕ) (w : Written) → behind y (behind x w) ≡ behind (x ++ y) w
unfolding behind
behind_twice x y w =
    ap (λ (n : ℕ). written n (put_behind y (put_behind x w.made))) at
    ∙ ap (λ (m : Option Made). written (raised w.at (length (x ++ y))) m) (both w.made)
  where
    written : ℕ → Option Made → Written
    written at made = record { at = at; made = made }

    at : raised (raised w.at (length x)) (length y) ≡ raised w.at (length (x ++ y))
    at = omega (arith, length-append x y)

    both : (m : Option Made) → put_behind y (put_behind x m) ≡ put_behind (x ++ y) m
    both None = refl
    both (Some m) = ap (λ (bytes : List ℕ). some-made (record m { bytes = bytes })) (append_assoc m.bytes x y)
      where
        some-made : Made → Option Made
        some-made made = Some made

-- nothing behind what was written
pub behind_none : (w : Written) → behind [] w ≡ w
unfolding behind
behind_none w =
    ap (λ (n : ℕ). written n (put_behind [] w.made)) at ∙ ap (λ (m : Option Made). written w.at m) (same w.made)
  where
    written : ℕ → Option Made → Written
    written at made = record { at = at; made = made }

    at : raised w.at 0 ≡ w.at
    at = omega arith

    same : (m : Option Made) → put_behind [] m ≡ m
    same None = refl
    same (Some m) = ap (λ (bytes : List ℕ). some-made (record m { bytes = bytes })) (append-nil m.bytes)
      where
        some-made : Made → Option Made
        some-made made = Some made

-- one part was written, and then another
pub and_then : (x y : List ℕ) (a b c : Written) → b ≡ behind x a → c ≡ behind y b → c ≡ behind (x ++ y) a
and_then x y a b c first second = second ∙ ap (behind y) first ∙ behind_twice x y a
