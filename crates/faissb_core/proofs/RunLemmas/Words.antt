-- Words that ask for no run, by their number.
use Rattle.std.proofs.Common.{◌≡◌, ◌≤◌, Bool, true, false, cond, List, [], ◌∷◌, length, Option, None, refl, arith}
use Rattle.std.specs.Prelude.{codes}
use Rattle.std.specs.Str.{bytes_eq}
use Rattle.faissb_core.specs.Language.Words.{Word}
use Rattle.faissb_core.specs.Runs.Words.{Run, run_of}

none_of : (a b c : Bool) → cond {A = Option Run} a None (cond b None (cond c None None)) ≡ None
none_of true b c = refl
none_of false true c = refl
none_of false false true = refl
none_of false false false = refl

pub many_words : (words : List Word) → 4 ≤ length words → run_of words ≡ None
many_words [] h = refl
many_words (u ∷ []) h = absurd (omega arith)
many_words (u ∷ v ∷ []) h = absurd (omega arith)
many_words (u ∷ v ∷ w ∷ []) h = absurd (omega arith)
many_words (u ∷ v ∷ w ∷ x ∷ words) h =
    none_of (bytes_eq u (codes "script")) (bytes_eq u (codes "check")) (bytes_eq u (codes "sample"))
