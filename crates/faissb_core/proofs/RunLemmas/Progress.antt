-- Bytes in pieces.
use Rattle.std.proofs.Common.{◌≡◌, ◌||◌, Some, None, is_some, ◌≢◌, ℕ, ◌≤◌, Option, List, [], ◌∷◌, ◌++◌, Bool, true}
use Rattle.std.proofs.Common.{false, cond, eqb, length, take, All, refl, sym, ◌∙◌, ap, arith}
use Rattle.std.proofs.Math.Bool.{or_assoc}
use Rattle.std.proofs.lemmas.List.{append_assoc, append-nil, take_all, length-take}
use Rattle.std.proofs.lemmas.List.Elements.{recursion_from_All}
use Rattle.faissb_core.specs.Runs.Limits.{line_kept}
use Rattle.faissb_core.proofs.RunLemmas.Kept.{keep-keep}
use Rattle.faissb_core.proofs.RunLemmas.Lines.{IsPart, plain_test}
use Rattle.faissb_core.specs.Runs.Progress.{Held, Progress, beside, hold_part, end_line, end_text, feed, fed_text}
use Rattle.faissb_core.specs.Runs.Progress.{fed_loads}
use Rattle.faissb_core.specs.Language.Lines.{is_load}
use Rattle.outside.specs.Contents.{Files, Contents, HasFiles, Fits}
use Rattle.std.proofs.lemmas.Bool.{false≢true}

pub feed-append : (p : Progress) (xs ys : List ℕ) → feed p (xs ++ ys) ≡ feed (feed p xs) ys
feed-append p [] ys = refl
feed-append p (b ∷ xs) ys = elim (eqb b 10) as
    (λ v. cond v (feed (end_line p) (xs ++ ys)) (feed (hold_part p (b ∷ [])) (xs ++ ys))
    ≡ feed (cond v (feed (end_line p) xs) (feed (hold_part p (b ∷ [])) xs)) ys) [
      | true ↦ feed-append (end_line p) xs ys
      | false ↦ feed-append (hold_part p (b ∷ [])) xs ys
    ]

pub fed_text-append : (p : Progress) (xs ys : List ℕ) → fed_text p (xs ++ ys) ≡ fed_text p xs ++ fed_text (feed p xs) ys
fed_text-append p [] ys = refl
fed_text-append p (b ∷ xs) ys = elim (eqb b 10) as
    (λ v. cond v (end_text p ++ fed_text (end_line p) (xs ++ ys)) (fed_text (hold_part p (b ∷ [])) (xs ++ ys))
    ≡ cond v (end_text p ++ fed_text (end_line p) xs) (fed_text (hold_part p (b ∷ [])) xs) ++ fed_text
    (cond v (feed (end_line p) xs) (feed (hold_part p (b ∷ [])) xs)) ys) [
      | true ↦ ap (λ (l : List ℕ). end_text p ++ l) (fed_text-append (end_line p) xs ys)
          ∙ sym (append_assoc (end_text p) _ _)
      | false ↦ fed_text-append (hold_part p (b ∷ [])) xs ys
    ]

abbrev pub IsPlain : List ℕ → Type 0
IsPlain bytes = All (λ b. b ≢ 10) bytes

-- the same with another line
abbrev held_line : Held → List ℕ → Held
held_line h line = record h { line = line }

hold-hold : (p : Progress) (xs ys : List ℕ) → hold_part (hold_part p xs) ys ≡ hold_part p (xs ++ ys)
hold-hold p xs ys =
    ap (λ (l : List ℕ). beside (held_line p.held l) p.files)
    (keep-keep line_kept (p.held.line ++ xs) ys
    ∙ ap (λ (l : List ℕ). take line_kept l) (append_assoc p.held.line xs ys))

-- no line ends
feed-plain_by : (p : Progress) (xs : List ℕ) → length p.held.line ≤ line_kept → IsPart xs → feed p xs ≡ hold_part p xs
feed-plain_by p [] short plain =
    ap (λ (l : List ℕ). beside (held_line p.held l) p.files)
    (sym (ap (λ (l : List ℕ). take line_kept l) (append-nil p.held.line) ∙ take_all line_kept p.held.line short))
feed-plain_by p (b ∷ xs) short plain =
    ap (λ (v : Bool). cond v (feed (end_line p) xs) (feed (hold_part p (b ∷ [])) xs)) (plain_test b plain.0)
    ∙ feed-plain_by (hold_part p (b ∷ [])) xs (omega (arith, length-take line_kept (p.held.line ++ b ∷ []))) plain.1
    ∙ hold-hold p (b ∷ []) xs

fed_text-plain_by : (p : Progress) (xs : List ℕ) → IsPart xs → fed_text p xs ≡ []
fed_text-plain_by p [] plain = refl
fed_text-plain_by p (b ∷ xs) plain =
    ap (λ (v : Bool). cond v (end_text p ++ fed_text (end_line p) xs) (fed_text (hold_part p (b ∷ [])) xs))
    (plain_test b plain.0)
    ∙ fed_text-plain_by (hold_part p (b ∷ [])) xs plain.1

pub feed-plain : (p : Progress) (xs : List ℕ) → length p.held.line ≤ line_kept → IsPlain xs → feed p xs ≡ hold_part p xs
feed-plain p xs short plain = feed-plain_by p xs short (recursion_from_All (λ b. b ≢ 10) xs plain)

pub fed_text-plain : (p : Progress) (xs : List ℕ) → IsPlain xs → fed_text p xs ≡ []
fed_text-plain p xs plain = fed_text-plain_by p xs (recursion_from_All (λ b. b ≢ 10) xs plain)

-- loads
pub fed_loads-append : (p : Progress) (xs ys : List ℕ)
    → fed_loads p (xs ++ ys) ≡ (fed_loads p xs || fed_loads (feed p xs) ys)
fed_loads-append p [] ys = refl
fed_loads-append p (b ∷ xs) ys = elim (eqb b 10) as
    (λ v. cond v (is_load p.held.line || fed_loads (end_line p) (xs ++ ys))
    (fed_loads (hold_part p (b ∷ [])) (xs ++ ys))
    ≡ (cond v (is_load p.held.line || fed_loads (end_line p) xs) (fed_loads (hold_part p (b ∷ [])) xs) ||
    fed_loads (cond v (feed (end_line p) xs) (feed (hold_part p (b ∷ [])) xs)) ys)) [
      | true ↦ ap (λ (v : Bool). is_load p.held.line || v) (fed_loads-append (end_line p) xs ys)
          ∙ sym (or_assoc (is_load p.held.line) (fed_loads (end_line p) xs) (fed_loads (feed (end_line p) xs) ys))
      | false ↦ fed_loads-append (hold_part p (b ∷ [])) xs ys
    ]

fed_loads-plain_by : (p : Progress) (xs : List ℕ) → IsPart xs → fed_loads p xs ≡ false
fed_loads-plain_by p [] plain = refl
fed_loads-plain_by p (b ∷ xs) plain =
    ap (λ (v : Bool). cond v (is_load p.held.line || fed_loads (end_line p) xs) (fed_loads (hold_part p (b ∷ [])) xs))
    (plain_test b plain.0)
    ∙ fed_loads-plain_by (hold_part p (b ∷ [])) xs plain.1

pub fed_loads-line : (p : Progress) (line more bytes : List ℕ) → length p.held.line ≤ line_kept → IsPlain line
    → bytes ≡ line ++ 10 ∷ more
    → fed_loads p bytes ≡ (is_load (hold_part p line).held.line || fed_loads (end_line (hold_part p line)) more)
fed_loads-line p line more bytes short plain is =
    ap (λ (l : List ℕ). fed_loads p l) is ∙ fed_loads-append p line (10 ∷ more)
    ∙ ap (λ (v : Bool). v || fed_loads (feed p line) (10 ∷ more))
    (fed_loads-plain_by p line (recursion_from_All (λ b. b ≢ 10) line plain))
    ∙ ap (λ (q : Progress). fed_loads q (10 ∷ more)) (feed-plain p line short plain)

or_none : (a b : Bool) → (a || b) ≡ false → (a ≡ false) × (b ≡ false)
or_none true b none = absurd (false≢true (sym none))
or_none false b none = (refl, none)

-- where both of two steps fit, the first does
pub Fits-first : (files : Files) (contents : Option Contents) (a b c : Bool) → c ≡ (a || b) → Fits files contents c
    → Fits files contents a
Fits-first files None a b c is fits = (or_none a b (sym is ∙ fits)).0
Fits-first files (Some contents) a b c is fits = fits

-- and the second does after it
pub Fits-second : (files new : Files) (contents new_contents : Option Contents) (a b c : Bool) → c ≡ (a || b)
    → is_some new_contents ≡ is_some contents
    → HasFiles new new_contents → Fits files contents c → Fits new new_contents b
Fits-second files new None None a b c is tells has fits = (or_none a b (sym is ∙ fits)).1
Fits-second files new None (Some d) a b c is tells has fits = absurd (false≢true (sym tells))
Fits-second files new (Some d) None a b c is tells has fits = absurd (false≢true tells)
Fits-second files new (Some d) (Some e) a b c is tells has fits = has

-- files that fit are those of the shelf
pub HasFiles-fits : (files : Files) (contents : Option Contents) (a : Bool) → Fits files contents a
    → HasFiles files contents
HasFiles-fits files None a fits = tt
HasFiles-fits files (Some d) a fits = fits
