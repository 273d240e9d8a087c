-- The plain machine over lines that go on.
use Rattle.std.proofs.Common.{◌≡◌, ℕ, ◌+◌, ◌≤◌, List, [], ◌∷◌, ◌++◌, Bool, true, ◌||◌, length, take, drop, ltb, refl}
use Rattle.std.proofs.Common.{sym, ◌∙◌, ap, inl, inr, arith, length-append}
use Rattle.std.specs.Prelude.{is_err}
use Rattle.std.proofs.lemmas.Bool.Decides.{nat_tests}
use Rattle.std.proofs.lemmas.Bool.{cases_lt}
use Rattle.std.proofs.Math.Bool.{or_assoc}
use Rattle.std.proofs.lemmas.List.{append_assoc, take_all, length-take}
use Rattle.std.proofs.Math.Seq.{take-add}
use Rattle.outside.specs.Contents.{Files}
use Rattle.faissb_core.specs.Language.Lines.{Line, line_of, line_limit, reads_file, writes_file, is_load, is_save}
use Rattle.faissb_core.specs.Reply.Text.{reply_text}
use Rattle.faissb_core.specs.Machine.State.{State}
use Rattle.faissb_core.specs.Machine.Step.{Step, step, step_with, line_outcome}
use Rattle.faissb_core.specs.Machine.Script.{steps, text_of, has_refusal, state_after, files_after}
use Rattle.faissb_core.specs.Runs.Limits.{line_kept}

-- the text of the replies to some lines, and whether one of them is a refusal
abbrev pub text_after : State → Files → List (List ℕ) → List ℕ
text_after state files lines = text_of (steps state files lines)

abbrev pub refused_after : State → Files → List (List ℕ) → Bool
refused_after state files lines = has_refusal (steps state files lines)

-- what is kept of a line decides what it says
line_of-kept : (line : List ℕ) → line_of (take line_kept line) ≡ line_of line
unfolding line_of
line_of-kept line = elim (cases_lt line_limit (length line)) [
  | inl long ↦
      let kept : ltb line_limit (length (take line_kept line))
      ≡ true = grind (arith, nat_tests, length-take line_kept line) in
      let all : ltb line_limit (length line) ≡ true = grind (arith, nat_tests) in
      rw (kept, all)
  | inr short ↦
      let whole : take line_kept line ≡ line = take_all line_kept line (omega arith) in
      ap (λ (l : List ℕ). line_of l) whole
]

pub step-kept : (state : State) (files : Files) (line : List ℕ)
    → step state files (take line_kept line) ≡ step state files line
unfolding step
step-kept state files line = ap (λ (l : Line). step_with state files (line_outcome l state files)) (line_of-kept line)

pub is_load-kept : (line : List ℕ) → is_load (take line_kept line) ≡ is_load line
is_load-kept line = ap reads_file (line_of-kept line)

pub is_save-kept : (line : List ℕ) → is_save (take line_kept line) ≡ is_save line
is_save-kept line = ap writes_file (line_of-kept line)

pub text-append : (state : State) (files : Files) (xs ys : List (List ℕ))
    → text_after state files (xs ++ ys)
    ≡ text_after state files xs ++ text_after (state_after state files xs) (files_after state files xs) ys
text-append state files [] ys = refl
text-append state files (x ∷ xs) ys =
    let done : Step = step state files x in
    ap (λ (l : List ℕ). reply_text done.reply ++ l) (text-append done.state done.files xs ys)
    ∙ sym (append_assoc (reply_text done.reply) _ _)

pub files-append : (state : State) (files : Files) (xs ys : List (List ℕ))
    → files_after state files (xs ++ ys) ≡ files_after (state_after state files xs) (files_after state files xs) ys
files-append state files [] ys = refl
files-append state files (x ∷ xs) ys = let done : Step = step state files x in files-append done.state done.files xs ys

pub refused-append : (state : State) (files : Files) (xs ys : List (List ℕ))
    → refused_after state files (xs ++ ys)
    ≡ (refused_after state files xs || refused_after (state_after state files xs) (files_after state files xs) ys)
refused-append state files [] ys = refl
refused-append state files (x ∷ xs) ys =
    let done : Step = step state files x in
    ap (λ (v : Bool). is_err done.reply || v) (refused-append done.state done.files xs ys)
    ∙ sym (or_assoc (is_err done.reply) _ _)

-- fewer lines have no longer text
pub text-shorter : (state : State) (files : Files) (ls : List (List ℕ)) (m k : ℕ)
    → length (text_after state files (take m ls)) ≤ length (text_after state files (take (m + k) ls))
text-shorter state files ls m k =
    let more : text_after state files (take (m + k) ls)
    ≡ text_after state files (take m ls) ++ text_after (state_after state files (take m ls))
    (files_after state files (take m ls)) (take k (drop m ls)) =
    ap (λ (l : List (List ℕ)). text_after state files l) (take-add m k ls)
    ∙ text-append state files (take m ls) (take k (drop m ls)) in
    omega (
      arith,
      ap length more,
      length-append (text_after state files (take m ls))
          (text_after (state_after state files (take m ls)) (files_after state files (take m ls)) (take k (drop m ls))),
    )
