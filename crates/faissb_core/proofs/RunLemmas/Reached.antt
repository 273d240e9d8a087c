-- What is held byte by byte is what the plain machine has after the lines.
use Rattle.std.proofs.Common.{◌≡◌, ℕ, List, [], ◌∷◌, ◌++◌, Bool, false, cond, ◌||◌, take, refl, sym, ◌∙◌, ap, subst}
use Rattle.std.proofs.Common.{inl, inr}
use Rattle.std.specs.Prelude.{is_err}
use Rattle.std.proofs.Math.Bool.{or-false, or_assoc}
use Rattle.std.proofs.lemmas.Bool.{cases_eq}
use Rattle.std.proofs.lemmas.List.{append_assoc, append-nil}
use Rattle.std.proofs.lemmas.List.Folds.{list_any-append}
use Rattle.std.specs.List.{list_any}
use Rattle.outside.specs.Contents.{Files}
use Rattle.faissb_core.specs.Language.Lines.{lines, is_load}
use Rattle.faissb_core.specs.Reply.Text.{reply_text}
use Rattle.faissb_core.specs.Machine.State.{State, start}
use Rattle.faissb_core.specs.Machine.Step.{Step, step}
use Rattle.faissb_core.specs.Machine.Script.{state_after, files_after, script_text, script_files, script_refuses}
use Rattle.faissb_core.specs.Runs.Limits.{line_kept}
use Rattle.faissb_core.specs.Runs.ScriptRun.{loads}
use Rattle.faissb_core.specs.Runs.Progress.{Progress, nothing_held, beside, hold_part, end_line, end_text, feed}
use Rattle.faissb_core.specs.Runs.Progress.{fed_text, fed_loads, if_none, last, last_text}
use Rattle.faissb_core.proofs.RunLemmas.Kept.{keep-keep}
use Rattle.faissb_core.proofs.RunLemmas.Lines.{IsPart, plain_test, IsPart-push, IsPart-unended, ended_lines, unended}
use Rattle.faissb_core.proofs.RunLemmas.Lines.{lines-append, lines-part, ended-line, ended-part}
use Rattle.faissb_core.proofs.RunLemmas.Steps.{text_after, refused_after, step-kept, is_load-kept, text-append}
use Rattle.faissb_core.proofs.RunLemmas.Steps.{files-append, refused-append}

-- where a run is that was at a state and files, and has gone on by the whole bytes
pub record Reached (state : State) (files : Files) (refused : Bool) (whole text : List ℕ) (looks : Bool)
    (end : Progress) : Type 0 where
  pub state_is : end.held.state ≡ state_after state files (ended_lines whole)
  pub files_is : end.files ≡ files_after state files (ended_lines whole)
  pub refused_is : end.held.refused ≡ (refused || refused_after state files (ended_lines whole))
  pub text_is : text ≡ text_after state files (ended_lines whole)
  pub loads_is : looks ≡ list_any is_load (ended_lines whole)
  pub held_is : end.held.line ≡ take line_kept (unended whole)

module _ (p : Progress) (raw : List ℕ) (held : p.held.line ≡ take line_kept raw) (part : IsPart raw) where
  reached_rest : Reached p.held.state p.files p.held.refused raw [] false p
  reached_rest =
      let none : ended_lines raw ≡ [] = (ended-part raw part).0 in
      record {
        state_is = sym (ap (λ (ls : List (List ℕ)). state_after p.held.state p.files ls) none);
        files_is = sym (ap (λ (ls : List (List ℕ)). files_after p.held.state p.files ls) none);
        refused_is = sym (or-false p.held.refused)
            ∙ sym (ap (λ (ls : List (List ℕ)). p.held.refused || refused_after p.held.state p.files ls) none);
        text_is = sym (ap (λ (ls : List (List ℕ)). text_after p.held.state p.files ls) none);
        loads_is = sym (ap (λ (ls : List (List ℕ)). list_any is_load ls) none);
        held_is = held ∙ sym (ap (λ (l : List ℕ). take line_kept l) (ended-part raw part).1);
      }

  same_step : step p.held.state p.files p.held.line ≡ step p.held.state p.files raw
  same_step = ap (λ (l : List ℕ). step p.held.state p.files l) held ∙ step-kept p.held.state p.files raw

  same_load : is_load p.held.line ≡ is_load raw
  same_load = ap (λ (l : List ℕ). is_load l) held ∙ is_load-kept raw

  reached_line : (bytes : List ℕ)
      → Reached (end_line p).held.state (end_line p).files (end_line p).held.refused bytes (fed_text (end_line p) bytes)
      (fed_loads (end_line p) bytes) (feed (end_line p) bytes)
      → Reached p.held.state p.files p.held.refused (raw ++ 10 ∷ bytes) (end_text p ++ fed_text (end_line p) bytes)
      (is_load p.held.line || fed_loads (end_line p) bytes) (feed (end_line p) bytes)
  reached_line bytes more =
      let ended : ended_lines (raw ++ 10 ∷ bytes) ≡ raw ∷ ended_lines bytes = (ended-line raw part bytes).0 in
      record {
        state_is = more.state_is ∙ ap (λ (s : Step). state_after s.state s.files (ended_lines bytes)) same_step
            ∙ sym (ap (λ (ls : List (List ℕ)). state_after p.held.state p.files ls) ended);
        files_is = more.files_is ∙ ap (λ (s : Step). files_after s.state s.files (ended_lines bytes)) same_step
            ∙ sym (ap (λ (ls : List (List ℕ)). files_after p.held.state p.files ls) ended);
        refused_is = more.refused_is
            ∙ or_assoc p.held.refused (is_err (step p.held.state p.files p.held.line).reply)
            (refused_after (end_line p).held.state (end_line p).files (ended_lines bytes))
            ∙ ap (λ (s : Step). p.held.refused || (is_err s.reply || refused_after s.state s.files (ended_lines bytes)))
            same_step
            ∙ sym (ap (λ (ls : List (List ℕ)). p.held.refused || refused_after p.held.state p.files ls) ended);
        text_is = ap (λ (l : List ℕ). end_text p ++ l) more.text_is
            ∙ ap (λ (s : Step). reply_text s.reply ++ text_after s.state s.files (ended_lines bytes)) same_step
            ∙ sym (ap (λ (ls : List (List ℕ)). text_after p.held.state p.files ls) ended);
        loads_is = ap (λ (v : Bool). is_load p.held.line || v) more.loads_is
            ∙ ap (λ (v : Bool). v || list_any is_load (ended_lines bytes)) same_load
            ∙ sym (ap (λ (ls : List (List ℕ)). list_any is_load ls) ended);
        held_is = more.held_is ∙ sym (ap (λ (l : List ℕ). take line_kept l) (ended-line raw part bytes).1);
      }

reached : (p : Progress) (raw bytes : List ℕ) → p.held.line ≡ take line_kept raw → IsPart raw
    → Reached p.held.state p.files p.held.refused (raw ++ bytes) (fed_text p bytes) (fed_loads p bytes) (feed p bytes)
reached p raw [] held part = subst (λ w. Reached p.held.state p.files p.held.refused w [] false p)
    (sym (append-nil raw)) (reached_rest p raw held part)
reached p raw (b ∷ bytes) held part = elim (cases_eq b 10) [
  | inl feeds ↦
      subst (λ n. Reached p.held.state p.files p.held.refused (raw ++ n ∷ bytes) (fed_text p (n ∷ bytes))
      (fed_loads p (n ∷ bytes)) (feed p (n ∷ bytes))) (sym feeds)
      (reached_line p raw held part bytes (reached (end_line p) [] bytes refl tt))
  | inr other ↦
      let kept : take line_kept (p.held.line ++ b ∷ []) ≡ take line_kept (raw ++ b ∷ []) =
      ap (λ (h : List ℕ). take line_kept (h ++ b ∷ [])) held ∙ keep-keep line_kept raw (b ∷ []) in
      let more = reached (hold_part p (b ∷ [])) (raw ++ b ∷ []) bytes kept (IsPart-push raw b part other) in
      let whole = subst (λ w. Reached p.held.state p.files p.held.refused w (fed_text (hold_part p (b ∷ [])) bytes)
      (fed_loads (hold_part p (b ∷ [])) bytes) (feed (hold_part p (b ∷ [])) bytes)) (append_assoc raw (b ∷ [])
      bytes) more in
      subst (λ v. Reached p.held.state p.files p.held.refused (raw ++ b ∷ bytes)
      (cond v (end_text p ++ fed_text (end_line p) bytes) (fed_text (hold_part p (b ∷ [])) bytes))
      (cond v (is_load p.held.line || fed_loads (end_line p) bytes) (fed_loads (hold_part p (b ∷ [])) bytes))
      (cond v (feed (end_line p) bytes) (feed (hold_part p (b ∷ [])) bytes)))
      (sym (plain_test b other)) whole
]

-- a run that begins
abbrev pub begin : Files → Progress
begin files = beside nothing_held files

pub reached_from_begin : (files : Files) (bytes : List ℕ)
    → Reached start files false bytes (fed_text (begin files) bytes) (fed_loads (begin files) bytes)
    (feed (begin files) bytes)
reached_from_begin files bytes = reached (begin files) [] bytes refl tt

-- the end of the input ends the held line
record Lasts (p : Progress) (raw : List ℕ) : Type 0 where
  text_is : last_text p ≡ text_after p.held.state p.files (lines raw)
  files_is : (last p).files ≡ files_after p.held.state p.files (lines raw)
  refused_is : (last p).held.refused ≡ (p.held.refused || refused_after p.held.state p.files (lines raw))
  loads_is : if_none p.held.line false (is_load p.held.line) ≡ list_any is_load (lines raw)

lasts : (p : Progress) (raw : List ℕ) → p.held.line ≡ take line_kept raw → IsPart raw → Lasts p raw
lasts p [] held part = record {
  text_is = ap (λ (h : List ℕ). if_none h [] (end_text p)) held;
  files_is = ap (λ (h : List ℕ). (if_none h p (end_line p)).files) held;
  refused_is = ap (λ (h : List ℕ). (if_none h p (end_line p)).held.refused) held ∙ sym (or-false p.held.refused);
  loads_is = ap (λ (h : List ℕ). if_none h false (is_load p.held.line)) held;
}
lasts p (b ∷ raw) held part =
    let line : List ℕ = b ∷ raw in
    let one : lines line ≡ line ∷ [] = lines-part b raw part in
    let same : step p.held.state p.files p.held.line ≡ step p.held.state p.files line = same_step p line held part in
    record {
      text_is = ap (λ (h : List ℕ). if_none h [] (end_text p)) held
          ∙ ap (λ (s : Step). reply_text s.reply) same
          ∙ sym (append-nil (reply_text (step p.held.state p.files line).reply))
          ∙ sym (ap (λ (ls : List (List ℕ)). text_after p.held.state p.files ls) one);
      files_is = ap (λ (h : List ℕ). (if_none h p (end_line p)).files) held
          ∙ ap (λ (s : Step). s.files) same
          ∙ sym (ap (λ (ls : List (List ℕ)). files_after p.held.state p.files ls) one);
      refused_is = ap (λ (h : List ℕ). (if_none h p (end_line p)).held.refused) held
          ∙ ap (λ (s : Step). p.held.refused || is_err s.reply) same
          ∙ ap (λ (v : Bool). p.held.refused || v) (sym (or-false (is_err (step p.held.state p.files line).reply)))
          ∙ sym (ap (λ (ls : List (List ℕ)). p.held.refused || refused_after p.held.state p.files ls) one);
      loads_is = ap (λ (h : List ℕ). if_none h false (is_load p.held.line)) held
          ∙ same_load p line held part
          ∙ sym (or-false (is_load line))
          ∙ sym (ap (λ (ls : List (List ℕ)). list_any is_load ls) one);
    }

-- the whole script
pub record Whole (files : Files) (bytes : List ℕ) (p : Progress) : Type 0 where
  pub text_is : fed_text (begin files) bytes ++ last_text p ≡ script_text bytes files
  pub files_is : (last p).files ≡ script_files bytes files
  pub refused_is : (last p).held.refused ≡ script_refuses bytes files
  pub loads_is : loads bytes ≡ (fed_loads (begin files) bytes || if_none p.held.line false (is_load p.held.line))

pub whole : (files : Files) (bytes : List ℕ) → Whole files bytes (feed (begin files) bytes)
whole files bytes =
    let p : Progress = feed (begin files) bytes in
    let at = reached_from_begin files bytes in
    let ended : List (List ℕ) = ended_lines bytes in
    let rest : List (List ℕ) = lines (unended bytes) in
    let all : lines bytes ≡ ended ++ rest =
    ap (λ (l : List ℕ). lines l) (sym (append-nil bytes)) ∙ lines-append bytes []
    ∙ ap (λ (l : List ℕ). ended ++ lines l) (append-nil (unended bytes)) in
    let end = lasts p (unended bytes) at.held_is (IsPart-unended bytes) in
    record {
      text_is = (λ i. at.text_is i ++ end.text_is i)
          ∙ (λ i. text_after start files ended ++ text_after (at.state_is i) (at.files_is i) rest)
          ∙ sym (text-append start files ended rest) ∙ sym (ap (λ (ls : List (List ℕ)). text_after start files ls) all);
      files_is = end.files_is
          ∙ (λ i. files_after (at.state_is i) (at.files_is i) rest)
          ∙ sym (files-append start files ended rest)
          ∙ sym (ap (λ (ls : List (List ℕ)). files_after start files ls) all);
      refused_is = end.refused_is
          ∙ (λ i. at.refused_is i || refused_after (at.state_is i) (at.files_is i) rest)
          ∙ sym (refused-append start files ended rest)
          ∙ sym (ap (λ (ls : List (List ℕ)). refused_after start files ls) all);
      loads_is = ap (λ (ls : List (List ℕ)). list_any is_load ls) all ∙ list_any-append is_load ended rest
          ∙ sym (λ i. at.loads_is i || end.loads_is i);
    }
