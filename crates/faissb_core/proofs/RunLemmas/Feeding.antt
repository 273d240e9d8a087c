-- Lines fed one after the other, and what is left where one of them fails.
use Rattle.std.proofs.Common.{◌≡◌, ◌⊎◌, inl, inr, ℕ, ◌≤◌, List, [], ◌∷◌, ◌++◌, Bool, true, false, ◌||◌, IsTrue, Option}
use Rattle.std.proofs.Common.{is_some, Result, Ok, Err, IsErrAnd, take, length, refl, sym, ◌∙◌, ap, subst}
use Rattle.std.proofs.lemmas.List.{append_assoc, append-nil}
use Rattle.std.specs.Io.KnownBytes.{Appends}
use Rattle.std.proofs.KnownBytes.{Appends-nil, Appends-trans}
use Rattle.outside.specs.Contents.{Contents, HasFiles, Fits}
use Rattle.faissb_core.specs.declared.session.stop.Stop.{Stop}
use Rattle.faissb_core.specs.declared.session.stop.Stop.TheVariants.{ShelfFailed, Memory as NoMemory}
use Rattle.faissb_core.specs.declared.runs.fault.Fault.{Fault}
use Rattle.faissb_core.specs.declared.runs.fault.Fault.TheVariants.{Memory}
use Rattle.faissb_core.specs.Language.Lines.{is_save, is_load}
use Rattle.faissb_core.specs.Runs.Limits.{line_kept}
use Rattle.faissb_core.specs.Runs.Faults.{fault_of_stop}
use Rattle.faissb_core.specs.Runs.Devices.{Outputs}
use Rattle.faissb_core.specs.Runs.Progress.{Progress, Held, beside, hold, hold_part, end_line, end_text, feed, fed_text}
use Rattle.faissb_core.specs.Runs.Progress.{fed_loads, ComesTo}
use Rattle.faissb_core.specs.Runs.LineFailure.{IsBefore, IsAfter, FaultLeaves, LineFails, FeedFails}
use Rattle.faissb_core.specs.Runs.Outcomes.{Feeds}
use Rattle.faissb_core.proofs.RunLemmas.Progress.{IsPlain, feed-append, fed_text-append, feed-plain, fed_text-plain}
use Rattle.faissb_core.proofs.RunLemmas.Progress.{fed_loads-line, Fits-first, Fits-second, HasFiles-fits}

-- the files of a save are left by a save alone
by_save : (saves : Bool) (A B : Type 0) → B → (saves ≡ false → A) → A ⊎ (IsTrue saves × B)
by_save true A B after other = inr (refl, after)
by_save false A B after other = inl (other refl)

stop_leaves : (p : Progress) (after : Outputs) (stop : Stop) → IsBefore p after ⊎ IsAfter p after
    → (stop ≡ NoMemory → IsBefore p after) → (is_save p.held.line ≡ false → IsBefore p after)
    → (stop ≡ ShelfFailed → IsTrue (is_save p.held.line || is_load p.held.line))
    → FaultLeaves (fault_of_stop stop) p 0 after
stop_leaves p after ShelfFailed (inl kept) memory save_only which =
    (refl, record { uses_shelf = which refl; files = inl kept })
stop_leaves p after ShelfFailed (inr done) memory save_only which =
    (refl, record { uses_shelf = which refl; files = by_save (is_save p.held.line) _ _ done save_only })
stop_leaves p after NoMemory kept memory save_only which = inl (refl, memory refl)

-- a line that was not applied
pub not_applied : (p : Progress) (written : Option (List ℕ)) (contents new_contents : Option Contents) (stop : Stop)
    (fault : Fault) → fault ≡ fault_of_stop stop
    → HasFiles p.files new_contents ⊎ HasFiles (end_line p).files new_contents
    → (stop ≡ NoMemory → HasFiles p.files new_contents)
    → (is_save p.held.line ≡ false → HasFiles p.files new_contents)
    → (stop ≡ ShelfFailed → IsTrue (is_save p.held.line || is_load p.held.line))
    → LineFails p (record { written = written; contents = contents })
    (record { written = written; contents = new_contents }) fault
not_applied p written contents new_contents stop fault is kept memory save_only which = record {
  len = 0;
  text = Appends-nil written;
  leaves = subst (λ f. FaultLeaves f p 0 (record { written = written; contents = new_contents })) (sym is)
      (stop_leaves p (record { written = written; contents = new_contents }) stop kept memory save_only which);
}

-- so far: these first bytes are done and answered
pub record Come (all : Progress) (bytes : List ℕ) (held : Held) (rest : List ℕ) (before now : Outputs) : Type 0 where
  pub part : List ℕ
  pub parts : part ++ rest ≡ bytes
  pub at : held ≡ (feed all part).held
  pub fits : Fits (feed all part).files now.contents (fed_loads (feed all part) rest)
  pub text : Appends before.written now.written (fed_text all part)

-- nothing is done yet
pub Come-start : (all : Progress) (bytes : List ℕ) (now : Outputs) → Fits all.files now.contents (fed_loads all bytes)
    → Come all bytes all.held bytes now now
Come-start all bytes now fits = record
    { part = []; parts = refl; at = refl; fits = fits; text = Appends-nil now.written }

module _ (all : Progress) (bytes : List ℕ) (held : Held) (line rest : List ℕ) (before now : Outputs)
    (come : Come all bytes held rest before now)
    (short : length held.line ≤ line_kept) (plain : IsPlain line) where
  abbrev p : Progress
  p = feed all come.part

  -- where the line ends
  abbrev q : Progress
  q = feed all (come.part ++ line)

  at_p : beside held p.files ≡ p
  at_p = ap (λ (h : Held). beside h p.files) come.at

  short_p : length p.held.line ≤ line_kept
  short_p = subst (λ (h : Held). length h.line ≤ line_kept) come.at short

  q_is : q ≡ hold_part p line
  q_is = feed-append all come.part line ∙ feed-plain p line short_p plain

  pub at_line : (longer : Held) → longer ≡ hold held line → beside longer p.files ≡ q
  at_line longer is = ap (λ (h : Held). beside h p.files) is ∙ ap (λ (x : Progress). hold_part x line) at_p ∙ sym q_is

  text_line : fed_text all (come.part ++ line) ≡ fed_text all come.part
  text_line = fed_text-append all come.part line
      ∙ ap (λ (l : List ℕ). fed_text all come.part ++ l) (fed_text-plain p line plain)
      ∙ append-nil (fed_text all come.part)

  files_before : HasFiles q.files now.contents
  files_before = subst (λ y. HasFiles y.files now.contents) (sym q_is) (HasFiles-fits p.files now.contents _ come.fits)

  -- no room to hold the line
  not_held : (after : List ℕ) (fault : Fault) → fault ≡ Memory → line ++ after ≡ rest
      → FeedFails all bytes before now fault
  not_held after fault is_memory is_rest = record {
    part = come.part ++ line;
    rest = after;
    parts = append_assoc come.part line after ∙ ap (λ (l : List ℕ). come.part ++ l) is_rest ∙ come.parts;
    len = 0;
    text = subst (λ l. Appends before.written now.written l) (sym text_line ∙ sym (append-nil _)) come.text;
    leaves = subst (λ f. FaultLeaves f q 0 now) (sym is_memory) (inl (refl, files_before));
    place = inl (is_memory, refl, files_before);
  }

  pub feeds_not_held : (after : List ℕ) (longer : Held) (r : Result (Unit {0}) Fault) → line ++ after ≡ rest
      → IsErrAnd r (λ f. f ≡ Memory) → Feeds all bytes longer before now r
  feeds_not_held after longer (Ok x) is_rest is_err = absurd is_err
  feeds_not_held after longer (Err fault) is_rest is_err = not_held after fault is_err is_rest

  -- all bytes are fed
  pub Come-end : (longer : Held) → longer ≡ hold held line → line ≡ rest
      → ComesTo (feed all bytes) (fed_text all bytes) longer before now
  Come-end longer is is_rest =
      let whole : q ≡ feed all bytes = ap (λ (l : List ℕ). feed all (come.part ++ l)) is_rest
      ∙ ap (λ (l : List ℕ). feed all l) come.parts in
      record {
        held = ap (λ (y : Progress). y.held) (at_line longer is ∙ whole);
        shelf = subst (λ y. HasFiles y.files now.contents) whole files_before;
        text = subst (λ l. Appends before.written now.written l)
            (sym text_line ∙ ap (λ (l : List ℕ). fed_text all (come.part ++ l)) is_rest
            ∙ ap (λ (l : List ℕ). fed_text all l) come.parts) come.text;
      }

  module _ (longer : Held) (is : longer ≡ hold held line) (more : List ℕ) (is_rest : rest ≡ line ++ 10 ∷ more) where
    loads : fed_loads p rest ≡ (is_load longer.line || fed_loads (end_line q) more)
    loads = fed_loads-line p line more rest short_p plain is_rest
        ∙ ap (λ (y : Progress). is_load y.held.line || fed_loads (end_line y) more) (sym q_is)
        ∙ ap (λ (y : Progress). is_load y.held.line || fed_loads (end_line q) more) (sym (at_line longer is))

    pub fits-line : Fits p.files now.contents (is_load longer.line)
    fits-line = Fits-first p.files now.contents (is_load longer.line) (fed_loads (end_line q) more) _ loads come.fits

    -- the line fails
    line_fails : (new : Outputs) (fault : Fault) → LineFails (beside longer p.files) now new fault
        → FeedFails all bytes before new fault
    line_fails new fault fails =
        let at : LineFails q now new fault = subst (λ y. LineFails y now new fault) (at_line longer is) fails in
        record {
          part = come.part ++ line;
          rest = 10 ∷ more;
          parts = append_assoc come.part line (10 ∷ more) ∙ ap (λ (l : List ℕ). come.part ++ l) (sym is_rest)
              ∙ come.parts;
          len = at.len;
          text = subst (λ l. Appends before.written new.written (l ++ take at.len (end_text q))) (sym text_line)
              (Appends-trans before.written now.written new.written _ _ come.text at.text);
          leaves = at.leaves;
          place = inr (inl (more, refl));
        }

    pub feeds_line_fails : (new : Outputs) (after : Held) (r : Result (Unit {0}) Fault) (fault : Fault)
        → IsErrAnd r (λ f. f ≡ fault)
        → LineFails (beside longer p.files) now new fault → Feeds all bytes after before new r
    feeds_line_fails new after (Ok x) fault is_err fails = absurd is_err
    feeds_line_fails new after (Err e) fault is_err fails = line_fails new e
        (subst (λ f. LineFails (beside longer p.files) now new f) (sym is_err) fails)

    pub Come-more : (new : Outputs) (after : Held) → is_some new.contents ≡ is_some now.contents
        → ComesTo (end_line (beside longer p.files)) (end_text (beside longer p.files)) after now new
        → Come all bytes after more before new
    Come-more new after tells comes =
        let part : List ℕ = (come.part ++ line) ++ 10 ∷ [] in
        let ended : end_line (beside longer p.files)
        ≡ feed all part = ap (λ (y : Progress). end_line y) (at_line longer is)
        ∙ sym (feed-append all (come.part ++ line) (10 ∷ [])) in
        let text : fed_text all come.part ++ end_text (beside longer p.files) ≡ fed_text all part =
        ap (λ (l : List ℕ). l ++ end_text (beside longer p.files)) (sym text_line)
        ∙ ap (λ (y : Progress). fed_text all (come.part ++ line) ++ end_text y) (at_line longer is)
        ∙ ap (λ (l : List ℕ). fed_text all (come.part ++ line) ++ l) (sym (append-nil (end_text q)))
        ∙ sym (fed_text-append all (come.part ++ line) (10 ∷ [])) in
        let fits : Fits (end_line q).files new.contents (fed_loads (end_line q) more) =
        Fits-second p.files (end_line q).files now.contents new.contents (is_load longer.line)
        (fed_loads (end_line q) more) _ loads tells
        (subst (λ y. HasFiles (end_line y).files new.contents) (at_line longer is) comes.shelf) come.fits in
        record {
          part = part;
          parts = append_assoc (come.part ++ line) (10 ∷ []) more ∙ append_assoc come.part line (10 ∷ more)
              ∙ ap (λ (l : List ℕ). come.part ++ l) (sym is_rest) ∙ come.parts;
          at = comes.held ∙ ap (λ (y : Progress). y.held) ended;
          fits = subst (λ y. Fits y.files new.contents (fed_loads y more))
              (sym (feed-append all (come.part ++ line) (10 ∷ []))) fits;
          text = subst (λ l. Appends before.written new.written l) text
              (Appends-trans before.written now.written new.written _ _ come.text comes.text);
        }
