-- A run, read after read.
use Rattle.std.proofs.Common.{◌≡◌, ℕ, ◌+◌, ◌<◌, ◌≤◌, Bool, true, false, Option, is_some, List, [], ◌++◌, length}
use Rattle.std.proofs.Common.{take, refl, sym, ◌∙◌, ap, subst, inr, arith, length-append}
use Rattle.std.specs.Io.KnownBytes.{Appends, Consumes, Keeps, IsAtEnd}
use Rattle.std.proofs.KnownBytes.{Appends-nil, Appends-trans, Consumes-nil, Consumes-trans, Consumes-kept}
use Rattle.std.proofs.lemmas.List.{append_assoc, append-nil}
use Rattle.outside.specs.Causes.{RisesBy}
use Rattle.outside.specs.Contents.{Files, Contents, HasFiles, Fits}
use Rattle.faissb_core.specs.declared.runs.fault.Fault.{Fault}
use Rattle.faissb_core.specs.declared.runs.fault.Fault.TheVariants.{Shelf, Output, Memory}
use Rattle.faissb_core.specs.declared.runs.status.Status.{Status}
use Rattle.faissb_core.specs.declared.runs.status.Status.TheVariants.{Fine, Refused, Usage, ScriptFault, OutputFault}
use Rattle.faissb_core.specs.declared.runs.status.Status.TheVariants.{ShelfFault, Memory as RunMemory, TooLong}
use Rattle.faissb_core.specs.Language.Lines.{is_load}
use Rattle.faissb_core.specs.Runs.Limits.{script_limit, read_limit}
use Rattle.faissb_core.specs.Runs.Faults.{status_of}
use Rattle.faissb_core.specs.Runs.Devices.{Input, Outputs}
use Rattle.faissb_core.specs.Runs.Progress.{Progress, Held, nothing_held, beside, end_text, feed, fed_text, fed_loads}
use Rattle.faissb_core.specs.Runs.Progress.{if_none, last_loads, ComesTo}
use Rattle.faissb_core.specs.Runs.LineFailure.{FaultLeaves, FailsAt, FeedFails}
use Rattle.faissb_core.specs.Runs.InputEnd.{IsEndStatus, EndLeaves, InputEnds, LastLineFails}
use Rattle.faissb_core.specs.Runs.ScriptRun.{loads, line_feeds, AnswersAll, AnswersFirst, Reads, Leaves, IsScriptRun}
use Rattle.faissb_core.proofs.RunLemmas.Lines.{take-ended_lines}
use Rattle.faissb_core.proofs.RunLemmas.Steps.{text_after}
use Rattle.faissb_core.specs.Machine.State.{start}
use Rattle.faissb_core.specs.Machine.Script.{files_after}
use Rattle.faissb_core.proofs.RunLemmas.Progress.{feed-append, fed_text-append, fed_loads-append, Fits-first}
use Rattle.faissb_core.proofs.RunLemmas.Progress.{Fits-second, HasFiles-fits}
use Rattle.faissb_core.proofs.RunLemmas.Reached.{begin, reached_from_begin, whole}
use Rattle.faissb_core.proofs.RunLemmas.Failure.{failed}

-- so many bytes were taken, and the lines that have ended in them are applied and answered
pub record SoFar (input new_input : Input) (before now : Outputs) (held : Held) (count : ℕ) : Type 0 where
  pub bytes : List ℕ
  pub consumed : Consumes input.left new_input.left bytes
  pub rise : RisesBy input.taken new_input.taken (length bytes)
  pub counted : count ≡ length bytes
  pub tells : is_some now.contents ≡ is_some before.contents
  pub known : (files : Files) → Fits files before.contents (fed_loads (begin files) bytes)
      → ComesTo (feed (begin files) bytes) (fed_text (begin files) bytes) held before now

pub SoFar-start : (input : Input) (now : Outputs) (held : Held) → held ≡ nothing_held → SoFar input input now now held 0
SoFar-start input now held is = record {
  bytes = [];
  consumed = Consumes-nil input.left;
  rise = omega arith;
  counted = refl;
  tells = refl;
  known = λ files fits. record {
    held = is;
    shelf = HasFiles-fits files now.contents _ fits;
    text = Appends-nil
        now.written;
  };
}

-- the files fit what was fed of a script that they fit
pub fits_fed : (files : Files) (contents : Option Contents) (bytes : List ℕ) → Fits files contents (loads bytes)
    → Fits files contents (fed_loads (begin files) bytes)
fits_fed files contents bytes fits = Fits-first files contents _ _ _ (whole files bytes).loads_is fits

module _ (a b c : Input) (before now new : Outputs) (held : Held) (n m : ℕ) (piece : List ℕ)
    (far : SoFar a b before now held n) (consumed : Consumes b.left c.left piece) (rise : RisesBy b.taken c.taken m)
    (counted : m ≡ length piece) where
  known_before : (files : Files) → Fits files before.contents (fed_loads (begin files) (far.bytes ++ piece))
      → ComesTo (feed (begin files) far.bytes) (fed_text (begin files) far.bytes) held before now
  known_before files fits = far.known files
      (Fits-first files before.contents _ _ _ (fed_loads-append (begin files) far.bytes piece) fits)

  at_p : (files : Files) → Fits files before.contents (fed_loads (begin files) (far.bytes ++ piece))
      → beside held (feed (begin files) far.bytes).files ≡ feed (begin files) far.bytes
  at_p files fits = ap (λ (h : Held). beside h (feed (begin files) far.bytes).files) (known_before files fits).held

  -- what the piece is fed to
  fits_piece : (files : Files) → Fits files before.contents (fed_loads (begin files) (far.bytes ++ piece))
      → Fits (feed (begin files) far.bytes).files now.contents
      (fed_loads (beside held (feed (begin files) far.bytes).files) piece)
  fits_piece files fits =
      let looks = fed_loads-append (begin files) far.bytes piece in
      subst (λ q. Fits (feed (begin files) far.bytes).files now.contents (fed_loads q piece)) (sym (at_p files fits))
      (Fits-second files (feed (begin files) far.bytes).files before.contents now.contents _ _ _ looks far.tells
      (known_before files fits).shelf fits)

  pub SoFar-read : (longer : Held) → is_some new.contents ≡ is_some now.contents
      → ((files : Files) → Fits files now.contents (fed_loads (beside held files) piece)
      → ComesTo (feed (beside held files) piece) (fed_text (beside held files) piece) longer now new)
      → SoFar a c before new longer (n + m)
  SoFar-read longer tells fed = record {
    bytes = far.bytes ++ piece;
    consumed = Consumes-trans a.left b.left c.left far.bytes piece far.consumed consumed;
    rise = omega (arith, length-append far.bytes piece, far.rise);
    counted = omega (arith, length-append far.bytes piece, far.counted);
    tells = tells ∙ far.tells;
    known = λ files fits.
        let known = known_before files fits in
        let comes = fed _ (fits_piece files fits) in
        let all : feed (beside held (feed (begin files) far.bytes).files) piece
        ≡ feed (begin files) (far.bytes ++ piece) =
        ap (λ (q : Progress). feed q piece) (at_p files fits) ∙ sym (feed-append (begin files) far.bytes piece) in
        record {
          held = comes.held ∙ ap (λ (q : Progress). q.held) all;
          shelf = subst (λ q. HasFiles q.files new.contents) all comes.shelf;
          text = subst (λ l. Appends before.written new.written l)
              (ap (λ (q : Progress). fed_text (begin files) far.bytes ++ fed_text q piece) (at_p files fits)
              ∙ sym (fed_text-append (begin files) far.bytes piece))
              (Appends-trans before.written now.written new.written _ _ known.text comes.text);
        };
  }

  fails_in : (fault : Fault)
      → ((files : Files) → Fits files now.contents (fed_loads (beside held files) piece)
      → FeedFails (beside held files) piece now new fault)
      → (files : Files) → Fits files before.contents (fed_loads (begin files) (far.bytes ++ piece))
      → FeedFails (begin files) (far.bytes ++ piece) before new fault
  fails_in fault fails files fits =
      let known = known_before files fits in
      let p : Progress = feed (begin files) far.bytes in
      let at : FeedFails p piece now new fault = subst (λ q. FeedFails q piece now new fault) (at_p files fits)
      (fails _ (fits_piece files fits)) in
      let fed : feed p at.part
      ≡ feed (begin files) (far.bytes ++ at.part) = sym (feed-append (begin files) far.bytes at.part) in
      record {
        part = far.bytes ++ at.part;
        rest = at.rest;
        parts = append_assoc far.bytes at.part at.rest ∙ ap (λ (l : List ℕ). far.bytes ++ l) at.parts;
        len = at.len;
        text = subst (λ l. Appends before.written new.written l)
            (sym (append_assoc (fed_text (begin files) far.bytes) (fed_text p at.part) _)
            ∙ (λ i. sym (fed_text-append (begin files) far.bytes at.part) i ++ take at.len (end_text (fed i))))
            (Appends-trans before.written now.written new.written _ _ known.text at.text);
        leaves = subst (λ q. FaultLeaves fault q at.len new) fed at.leaves;
        place = subst (λ q. FailsAt fault q at.rest at.len new) fed at.place;
      }

  pub run-fails : (fault : Fault) (status : Status) → n + m ≤ script_limit + read_limit
      → ((files : Files) → Fits files now.contents (fed_loads (beside held files) piece)
      → FeedFails (beside held files) piece now new fault)
      → status ≡ status_of fault → IsScriptRun status a c before new
  run-fails fault status few fails is = subst (λ z. IsScriptRun z a c before new) (sym is) (record {
    bytes = far.bytes ++ piece;
    consumed = Consumes-trans a.left b.left c.left far.bytes piece far.consumed consumed;
    count = omega (arith, length-append far.bytes piece, far.rise);
    few = omega (arith, length-append far.bytes piece, far.counted);
    reads = reads_of fault (far.bytes ++ piece);
    leaves = λ files fits. failed (far.bytes ++ piece) files before new fault
        (fails_in fault fails files (fits_fed files before.contents (far.bytes ++ piece) fits));
  })
    where
      reads_of : (fault : Fault) (bytes : List ℕ) → Reads (status_of fault) bytes c
      reads_of Shelf bytes = tt
      reads_of Output bytes = tt
      reads_of Memory bytes = tt

-- the end of the input
module _ (files : Files) (bytes : List ℕ) (before now new : Outputs)
    (text : Appends before.written now.written (fed_text (begin files) bytes)) where
  abbrev p : Progress
  p = feed (begin files) bytes

  answered : (refused : Bool) → InputEnds p now new refused → AnswersAll refused bytes files before new
  answered refused ends = record {
    text = subst (λ l. Appends before.written new.written l) (whole files bytes).text_is
        (Appends-trans before.written now.written new.written _ _ text ends.text);
    shelf = subst (λ y. HasFiles y new.contents) (whole files bytes).files_is ends.shelf;
    refuses = sym (whole files bytes).refused_is ∙ ends.refuses;
  }

  last_fails : (fault : Fault) → LastLineFails p now new fault → Leaves (status_of fault) bytes files before new
  last_fails fault ends =
      let fails : FeedFails (begin files) bytes before new fault = record {
        part = bytes;
        rest = [];
        parts = append-nil bytes;
        len = ends.line.len;
        text = Appends-trans before.written now.written new.written _ _ text ends.line.text;
        leaves = ends.line.leaves;
        place = inr (inr (refl, ends.is_line));
      } in
      failed bytes files before new fault fails

  pub leaves_last : (status : Status) → EndLeaves status p now new → Leaves status bytes files before new
  leaves_last Fine ends = answered false ends
  leaves_last Refused ends = answered true ends
  leaves_last OutputFault ends = last_fails Output ends
  leaves_last ShelfFault ends = last_fails Shelf ends
  leaves_last RunMemory ends = last_fails Memory ends
  leaves_last Usage ends = absurd ends
  leaves_last ScriptFault ends = absurd ends
  leaves_last TooLong ends = absurd ends

reads_last : (status : Status) (bytes : List ℕ) (input : Input) → IsEndStatus status → IsAtEnd input.left
    → length bytes ≤ script_limit → Reads status bytes input
reads_last Fine bytes input kind end few = record { end = end; fits = few }
reads_last Refused bytes input kind end few = record { end = end; fits = few }
reads_last OutputFault bytes input kind end few = tt
reads_last ShelfFault bytes input kind end few = tt
reads_last RunMemory bytes input kind end few = tt
reads_last Usage bytes input kind end few = absurd kind
reads_last ScriptFault bytes input kind end few = absurd kind
reads_last TooLong bytes input kind end few = absurd kind

pub run-end : (a b c : Input) (before now new : Outputs) (held : Held) (n : ℕ) (status : Status)
    → SoFar a b before now held n → Consumes b.left c.left [] → RisesBy b.taken c.taken 0 → IsAtEnd c.left
    → n ≤ script_limit
    → ((files : Files) → Fits files now.contents (last_loads held) → EndLeaves status (beside held files) now new)
    → IsEndStatus status → IsScriptRun status a c before new
run-end a b c before now new held n status far consumed rise end few ends kind = record {
  bytes = far.bytes;
  consumed = subst (λ l. Consumes a.left c.left l) (append-nil far.bytes)
      (Consumes-trans a.left b.left c.left far.bytes [] far.consumed consumed);
  count = omega (arith, far.rise);
  few = omega (arith, far.counted);
  reads = reads_last status far.bytes c kind end (omega (arith, far.counted));
  leaves = λ files fits.
      let p : Progress = feed (begin files) far.bytes in
      let looks = (whole files far.bytes).loads_is in
      let known = far.known files (Fits-first files before.contents _ _ _ looks fits) in
      let at : beside held p.files ≡ p = ap (λ (h : Held). beside h p.files) known.held in
      let same : if_none p.held.line false (is_load p.held.line)
      ≡ last_loads held = sym (ap (λ (h : Held). last_loads h) known.held) in
      let fits_last : Fits p.files now.contents (last_loads held) =
      subst (λ y. Fits p.files now.contents y) same
      (Fits-second files p.files before.contents now.contents _ _ _ looks far.tells known.shelf fits) in
      leaves_last files far.bytes before now new known.text status
      (subst (λ q. EndLeaves status q now new) at (ends p.files fits_last));
}

-- the lines that have ended
answers_ended : (files : Files) (bytes : List ℕ) (held : Held) (before now : Outputs)
    → ComesTo (feed (begin files) bytes) (fed_text (begin files) bytes) held before now
    → AnswersFirst (line_feeds bytes) bytes files before now
answers_ended files bytes held before now known = record {
  text = subst (λ l. Appends before.written now.written l)
      ((reached_from_begin files bytes).text_is
      ∙ sym (ap (λ (ls : List (List ℕ)). text_after start files ls) (take-ended_lines bytes))) known.text;
  shelf = subst (λ y. HasFiles y now.contents)
      ((reached_from_begin files bytes).files_is
      ∙ sym (ap (λ (ls : List (List ℕ)). files_after start files ls) (take-ended_lines bytes))) known.shelf;
}

pub run-fault : (a b c : Input) (before now : Outputs) (held : Held) (n : ℕ)
    → SoFar a b before now held n → Keeps b.left c.left → c.taken ≡ b.taken → n ≤ script_limit
    → IsScriptRun ScriptFault a c before now
run-fault a b c before now held n far keeps stays few = record {
  bytes = far.bytes;
  consumed = Consumes-kept a.left b.left c.left far.bytes far.consumed keeps;
  count = omega (arith, far.rise);
  few = omega (arith, far.counted);
  reads = omega (arith, far.counted);
  leaves = λ files fits. answers_ended _ _ _ _ _ (far.known files (fits_fed files before.contents far.bytes fits));
}

pub run-long : (a b : Input) (before now : Outputs) (held : Held) (n : ℕ)
    → SoFar a b before now held n → n ≤ script_limit + read_limit → script_limit < n
    → IsScriptRun TooLong a b before now
run-long a b before now held n far few long = record {
  bytes = far.bytes;
  consumed = far.consumed;
  count = far.rise;
  few = omega (arith, far.counted);
  reads = omega (arith, far.counted);
  leaves = λ files fits. answers_ended _ _ _ _ _ (far.known files (fits_fed files before.contents far.bytes fits));
}

-- nothing was read
pub run_nothing : (input : Input) (now : Outputs) → IsScriptRun RunMemory input input now now
run_nothing input now = record {
  bytes = [];
  consumed = Consumes-nil input.left;
  count = omega arith;
  few = omega arith;
  reads = tt;
  leaves = λ files fits. record {
    done = 0;
    shelf = HasFiles-fits files now.contents _ fits;
    len = 0;
    text = Appends-nil now.written;
    least = omega arith;
    most = omega arith;
  };
}
