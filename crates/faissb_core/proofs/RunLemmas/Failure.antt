-- A run that ends in a line that fails, in terms of the lines of its bytes.
use Rattle.std.proofs.Common.{◌≡◌, inl, inr, ℕ, ◌+◌, ◌-◌, ◌≤◌, min, List, [], ◌∷◌, ◌++◌, Option, ◌||◌}
use Rattle.std.proofs.Common.{IsTrue, length, take, get_or, refl, sym, ◌∙◌, ap, subst, arith, length-append}
use Rattle.std.proofs.lemmas.List.{append_assoc, append-nil, take_at, take_min, take-append-le}
use Rattle.std.proofs.Math.Seq.{take-append-add, get_or-append_seam}
use Rattle.std.specs.Io.KnownBytes.{Appends}
use Rattle.outside.specs.Contents.{Files, HasFiles}
use Rattle.faissb_core.specs.declared.runs.fault.Fault.{Fault}
use Rattle.faissb_core.specs.declared.runs.fault.Fault.TheVariants.{Shelf, Output, Memory}
use Rattle.faissb_core.specs.Language.Lines.{lines, is_load, is_save}
use Rattle.faissb_core.specs.Reply.Text.{reply_text}
use Rattle.faissb_core.specs.Machine.State.{start}
use Rattle.faissb_core.specs.Machine.Step.{Step, step}
use Rattle.faissb_core.specs.Machine.Script.{state_after, files_after, script_text}
use Rattle.faissb_core.specs.Runs.Limits.{line_kept}
use Rattle.faissb_core.specs.Runs.Faults.{status_of}
use Rattle.faissb_core.specs.Runs.Devices.{Outputs}
use Rattle.faissb_core.specs.Runs.Progress.{Progress, held_step, end_line, end_text, feed, fed_text}
use Rattle.faissb_core.specs.Runs.LineFailure.{ShelfFailsIn, FaultLeaves, FailsAt, FeedFails, EndsHere}
use Rattle.faissb_core.specs.Runs.ScriptRun.{text_to, files_to, line_at, AnswersFront, ShelfFailsAfter, Leaves}
use Rattle.faissb_core.proofs.RunLemmas.Lines.{IsPart, IsPart-unended, ended_lines, unended, lines-append, lines-ended}
use Rattle.faissb_core.proofs.RunLemmas.Lines.{lines-part}
use Rattle.faissb_core.proofs.RunLemmas.Steps.{text_after, step-kept, is_save-kept, is_load-kept, text-append}
use Rattle.faissb_core.proofs.RunLemmas.Steps.{files-append, text-shorter}
use Rattle.faissb_core.proofs.RunLemmas.Reached.{begin, reached_from_begin}

text_to-le : (bytes : List ℕ) (files : Files) (m n : ℕ) → m ≤ n
    → length (text_to m bytes files) ≤ length (text_to n bytes files)
text_to-le bytes files m n below =
    let whole : m + (n - m) ≡ n = omega arith in
    subst (λ (k : ℕ). length (text_to m bytes files) ≤ length (text_to k bytes files)) whole
    (text-shorter start files (lines bytes) m (n - m))

-- the line that comes next
next_line : (held raw rest : List ℕ) → held ≡ take line_kept raw → IsPart raw → EndsHere held rest
    → (later : List (List ℕ)) × (lines (raw ++ rest) ≡ raw ∷ later)
next_line held raw rest kept part (inl fed) = (
  lines fed.0,
  ap (λ (l : List ℕ). lines (raw ++ l)) fed.1
      ∙ lines-ended raw fed.0 part,
)
next_line held [] rest kept part (inr last) = absurd (last.1 kept)
next_line held (b ∷ raw) rest kept part (inr last) = (
  [],
  ap (λ (l : List ℕ). lines ((b ∷ raw) ++ l)) last.0 ∙ ap (λ (l : List ℕ). lines l) (append-nil (b ∷ raw))
      ∙ lines-part b raw part,
)

module _ (files : Files) (bytes part rest : List ℕ) (parts : part ++ rest ≡ bytes) where
  abbrev ended : List (List ℕ)
  ended = ended_lines part

  abbrev raw : List ℕ
  raw = unended part

  abbrev p : Progress
  p = feed (begin files) part

  abbrev sent : List ℕ
  sent = fed_text (begin files) part

  state_is : p.held.state ≡ state_after start files ended
  state_is = (reached_from_begin files part).state_is

  files_is : p.files ≡ files_after start files ended
  files_is = (reached_from_begin files part).files_is

  text_is : sent ≡ text_after start files ended
  text_is = (reached_from_begin files part).text_is

  all_is : lines bytes ≡ ended ++ lines (raw ++ rest)
  all_is = sym (ap (λ (l : List ℕ). lines l) parts) ∙ lines-append part rest

  take_ended : take (length ended) (lines bytes) ≡ ended
  take_ended = ap (λ (ls : List (List ℕ)). take (length ended) ls) all_is
      ∙ take_at ended (lines (raw ++ rest)) (length ended) refl

  text_ended : text_to (length ended) bytes files ≡ sent
  text_ended = ap (λ (ls : List (List ℕ)). text_after start files ls) take_ended ∙ sym text_is

  files_ended : p.files ≡ files_to (length ended) bytes files
  files_ended = files_is ∙ sym (ap (λ (ls : List (List ℕ)). files_after start files ls) take_ended)

  script_is : script_text bytes files
      ≡ sent ++ text_after (state_after start files ended) (files_after start files ended) (lines (raw ++ rest))
  script_is =
      ap (λ (ls : List (List ℕ)). text_after start files ls) all_is
      ∙ text-append start files ended (lines (raw ++ rest))
      ∙ ap (λ (l : List ℕ). l ++ text_after (state_after start files ended) (files_after start files ended)
      (lines (raw ++ rest))) (sym text_is)

  -- before the line that comes next
  front_before : (before after : Outputs) → HasFiles p.files after.contents → Appends before.written after.written sent
      → AnswersFront bytes files before after
  front_before before after has grown = record {
    done = length ended;
    shelf = subst (λ y. HasFiles y after.contents) files_ended has;
    len = length sent;
    text = subst (λ l. Appends before.written after.written l)
        (sym (ap (λ (l : List ℕ). take (length sent) l) script_is ∙ take_at sent _ (length sent) refl)) grown;
    least = omega (arith, ap length text_ended, text_to-le bytes files (length ended - 1) (length ended) (omega arith));
    most = omega (arith, ap length text_ended);
  }

  module _ (later : List (List ℕ)) (is_line : lines (raw ++ rest) ≡ raw ∷ later) where
    here_is : lines bytes ≡ ended ++ raw ∷ later
    here_is = all_is ∙ ap (λ (ls : List (List ℕ)). ended ++ ls) is_line

    same : held_step p ≡ step p.held.state p.files raw
    same = ap (λ (l : List ℕ). step p.held.state p.files l) (reached_from_begin files part).held_is
        ∙ step-kept p.held.state p.files raw

    take_line : take (length ended + 1) (lines bytes) ≡ ended ++ raw ∷ []
    take_line = ap (λ (ls : List (List ℕ)). take (length ended + 1) ls) here_is ∙ take-append-add ended (raw ∷ later) 1

    text_two : text_after start files (ended ++ raw ∷ []) ≡ sent ++ end_text p
    text_two =
        text-append start files ended (raw ∷ [])
        ∙ sym (λ i. text_is i ++ text_after (state_is i) (files_is i) (raw ∷ []))
        ∙ ap (λ (l : List ℕ). sent ++ l) (append-nil (reply_text (step p.held.state p.files raw).reply)
        ∙ sym (ap (λ (s : Step). reply_text s.reply) same))

    text_line : text_to (length ended + 1) bytes files ≡ sent ++ end_text p
    text_line = ap (λ (ls : List (List ℕ)). text_after start files ls) take_line ∙ text_two

    files_line : (end_line p).files ≡ files_to (length ended + 1) bytes files
    files_line =
        ap (λ (s : Step). s.files) same
        ∙ (λ i. files_after (state_is i) (files_is i) (raw ∷ []))
        ∙ sym (files-append start files ended (raw ∷ []))
        ∙ sym (ap (λ (ls : List (List ℕ)). files_after start files ls) take_line)

    line_is : line_at (length ended) bytes ≡ raw
    line_is = ap (λ (ls : List (List ℕ)). get_or ls (length ended) []) here_is ∙ get_or-append_seam ended raw later []

    saves_line : is_save p.held.line ≡ is_save (line_at (length ended) bytes)
    saves_line = ap (λ (l : List ℕ). is_save l) (reached_from_begin files part).held_is ∙ is_save-kept raw
        ∙ sym (ap (λ (l : List ℕ). is_save l) line_is)

    loads_line : is_load p.held.line ≡ is_load (line_at (length ended) bytes)
    loads_line = ap (λ (l : List ℕ). is_load l) (reached_from_begin files part).held_is ∙ is_load-kept raw
        ∙ sym (ap (λ (l : List ℕ). is_load l) line_is)

    script_line : script_text bytes files
        ≡ sent ++ (end_text p ++ text_after (state_after start files (ended ++ raw ∷ []))
        (files_after start files (ended ++ raw ∷ [])) later)
    script_line =
        ap (λ (ls : List (List ℕ)). text_after start files ls) (here_is ∙ sym (append_assoc ended (raw ∷ []) later))
        ∙ text-append start files (ended ++ raw ∷ []) later
        ∙ ap (λ (l : List ℕ). l ++ text_after (state_after start files (ended ++ raw ∷ []))
        (files_after start files (ended ++ raw ∷ [])) later) text_two
        ∙ append_assoc sent (end_text p) _

    has_line : (after : Outputs) → HasFiles (end_line p).files after.contents
        → HasFiles (files_to (length ended + 1) bytes files) after.contents
    has_line after has = subst (λ y. HasFiles y after.contents) files_line has

    -- in the reply to that line
    front_in : (before after : Outputs) (len : ℕ) → HasFiles (end_line p).files after.contents
        → Appends before.written after.written (sent ++ take len (end_text p)) → AnswersFront bytes files before after
    front_in before after len has grown =
        let m : ℕ = min len (length (end_text p)) in
        let within : m ≤ length (end_text p) = omega arith in
        let one_less : (length ended + 1) - 1 ≡ length ended = omega arith in
        let front : take (length sent + m) (script_text bytes files) ≡ sent ++ take len (end_text p) =
        ap (λ (l : List ℕ). take (length sent + m) l) script_line ∙ take-append-add sent _ m
        ∙ ap (λ (l : List ℕ). sent ++ l) (take-append-le m (end_text p) _ within ∙ take_min len (end_text p)) in
        record {
          done = length ended + 1;
          shelf = has_line after has;
          len = length sent + m;
          text = subst (λ l. Appends before.written after.written l) (sym front) grown;
          least = subst (λ (k : ℕ). length (text_to k bytes files) ≤ length sent + m) (sym one_less)
              (omega (arith, ap length text_ended));
          most = omega (arith, ap length text_line, length-append sent (end_text p));
        }

    shelf_in : (before after : Outputs) → ShelfFailsIn p after → Appends before.written after.written sent
        → ShelfFailsAfter bytes files before after
    shelf_in before after fails grown = record {
      done = length ended;
      text = subst (λ l. Appends before.written after.written l) (sym text_ended) grown;
      uses_shelf = subst (λ y. IsTrue y) (λ i. saves_line i || loads_line i) fails.uses_shelf;
      shelf = elim fails.files [
        | inl has ↦ inl (subst (λ y. HasFiles y after.contents) files_ended has)
        | inr saved ↦ inr (subst (λ y. IsTrue y) saves_line saved.0, has_line after saved.1)
      ];
    }

-- where no byte of the reply was sent
nothing_sent : (w v : Option (List ℕ)) (sent text : List ℕ) (len : ℕ) → len ≡ 0 → Appends w v (sent ++ take len text)
    → Appends w v sent
nothing_sent w v sent text len none grown =
    subst (λ l. Appends w v l) (ap (λ (k : ℕ). sent ++ take k text) none ∙ append-nil sent) grown

module _ (bytes : List ℕ) (files : Files) (before after : Outputs) (part rest : List ℕ) (parts : part ++ rest
    ≡ bytes) (len : ℕ)
    (sent : Appends before.written after.written
    (fed_text (begin files) part ++ take len (end_text (feed (begin files) part)))) where
  abbrev q : Progress
  q = feed (begin files) part

  not_begun : len ≡ 0 → HasFiles q.files after.contents → AnswersFront bytes files before after
  not_begun none has = front_before files bytes part rest parts before after has
      (nothing_sent before.written after.written _ _ len none sent)

  in_line : (later : List (List ℕ)) → lines (unended part ++ rest) ≡ unended part ∷ later → (fault : Fault)
      → FaultLeaves fault q len after → Leaves (status_of fault) bytes files before after
  in_line later is_line Shelf stop = shelf_in files bytes part rest parts later is_line before after stop.1
      (nothing_sent before.written after.written _ _ len stop.0 sent)
  in_line later is_line Output stop = front_in files bytes part rest parts later is_line before after len stop sent
  in_line later is_line Memory (inl none) = not_begun none.0 none.1
  in_line later is_line Memory (inr has) = front_in files bytes part rest parts later is_line before after len has sent

  at_place : (fault : Fault) → FaultLeaves fault q len after → FailsAt fault q rest len after
      → Leaves (status_of fault) bytes files before after
  at_place fault stop (inl memory) = subst (λ f. Leaves (status_of f) bytes files before after) (sym memory.0)
      (not_begun memory.1 memory.2)
  at_place fault stop (inr ends) =
      let next = next_line q.held.line (unended part) rest (reached_from_begin files part).held_is (IsPart-unended part)
      ends in
      in_line next.0 next.1 fault stop

pub failed : (bytes : List ℕ) (files : Files) (before after : Outputs) (fault : Fault)
    → FeedFails (begin files) bytes before after fault
    → Leaves (status_of fault) bytes files before after
failed bytes files before after fault fails = at_place bytes files before after fails.part fails.rest fails.parts
    fails.len fails.text fault fails.leaves fails.place
