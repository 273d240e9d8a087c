-- What a line that is applied leaves, from what its command did.
use Rattle.std.proofs.Common.{◌≡◌, ◌⊎◌, ◌↔◌, inl, inr, ℕ, Bool, true, false, ◌||◌, Option, Some, None, Result, Ok, Err}
use Rattle.std.proofs.Common.{List, [], ◌<◌, ◌^◌, is_some, length, IsTrue, is_err, refl, sym, ap, ◌∙◌, subst}
use Rattle.std.specs.List.{All}
use Rattle.std.specs.Result.{OnErr, IfOk}
use Rattle.bcodes.specs.Value.{IndexValue, count_of}
use Rattle.multi_hash.specs.declared.wide.Wide.{Wide}
use Rattle.multi_hash.specs.Wide.{wide}
use Rattle.outside.specs.declared.trouble.Trouble.{Trouble}
use Rattle.outside.specs.Calls.{WhereTold, KeepsFiles, Opens}
use Rattle.outside.specs.Contents.{Contents, Files, HasFiles, Fits, no_files, put}
use Rattle.file_parts.specs.declared.file_fault.FileFault.{FileFault}
use Rattle.file_parts.specs.Feeding.{IsTold, bytes_from}
use Rattle.file_parts.specs.Format.{FirstFault}
use Rattle.index_files.specs.File.{IsFile}
use Rattle.index_files.specs.FileFormat.{file}
use Rattle.index_files.specs.declared.save_error.SaveError.{SaveError}
use Rattle.index_files.specs.declared.save_error.SaveError.TheVariants as save_error
use Rattle.index_files.specs.Canon.{canon}
use Rattle.index_files.specs.Saving.{Saves}
use Rattle.faissb_core.specs.declared.reply.reply.Reply.{Reply}
use Rattle.faissb_core.specs.declared.reply.reply.Reply.TheVariants.{Refused as RefusedReply, Saved as SavedReply}
use Rattle.faissb_core.specs.declared.reply.reply.Reply.TheVariants.{Loaded as LoadedReply}
use Rattle.faissb_core.specs.declared.reply.refusal.Refusal.{Refusal}
use Rattle.faissb_core.specs.declared.reply.refusal.Refusal.TheVariants.{NoIndex, File, BucketBits}
use Rattle.faissb_core.specs.declared.session.halt.Halt.{Halt}
use Rattle.faissb_core.specs.declared.session.halt.Halt.TheVariants.{Refused, Memory}
use Rattle.faissb_core.specs.declared.session.stop.Stop.{Stop}
use Rattle.faissb_core.specs.declared.session.stop.Stop.TheVariants.{ShelfFailed, Memory as NoMemory}
use Rattle.faissb_core.specs.Language.Words.{Word}
use Rattle.faissb_core.specs.Language.Command.{Command, Load, Save}
use Rattle.faissb_core.specs.Language.Lines.{Line, Whole, has_command, reads_file, writes_file, line_of, is_command, is_load, is_save}
use Rattle.faissb_core.specs.Reply.Answer.{Answer, Loaded, Saved, reply_of}
use Rattle.faissb_core.specs.Machine.Checked.{Checked, ◌>>=◌}
use Rattle.faissb_core.specs.Machine.Files.{loaded, spelled}
use Rattle.faissb_core.specs.Machine.State.{State, Outcome, leaves}
use Rattle.faissb_core.specs.Machine.Step.{step, step_with, command_outcome}
use Rattle.faissb_core.specs.Machine.Legal.{IsLegalState}
use Rattle.faissb_core.specs.Machine.Marked.{scan_of, MarkedIsScan, IsWithinBound, IsNotPartial}
use Rattle.faissb_core.specs.Session.Followed.{FollowsStep, state_of}
use Rattle.faissb_core.specs.Session.Results.{Leaves, settled}
use Rattle.faissb_core.specs.Session.Applied.{said_step, AnswersLoad, IsAnswered, IsStopped, Applies}
use Rattle.faissb_core.proofs.SessionLemmas.OutcomeLemmas.{fits_files}
use Rattle.faissb_core.proofs.SessionLemmas.FileLemmas.{found_file, load_found, load_bad, spelled_is, spelled_not}
use Rattle.faissb_core.proofs.SessionLemmas.MarkLemmas.{reply_is, reply_exact}

-- ---- files that stay

pub kept_files : (a c : Option Contents) (files : Files) → KeepsFiles a c → HasFiles files a → HasFiles files c
kept_files None None files keeps has = tt
kept_files None (Some c) files keeps has = absurd keeps
kept_files (Some a) None files keeps has = absurd keeps
kept_files (Some a) (Some c) files keeps has = keeps ∙ has

pub kept_told : (a c : Option Contents) → KeepsFiles a c → is_some c ≡ is_some a
kept_told None None keeps = refl
kept_told None (Some c) keeps = absurd keeps
kept_told (Some a) None keeps = absurd keeps
kept_told (Some a) (Some c) keeps = refl

pub keeps_itself : (a : Option Contents) → KeepsFiles a a
keeps_itself None = tt
keeps_itself (Some a) = refl

pub keeps_both : (a b c : Option Contents) → KeepsFiles a b → KeepsFiles b c → KeepsFiles a c
keeps_both None None c first then = then
keeps_both None (Some b) c first then = absurd first
keeps_both (Some a) None c first then = absurd first
keeps_both (Some a) (Some b) None first then = absurd then
keeps_both (Some a) (Some b) (Some c) first then = then ∙ first

pub open_keeps : (a b : Option Contents) (name : Word) (r : Result Bool Trouble)
    → WhereTold a b (Opens name r) → KeepsFiles a b
open_keeps None None name r opens = tt
open_keeps None (Some b) name r opens = absurd opens
open_keeps (Some a) None name r opens = absurd opens
open_keeps (Some a) (Some b) name r opens = opens.files

-- ---- a step that was done

pub follows_ok : (s new : State) (files : Files) (o : Outcome) (checked : Checked Outcome) (contents : Option Contents)
    (reply : Reply) → checked ≡ Ok o → new ≡ o.state → reply_of reply ≡ Ok o.answer → HasFiles o.files contents
    → FollowsStep (step_with s files checked) new contents reply
follows_ok s new files o checked contents reply is state replies has = record {
  state = state ∙ sym (ap (λ m. (step_with s files m).state) is);
  reply_is = replies ∙ sym (ap (λ m. (step_with s files m).reply) is);
  files = subst (λ fs. HasFiles fs contents) (sym (ap (λ m. (step_with s files m).files) is)) has;
}

pub follows_refused : (s new : State) (files : Files) (r : Refusal) (checked : Checked Outcome)
    (contents : Option Contents) (reply : Reply) → checked ≡ Err r → new ≡ s → reply_of reply ≡ Err r
    → HasFiles files contents → FollowsStep (step_with s files checked) new contents reply
follows_refused s new files r checked contents reply is state replies has = record {
  state = state ∙ sym (ap (λ m. (step_with s files m).state) is);
  reply_is = replies ∙ sym (ap (λ m. (step_with s files m).reply) is);
  files = subst (λ fs. HasFiles fs contents) (sym (ap (λ m. (step_with s files m).files) is)) has;
}

-- a stop before the files were changed
pub stopped : (line : Line) (s new : State) (a c : Option Contents) (stop : Stop)
    → IsTrue (has_command line) → new ≡ s → KeepsFiles a c
    → (stop ≡ ShelfFailed → IsTrue (writes_file line || reads_file line))
    → IsStopped line s new a c stop
stopped line s new a c stop command state keeps uses = record {
  state = state;
  command = command;
  uses_shelf = uses;
  kept = λ files has. inl (kept_files a c files keeps has);
  memory = λ files has is. kept_files a c files keeps has;
  save_only = λ files has is. kept_files a c files keeps has;
}

-- ---- a command that calls no shelf

pub alone : (command : Command) (s new : State) (contents : Option Contents) (done : Result Reply Halt)
    → reads_file (Whole command) ≡ false
    → ((files : Files) → Leaves (command_outcome command s files) new files done) → OnErr done (new ≡ s)
    → Applies (Whole command) s new contents contents (settled done)
alone command s new contents (Ok reply) plain leaves stays = record {
  step = λ files fits.
      let done = leaves files in
      follows_ok s new files (record { state = new; answer = done.answer; files = files })
      (command_outcome command s files) contents reply done.passed refl done.reply_is
      (fits_files files contents _ fits);
  refused = λ is. let done = leaves no_files in absurd (cc (ap is_err done.reply_is, is));
  loaded = λ reads. absurd (cc (plain, reads));
}
alone command s new contents (Err (Refused r)) plain leaves stays = record {
  step = λ files fits.
      follows_refused s new files r (command_outcome command s files) contents (RefusedReply r) (leaves files) stays
      refl (fits_files files contents _ fits);
  refused = λ is. stays;
  loaded = λ reads. tt;
}
alone command s new contents (Err Memory) plain leaves stays =
    stopped (Whole command) s new contents contents NoMemory refl stays (keeps_itself contents) (λ is. absurd cc)

-- ---- load

-- what a load found is done, and answered
abbrev pub Loads : Checked IndexValue → State → State → Result Answer Refusal → Type 0
Loads (Ok v) s new reply = (new ≡ record s { index = Some v }) × (reply ≡ Ok (Loaded (count_of v)))
Loads (Err refusal) s new reply = (new ≡ s) × (reply ≡ Err refusal)

load_follows : (checked : Checked IndexValue) (s new : State) (files : Files) (contents : Option Contents)
    (reply : Reply) → Loads checked s new (reply_of reply) → HasFiles files contents
    → FollowsStep (step_with s files (checked >>= (λ v. leaves (record s { index = Some v }) (Loaded (count_of v))
    files))) new contents reply
load_follows (Ok v) s new files contents reply is has = record { state = is.0; reply_is = is.1; files = has }
load_follows (Err r) s new files contents reply is has = record { state = is.0; reply_is = is.1; files = has }

pub answers_load : (name : Word) (s new : State) (a c : Option Contents) (reply : Reply) → KeepsFiles a c
    → ((files : Files) → Fits files a true → Loads (loaded files name) s new (reply_of reply))
    → (IsTrue (is_err (reply_of reply)) → new ≡ s) → AnswersLoad (reply_of reply)
    → IsAnswered (Whole (Load name)) s new a c reply
answers_load name s new a c reply keeps loads refused kind = record {
  step = λ files fits.
      load_follows (loaded files name) s new files c reply (loads files fits)
      (kept_files a c files keeps (fits_files files a true fits));
  refused = refused;
  loaded = λ reads. kind;
}

told : (r : Checked IndexValue) (checked : Checked IndexValue) (s new : State) (reply : Result Answer Refusal)
    → checked ≡ r → Loads r s new reply → Loads checked s new reply
told r checked s new reply is loads = subst (λ m. Loads m s new reply) (sym is) loads

pub loaded_whole : (name : Word) (s : State) (v : IndexValue) (total : ℕ) (a b c : Option Contents)
    → WhereTold a b (Opens name (Ok true)) → KeepsFiles b c
    → (IsTold b → All (λ x. x < 2 ^ 8) (bytes_from [] b) → IsFile v (bytes_from [] b)) → total ≡ count_of v
    → IsAnswered (Whole (Load name)) s (record s { index = Some v }) a c (LoadedReply total)
loaded_whole name s v total a b c opens keeps good counts =
    answers_load name s (record s { index = Some v }) a c (LoadedReply total)
    (keeps_both a b c (open_keeps a b name (Ok true) opens) keeps)
    (λ files fits.
    let here = found_file a b name files opens fits in
    told (Ok v) (loaded files name) s (record s { index = Some v }) (Ok (Loaded total))
    (load_found (bytes_from [] b) name files v here.1 (good here.0 here.2))
    (refl, ap (λ n. Ok (Loaded n)) counts))
    (λ is. absurd cc) tt

pub loaded_faulty : (name : Word) (s : State) (fault : FileFault) (a b c : Option Contents)
    → WhereTold a b (Opens name (Ok true)) → KeepsFiles b c
    → (IsTold b → FirstFault file (bytes_from [] b) fault)
    → IsAnswered (Whole (Load name)) s s a c (RefusedReply (File fault))
loaded_faulty name s fault a b c opens keeps bad =
    answers_load name s s a c (RefusedReply (File fault))
    (keeps_both a b c (open_keeps a b name (Ok true) opens) keeps)
    (λ files fits.
    let here = found_file a b name files opens fits in
    told (Err (File fault)) (loaded files name) s s (Err (File fault))
    (load_bad (bytes_from [] b) name files fault here.1 (bad here.0)) (refl, refl))
    (λ is. refl) tt

-- ---- save

-- the answer of a save, from what the writing gave
abbrev pub saved_reply : Result ℕ SaveError → Result Reply Stop
saved_reply (Ok n) = Ok (SavedReply n)
saved_reply (Err (save_error.BucketBits w)) = Ok (RefusedReply (BucketBits w))
saved_reply (Err save_error.Failed) = Err ShelfFailed
saved_reply (Err save_error.Memory) = Err NoMemory

module _ (v : IndexValue) (name : Word) (shards : List IndexValue) where
  abbrev s : State
  s = state_of (Some v) shards

  abbrev line : Line
  line = Whole (Save name)

  outcome_is : (files : Files) → spelled v ≡ Ok (canon v)
      → command_outcome (Save name) s files ≡ leaves s (Saved (length (canon v))) (put files name (canon v))
  outcome_is files is =
      ap (λ (c : Checked (List ℕ)). c >>= (λ bytes. leaves s (Saved (length bytes)) (put files name bytes))) is

  outcome_refused : (files : Files) (w : Wide) → spelled v ≡ Err (BucketBits w)
      → command_outcome (Save name) s files ≡ Err (BucketBits w)
  outcome_refused files w is =
      ap (λ (c : Checked (List ℕ)). c >>= (λ bytes. leaves s (Saved (length bytes)) (put files name bytes))) is

  -- the file is there
  has_saved : (a c : Option Contents) (files : Files)
      → WhereTold a c (λ old new. new.files ≡ put old.files name (canon v))
      → HasFiles files a → HasFiles (put files name (canon v)) c
  has_saved None None files saved has = tt
  has_saved None (Some c) files saved has = absurd saved
  has_saved (Some a) None files saved has = absurd saved
  has_saved (Some a) (Some c) files saved has = saved ∙ ap (λ (f : Files). put f name (canon v)) has

  saved_ok : (a c : Option Contents) (n : ℕ) → WhereTold a c (Saves name (canon v) (Ok n))
      → WhereTold a c (λ old new. new.files ≡ put old.files name (canon v))
  saved_ok None None n saves = tt
  saved_ok None (Some c) n saves = saves
  saved_ok (Some a) None n saves = saves
  saved_ok (Some a) (Some c) n saves = saves.ok

  saved_wide : (a c : Option Contents) (w : Wide)
      → WhereTold a c (Saves name (canon v) (Err (save_error.BucketBits w))) → KeepsFiles a c
  saved_wide None None w saves = tt
  saved_wide None (Some c) w saves = saves
  saved_wide (Some a) None w saves = saves
  saved_wide (Some a) (Some c) w saves = saves.wide w refl

  saved_memory : (a c : Option Contents) → WhereTold a c (Saves name (canon v) (Err save_error.Memory))
      → KeepsFiles a c
  saved_memory None None saves = tt
  saved_memory None (Some c) saves = saves
  saved_memory (Some a) None saves = saves
  saved_memory (Some a) (Some c) saves = saves.memory refl

  saved_failed : (a c : Option Contents) (files : Files)
      → WhereTold a c (Saves name (canon v) (Err save_error.Failed)) → HasFiles files a
      → HasFiles files c ⊎ HasFiles (put files name (canon v)) c
  saved_failed None None files saves has = inl tt
  saved_failed None (Some c) files saves has = absurd saves
  saved_failed (Some a) None files saves has = absurd saves
  saved_failed (Some a) (Some c) files saves has =
      elim (saves.failed refl) [
        | inl same ↦ inl (same ∙ has)
        | inr put_there ↦ inr (put_there ∙ ap (λ (f : Files). put f name (canon v)) has)
      ]

  pub save_applies : (a c : Option Contents) (done : Result ℕ SaveError)
      → IfOk done (λ n. n ≡ length (canon v))
      → WhereTold a c (Saves name (canon v) done)
      → ((w : Wide) → (done ≡ Err (save_error.BucketBits w)) ↔ (wide v ≡ Some w))
      → Applies line s s a c (saved_reply done)
  save_applies a c (Ok n) len saves is_wide =
      let narrow : (w : Wide) → wide v ≡ Some w → ⊥ = λ w is. absurd (let e = (is_wide w).1 is in cc) in
      record {
        step = λ files fits.
            follows_ok s s files
            (record { state = s; answer = Saved (length (canon v)); files = put files name (canon v) })
            (command_outcome (Save name) s files) c (SavedReply n) (outcome_is files (spelled_is v narrow)) refl
            (ap (λ m. Ok (Saved m)) len)
            (has_saved a c files (saved_ok a c n saves) (fits_files files a false fits));
        refused = λ is. refl;
        loaded = λ reads. absurd cc;
      }
  save_applies a c (Err (save_error.BucketBits w)) len saves is_wide =
      let is : spelled v ≡ Err (BucketBits w) = spelled_not v w ((is_wide w).0 refl) in
      record {
        step = λ files fits.
            follows_refused s s files (BucketBits w) (command_outcome (Save name) s files) c
            (RefusedReply (BucketBits w)) (outcome_refused files w is) refl refl
            (kept_files a c files (saved_wide a c w saves) (fits_files files a false fits));
        refused = λ is. refl;
        loaded = λ reads. tt;
      }
  save_applies a c (Err save_error.Failed) len saves is_wide =
      let narrow : (w : Wide) → wide v ≡ Some w → ⊥ = λ w is. absurd (let e = (is_wide w).1 is in cc) in
      record {
        state = refl;
        command = refl;
        uses_shelf = λ is. refl;
        kept = λ files has.
            subst (λ (fs : Files). HasFiles files c ⊎ HasFiles fs c)
            (sym (ap (λ m. (step_with s files m).files) (outcome_is files (spelled_is v narrow))))
            (saved_failed a c files saves has);
        memory = λ files has is. absurd cc;
        save_only = λ files has is. absurd cc;
      }
  save_applies a c (Err save_error.Memory) len saves is_wide =
      stopped line s s a c NoMemory refl refl (saved_memory a c saves) (λ is. absurd cc)

-- no index is saved
pub save_none : (name : Word) (shards : List IndexValue) (a : Option Contents)
    → Applies (Whole (Save name)) (state_of None shards) (state_of None shards) a a (Ok (RefusedReply NoIndex))
save_none name shards a = record {
  step = λ files fits. record { state = refl; reply_is = refl; files = fits_files files a false fits };
  refused = λ is. refl;
  loaded = λ reads. tt;
}

-- ---- a line as bytes

pub said_applies : (said : Line) (line : List ℕ) (s new : State) (before after : Option Contents)
    (r : Result Reply Stop) → said ≡ line_of line → Applies said s new before after r
    → Applies (line_of line) s new before after r
said_applies said line s new before after r is applies =
    subst (λ (l : Line). Applies l s new before after r) is applies

module _ (line : List ℕ) (s new : State) (before after : Option Contents) where
  pub applied_step : (r : Result Reply Stop) → Applies (line_of line) s new before after r → (files : Files)
      → Fits files before (is_load line) → IfOk r (FollowsStep (step s files line) new after)
  unfolding step
  applied_step (Ok reply) is files fits = is.step files fits
  applied_step (Err stop) is files fits = tt

  pub applied_refused : (r : Result Reply Stop) → Applies (line_of line) s new before after r
      → IfOk r (λ reply. IsTrue (is_err (reply_of reply)) → new ≡ s)
  applied_refused (Ok reply) is = is.refused
  applied_refused (Err stop) is = tt

  pub applied_err : (r : Result Reply Stop) → Applies (line_of line) s new before after r → OnErr r (new ≡ s)
  applied_err (Ok reply) is = tt
  applied_err (Err stop) is = is.state

  pub applied_command : (r : Result Reply Stop) → Applies (line_of line) s new before after r → r ≡ Err NoMemory
      → IsTrue (is_command line)
  applied_command (Ok reply) is none = absurd cc
  applied_command (Err stop) is none = is.command

  pub applied_kept : (r : Result Reply Stop) → Applies (line_of line) s new before after r → (files : Files)
      → HasFiles files before → OnErr r (HasFiles files after ⊎ HasFiles (step s files line).files after)
  unfolding step
  applied_kept (Ok reply) is files has = tt
  applied_kept (Err stop) is files has = is.kept files has

  pub applied_memory : (r : Result Reply Stop) → Applies (line_of line) s new before after r → (files : Files)
      → HasFiles files before → r ≡ Err NoMemory → HasFiles files after
  applied_memory (Ok reply) is files has none = absurd cc
  applied_memory (Err stop) is files has none = is.memory files has cc

  pub applied_save_only : (r : Result Reply Stop) → Applies (line_of line) s new before after r → (files : Files)
      → HasFiles files before → is_save line ≡ false → OnErr r (HasFiles files after)
  applied_save_only (Ok reply) is files has other = tt
  applied_save_only (Err stop) is files has other = is.save_only files has other

  pub applied_which : (r : Result Reply Stop) → Applies (line_of line) s new before after r → r ≡ Err ShelfFailed
      → IsTrue (is_save line || is_load line)
  applied_which (Ok reply) is failed = absurd cc
  applied_which (Err stop) is failed = is.uses_shelf cc

  pub applied_marked : (r : Result Reply Stop) → Applies (line_of line) s new before after r → IsLegalState s
      → IfOk r (λ reply. MarkedIsScan (scan_of (line_of line) s) (reply_of reply))
  applied_marked (Ok reply) is legal = reply_is line s new before after reply legal is
  applied_marked (Err stop) is legal = tt

  pub applied_exact : (r : Result Reply Stop) → Applies (line_of line) s new before after r
      → IsWithinBound (line_of line) s → IfOk r (λ reply. IsNotPartial (reply_of reply))
  applied_exact (Ok reply) is bound = reply_exact line s new before after reply is bound
  applied_exact (Err stop) is bound = tt
