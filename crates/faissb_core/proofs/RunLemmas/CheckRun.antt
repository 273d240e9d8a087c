-- A run over some bytes that are whole at once.
use Rattle.std.proofs.Common.{◌≡◌, ℕ, ◌||◌, List, [], Option, is_some, refl, sym, ap, ◌∙◌, subst, arith}
use Rattle.std.specs.Io.KnownBytes.{Appends}
use Rattle.std.proofs.KnownBytes.{Appends-nil}
use Rattle.outside.specs.Contents.{Contents, Files, HasFiles, Fits}
use Rattle.faissb_core.specs.declared.runs.fault.Fault.{Fault}
use Rattle.faissb_core.specs.declared.runs.fault.Fault.TheVariants.{Shelf, Output, Memory}
use Rattle.faissb_core.specs.declared.runs.status.Status.{Status}
use Rattle.faissb_core.specs.declared.runs.status.Status.TheVariants.{Memory as RunMemory}
use Rattle.faissb_core.specs.Runs.Faults.{status_of}
use Rattle.faissb_core.specs.Runs.Devices.{Outputs}
use Rattle.faissb_core.specs.Runs.Progress.{Progress, Held, nothing_held, beside, feed, fed_text, fed_loads, last_loads}
use Rattle.faissb_core.specs.Runs.Progress.{ComesTo}
use Rattle.faissb_core.specs.Runs.LineFailure.{FeedFails}
use Rattle.faissb_core.specs.Runs.InputEnd.{IsEndStatus, EndLeaves}
use Rattle.faissb_core.specs.Runs.ScriptRun.{loads, Leaves}
use Rattle.faissb_core.specs.Runs.CheckRun.{IsBytesRun}
use Rattle.faissb_core.proofs.RunLemmas.Progress.{Fits-first, Fits-second, HasFiles-fits}
use Rattle.faissb_core.proofs.RunLemmas.Reached.{begin, whole}
use Rattle.faissb_core.proofs.RunLemmas.Failure.{failed}
use Rattle.faissb_core.proofs.RunLemmas.ScriptRun.{fits_fed, leaves_last}

end_status : (fault : Fault) → IsEndStatus (status_of fault)
end_status Shelf = tt
end_status Output = tt
end_status Memory = tt

-- a line fails
pub bytes_fail : (bytes : List ℕ) (before after : Outputs) (held : Held) (fault : Fault) (status : Status)
    → held ≡ nothing_held
    → ((files : Files) → Fits files before.contents (fed_loads (beside held files) bytes)
    → FeedFails (beside held files) bytes before after fault)
    → status ≡ status_of fault → IsBytesRun status bytes before after
bytes_fail bytes before after held fault status none fails is =
    subst (λ z. IsBytesRun z bytes before after) (sym is) (record {
      kind = end_status fault;
      leaves = λ files fits.
          failed bytes files before after fault
          (subst (λ (h : Held). FeedFails (beside h files) bytes before after fault) none
          (fails files (subst (λ (h : Held). Fits files before.contents (fed_loads (beside h files) bytes)) (sym none)
          (fits_fed files before.contents bytes fits))));
    })

-- the lines that have ended are applied and answered, and so is the last one
pub bytes_end : (bytes : List ℕ) (before now after : Outputs) (held fed : Held) (status : Status)
    → held ≡ nothing_held → is_some now.contents ≡ is_some before.contents
    → ((files : Files) → Fits files before.contents (fed_loads (beside held files) bytes)
    → ComesTo (feed (beside held files) bytes) (fed_text (beside held files) bytes) fed before now)
    → ((files : Files) → Fits files now.contents (last_loads fed) → EndLeaves status (beside fed files) now after)
    → IsEndStatus status → IsBytesRun status bytes before after
bytes_end bytes before now after held fed status none tells feeds ends kind = record {
  kind = kind;
  leaves = λ files fits.
      let p : Progress = feed (begin files) bytes in
      let looks = (whole files bytes).loads_is in
      let fits_held : Fits files before.contents (fed_loads (beside held files) bytes) =
      subst (λ (h : Held). Fits files before.contents (fed_loads (beside h files) bytes)) (sym none)
      (fits_fed files before.contents bytes fits) in
      let known : ComesTo p (fed_text (begin files) bytes) fed before now =
      subst (λ (h : Held). ComesTo (feed (beside h files) bytes) (fed_text (beside h files) bytes) fed before now) none
      (feeds files fits_held) in
      let at : beside fed p.files ≡ p = ap (λ (h : Held). beside h p.files) known.held in
      let fits_last : Fits p.files now.contents (last_loads fed) =
      subst (λ y. Fits p.files now.contents y) (sym (ap (λ (h : Held). last_loads h) known.held))
      (Fits-second files p.files before.contents now.contents _ _ _ looks tells known.shelf fits) in
      leaves_last files bytes before now after known.text status
      (subst (λ q. EndLeaves status q now after) at (ends p.files fits_last));
}

-- no line is applied
pub no_bytes : (bytes : List ℕ) (now : Outputs) → IsBytesRun RunMemory bytes now now
no_bytes bytes now = record {
  kind = tt;
  leaves = λ files fits. record {
    done = 0;
    shelf = HasFiles-fits files now.contents _ fits;
    len = 0;
    text = Appends-nil now.written;
    least = omega arith;
    most = omega arith;
  };
}
