-- What save and load do, from what the calls on the shelf did.
use Rattle.std.proofs.Common.{◌≡◌, ◌⊎◌, ◌++◌, inl, inr, ℕ, ◌^◌, ◌<◌, Bool, true, false, Option, Some, None, Result, Ok, Err}
use Rattle.std.proofs.Common.{List, [], length, is_some, IsTrue, is_err, refl, sym, ap, ◌∙◌, subst}
use Rattle.std.specs.List.{All}
use Rattle.bcodes.specs.Value.{IndexValue, count_of}
use Rattle.multi_hash.specs.declared.wide.Wide.{Wide}
use Rattle.multi_hash.specs.Wide.{wide}
use Rattle.outside.specs.declared.trouble.Trouble.{Trouble}
use Rattle.outside.specs.Calls.{WhereTold, KeepsFiles, Opens}
use Rattle.outside.specs.Contents.{Contents, Files, HasFiles, Fits, put}
use Rattle.file_parts.specs.declared.file_fault.FileFault.{FileFault}
use Rattle.file_parts.specs.Feeding.{IsTold, bytes_from}
use Rattle.file_parts.specs.Format.{FirstFault, read}
use Rattle.file_parts.proofs.Reading.{read-spells, read-fault}
use Rattle.index_files.specs.Canon.{canon}
use Rattle.index_files.specs.File.{IsFile}
use Rattle.index_files.specs.FileFormat.{file}
use Rattle.index_files.proofs.KindLaws.{again}
use Rattle.faissb_core.specs.declared.reply.refusal.Refusal.{Refusal}
use Rattle.faissb_core.specs.declared.reply.refusal.Refusal.TheVariants.{NoFile, File, BucketBits}
use Rattle.faissb_core.specs.Language.Words.{Word}
use Rattle.faissb_core.specs.Machine.Checked.{Checked, given◌else◌, absent◌else◌, accept◌else◌, ◌>>=◌, ◌>>◌}
use Rattle.faissb_core.specs.Machine.Files.{spelled, loaded}

-- ---- what is read

-- the file of a name that was opened
pub found_file : (a b : Option Contents) (name : Word) (files : Files)
    → WhereTold a b (Opens name (Ok true)) → Fits files a true
    → IsTold b × (files name ≡ Some (bytes_from [] b)) × All (λ x. x < 2 ^ 8) (bytes_from [] b)
found_file None b name files opens fits = absurd cc
found_file (Some old) None name files opens fits = absurd opens
found_file (Some old) (Some new) name files opens fits =
    (refl, ap (λ (f : Files). f name) (sym fits) ∙ opens.found refl, opens.are_bytes refl)

no_file : (a b : Option Contents) (name : Word) (files : Files)
    → WhereTold a b (Opens name (Ok false)) → Fits files a true → files name ≡ None
no_file None b name files opens fits = absurd cc
no_file (Some old) None name files opens fits = absurd opens
no_file (Some old) (Some new) name files opens fits = ap (λ (f : Files). f name) (sym fits) ∙ opens.missing refl

abbrev load_with : Option (List ℕ) → Checked IndexValue
load_with bytes = (given bytes else NoFile) >>= (λ b. accept read file b else File)

pub load_missing : (a b : Option Contents) (name : Word) (files : Files)
    → WhereTold a b (Opens name (Ok false)) → Fits files a true → loaded files name ≡ Err NoFile
load_missing a b name files opens fits = ap load_with (no_file a b name files opens fits)

pub load_found : (bytes : List ℕ) (name : Word) (files : Files) (v : IndexValue) → files name ≡ Some bytes
    → IsFile v bytes → loaded files name ≡ Ok v
load_found bytes name files v is good =
    ap load_with is ∙ ap (λ (r : Result IndexValue FileFault). accept r else File)
    (read-spells file bytes v (again bytes v good))

pub load_bad : (bytes : List ℕ) (name : Word) (files : Files) (fault : FileFault) → files name ≡ Some bytes
    → FirstFault file bytes fault → loaded files name ≡ Err (File fault)
load_bad bytes name files fault is bad =
    ap load_with is ∙ ap (λ (r : Result IndexValue FileFault). accept r else File) (read-fault file bytes fault bad)

-- ---- what is written

spelled_by : (o : Option Wide) (bytes : List ℕ) → ((w : Wide) → o ≡ Some w → ⊥)
    → (absent o else BucketBits) >> Ok bytes ≡ Ok bytes
spelled_by None bytes narrow = refl
spelled_by (Some w) bytes narrow = absurd (narrow w refl)

pub spelled_is : (v : IndexValue) → ((w : Wide) → wide v ≡ Some w → ⊥) → spelled v ≡ Ok (canon v)
spelled_is v narrow = spelled_by (wide v) (canon v) narrow

pub spelled_not : (v : IndexValue) (w : Wide) → wide v ≡ Some w → spelled v ≡ Err (BucketBits w)
spelled_not v w is = ap (λ (o : Option Wide). (absent o else BucketBits) >> Ok (canon v)) is
