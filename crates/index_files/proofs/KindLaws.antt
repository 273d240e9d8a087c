-- The laws of the kinds together.
use Rattle.std.proofs.Common.{ℕ, List}
use Rattle.bcodes.specs.Value.{IndexValue}
use Rattle.file_parts.specs.Format.{Spells}
use Rattle.index_files.specs.declared.kind_name.KindName.{KindName}
use Rattle.index_files.specs.declared.kind_name.KindName.TheVariants as named
use Rattle.index_files.specs.File.{IsFile}
use Rattle.index_files.specs.FileFormat.{file}
use Rattle.index_files.specs.Laws.{IsDecidedFile}
use Rattle.index_files.proofs.Elements.{IsBytes}
use Rattle.index_files.proofs.FileLaws.{KindLaw, file-found, file-again, file-decided}
use Rattle.index_files.proofs.FlatLaw.{flat-law}
use Rattle.index_files.proofs.IvfAgain.{ivf-law}
use Rattle.index_files.proofs.HashLaw.{hash-law}
use Rattle.index_files.proofs.MultiLaw.{multi-law}

law : (kind : KindName) → KindLaw kind
law named.Flat = flat-law
law named.Ivf = ivf-law
law named.Hash = hash-law
law named.Multi = multi-law

-- what is read is a file of the value
pub found : (bytes : List ℕ) (v : IndexValue) → IsBytes bytes → Spells file bytes v → IsFile v bytes
found = file-found law

-- a file of a value is read as it
pub again : (bytes : List ℕ) (v : IndexValue) → IsFile v bytes → Spells file bytes v
again = file-again law

-- each byte list is a file of exactly one value, or has exactly one fault
pub decided : (bytes : List ℕ) → IsBytes bytes → IsDecidedFile bytes
decided = file-decided law
