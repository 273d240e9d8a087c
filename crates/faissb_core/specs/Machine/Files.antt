-- save and load.
use Rattle.std.specs.Prelude.{ℕ, List, Ok}
use Rattle.bcodes.specs.Value.{IndexValue}
use Rattle.multi_hash.specs.Wide.{wide}
use Rattle.outside.specs.Contents.{Files}
use Rattle.file_parts.specs.Format.{read}
use Rattle.index_files.specs.Canon.{canon}
use Rattle.index_files.specs.FileFormat.{file}
use Rattle.faissb_core.specs.declared.reply.refusal.Refusal.TheVariants.{NoFile, File, BucketBits}
use Rattle.faissb_core.specs.Language.Words.{Word}
use Rattle.faissb_core.specs.Machine.Checked.{Checked, given◌else◌, absent◌else◌, accept◌else◌, ◌>>=◌, ◌>>◌}

-- the file that is written of an index
abbrev pub spelled : IndexValue → Checked (List ℕ)
spelled v = do
  absent wide v else BucketBits
  Ok (canon v)

-- the index that the file of a name stands for
abbrev pub loaded : Files → Word → Checked IndexValue
loaded files name = do
  bytes ← given files name else NoFile
  accept read file bytes else File
