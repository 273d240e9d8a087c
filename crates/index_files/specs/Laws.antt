-- Files as a whole: each list of bytes is decided, and what a value is before it is written.
use Rattle.std.specs.Prelude.{◌≡◌, ℕ, List}
use Rattle.std.specs.List.{All}
use Rattle.bcodes.specs.Value.{Inner, Ivf, IndexValue, Bare, IdMap, dim_of_inner}
use Rattle.bcodes.specs.Value.{count_of_inner, rows_of_inner, IsPlace}
use Rattle.file_parts.specs.declared.role.Role.{Role}
use Rattle.file_parts.specs.declared.role.Role.TheVariants.{Outermost, Within, Quantizer}
use Rattle.file_parts.specs.Format.{FirstFault, IsDecided}
use Rattle.index_files.specs.File.{IsFile}
use Rattle.index_files.specs.FileFormat.{file}

-- an index within an IDMap has its dimension and count, and its labels are places
pub record IsInside (dim count : ℕ) (v : Inner) : Type 0 where
  pub same_dim : dim_of_inner v ≡ dim
  pub same_count : count_of_inner v ≡ count
  pub labels : All (λ row. IsPlace count row.label) (rows_of_inner v)

abbrev pub FitsRole : Role → Inner → Type 0
FitsRole Outermost v = Unit {0}
FitsRole (Within dim count) v = IsInside dim count v
FitsRole (Quantizer dim nlist rows flag) v = ⊥

-- a role that an index of any kind may have
abbrev pub IsBodyRole : Role → Type 0
IsBodyRole Outermost = Unit {0}
IsBodyRole (Within dim count) = Unit {0}
IsBodyRole (Quantizer dim nlist rows flag) = ⊥

-- the bytes are a file of exactly one value, or have exactly one fault
abbrev pub IsDecidedFile : List ℕ → Type 0
IsDecidedFile bytes = IsDecided (λ v. IsFile v bytes) (FirstFault file bytes)

-- the value with no limit on the codes that a query looks at
abbrev pub unlimited_inner : Inner → Inner
unlimited_inner (Ivf v) = Ivf (record v { max_codes = 0 })
unlimited_inner v = v

abbrev pub unlimited : IndexValue → IndexValue
unlimited (Bare v) = Bare (unlimited_inner v)
unlimited (IdMap name v ids) = IdMap name (unlimited_inner v) ids
