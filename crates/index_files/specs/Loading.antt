-- What a load answers.
use Rattle.std.specs.Prelude.{◌≡◌, Result, Ok, Err}
use Rattle.bcodes.specs.Value.{IndexValue}
use Rattle.file_parts.specs.declared.file_fault.FileFault.{FileFault}
use Rattle.file_parts.specs.declared.part_error.PartError.{PartError}
use Rattle.file_parts.specs.declared.part_error.PartError.TheVariants as part
use Rattle.index_files.specs.declared.load_error.LoadError.{LoadError}
use Rattle.index_files.specs.declared.load_error.LoadError.TheVariants as error

-- A load answers what its file is, its value or its fault, unless the shelf failed or memory ran out.
abbrev pub Loads : Result IndexValue LoadError → Result IndexValue FileFault → Type 0
Loads (Ok v) file = file ≡ Ok v
Loads (Err (error.Bad fault)) file = file ≡ Err fault
Loads (Err error.Failed) file = Unit {0}
Loads (Err error.Memory) file = Unit {0}

-- the failure of a part as that of a load
abbrev pub load_error : PartError → LoadError
load_error (part.Bad fault) = error.Bad fault
load_error part.Failed = error.Failed
load_error part.Memory = error.Memory
