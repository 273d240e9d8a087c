-- Errors of a device as errors of a part.
use Rattle.outside.specs.declared.trouble.Trouble.{Trouble}
use Rattle.outside.specs.declared.trouble.Trouble.TheVariants as trouble
use Rattle.file_parts.specs.declared.part_error.PartError.{PartError}
use Rattle.file_parts.specs.declared.part_error.PartError.TheVariants as error

abbrev pub part_error : Trouble → PartError
part_error trouble.Failed = error.Failed
part_error trouble.Memory = error.Memory
