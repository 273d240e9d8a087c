-- Failures of a shelf as answers of a save.
use Rattle.outside.specs.declared.trouble.Trouble.{Trouble}
use Rattle.outside.specs.declared.trouble.Trouble.TheVariants as trouble
use Rattle.index_files.specs.declared.save_error.SaveError.{SaveError}
use Rattle.index_files.specs.declared.save_error.SaveError.TheVariants as error

abbrev pub save_error : Trouble → SaveError
save_error trouble.Failed = error.Failed
save_error trouble.Memory = error.Memory
