-- What comes of a line that was not applied, and of a text that was not written.
use Rattle.outside.specs.declared.trouble.Trouble.{Trouble}
use Rattle.outside.specs.declared.trouble.Trouble.TheVariants as trouble
use Rattle.faissb_core.specs.declared.session.stop.Stop.{Stop}
use Rattle.faissb_core.specs.declared.session.stop.Stop.TheVariants as stop
use Rattle.faissb_core.specs.declared.runs.fault.Fault.{Fault}
use Rattle.faissb_core.specs.declared.runs.fault.Fault.TheVariants.{Shelf, Output, Memory}
use Rattle.faissb_core.specs.declared.runs.status.Status.{Status}
use Rattle.faissb_core.specs.declared.runs.status.Status.TheVariants as status

abbrev pub fault_of_stop : Stop → Fault
fault_of_stop stop.ShelfFailed = Shelf
fault_of_stop stop.Memory = Memory

abbrev pub fault_of_trouble : Trouble → Fault
fault_of_trouble trouble.Failed = Output
fault_of_trouble trouble.Memory = Memory

-- the status of a run that it ends
abbrev pub status_of : Fault → Status
status_of Shelf = status.ShelfFault
status_of Output = status.OutputFault
status_of Memory = status.Memory
