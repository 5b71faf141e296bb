-- The numbers of the statuses.
use Rattle.std.specs.Prelude.{ℕ}
use Rattle.vf_base.specs.declared.files.FileFault.{FileFault}
use Rattle.vf_base.specs.declared.files.FileFault.TheVariants as faults
use Rattle.vf_report.specs.declared.status.Stop.{Stop}
use Rattle.vf_report.specs.declared.status.Stop.TheVariants as stops
use Rattle.vf_report.specs.declared.status.Status.{Status}
use Rattle.vf_report.specs.declared.status.Status.TheVariants.{Done, Refused, LinkRefused, RunFault, Usage, ReadFault, WriteFault, Memory, Capacity, Missing, Unreadable, CertRefused}

-- the exit code of a status
abbrev pub code_of : Status → ℕ
code_of Done = 0
code_of Refused = 1
code_of LinkRefused = 2
code_of RunFault = 3
code_of Usage = 4
code_of ReadFault = 5
code_of WriteFault = 6
code_of Memory = 7
code_of Capacity = 8
code_of Missing = 9
code_of Unreadable = 10
code_of CertRefused = 11

-- how a fault of reading stops a call
abbrev pub stop_of : FileFault → Stop
stop_of faults.Missing = stops.Missing
stop_of faults.Failed = stops.ReadFault
stop_of faults.Memory = stops.Memory

-- the status of a call that was stopped
abbrev pub status_of_stop : Stop → Status
status_of_stop stops.ReadFault = ReadFault
status_of_stop stops.Missing = Missing
status_of_stop stops.Unreadable = Unreadable
status_of_stop stops.Memory = Memory

-- the status of an answer that is printed whole
abbrev pub IsTold : Status → Type 0
IsTold Done = Unit {0}
IsTold Refused = Unit {0}
IsTold LinkRefused = Unit {0}
IsTold RunFault = Unit {0}
IsTold Capacity = Unit {0}
IsTold _ = ⊥

-- the statuses that can come: there are no certificates yet
abbrev pub CanCome : Status → Type 0
CanCome CertRefused = ⊥
CanCome _ = Unit {0}
