-- The counts of the host's files and of its standard output.
use Rattle.std.specs.Prelude.{ℕ, List, length, Result, Ok, Err, nat_eq, nat_lt, ◌&&◌, if◌then◌else◌}
use Rattle.vf_base.specs.Outside.{next_count}
use Rattle.vf_base.specs.declared.files.FileFault.{FileFault}
use Rattle.vf_base.specs.declared.files.FileFault.TheVariants as read_faults
use Rattle.vf_base.specs.declared.files.PutFault.{PutFault}
use Rattle.vf_base.specs.declared.files.PutFault.TheVariants as put_faults
use Rattle.vf_base.specs.declared.sink.SinkFault.{SinkFault}
use Rattle.vf_base.specs.declared.sink.SinkFault.TheVariants as sink_faults

-- how many reads failed, how many found no file, and how many writes failed
pub record HostCounts : Type 0 where
  pub failures : ℕ
  pub absences : ℕ
  pub put_failures : ℕ

-- the counts after a read that gave this answer: one more refusal of its kind
abbrev pub after_host_read : HostCounts → Result (Unit {0}) FileFault → HostCounts
after_host_read c (Ok _) = c
after_host_read c (Err read_faults.Missing) = record c { absences = next_count c.absences }
after_host_read c (Err read_faults.Failed) = record c { failures = next_count c.failures }
after_host_read c (Err read_faults.Memory) = c

-- the counts after a write of a file that gave this answer
abbrev pub after_host_put : HostCounts → Result (Unit {0}) PutFault → HostCounts
after_host_put c (Ok _) = c
after_host_put c (Err put_faults.Failed) = record c { put_failures = next_count c.put_failures }
after_host_put c (Err put_faults.Memory) = c

-- the failures of a sink after a write of a piece that gave this answer: one more where it failed, and where it took nothing of a piece that is not empty
abbrev pub after_host_write : ℕ → List ℕ → Result ℕ SinkFault → ℕ
after_host_write failures piece (Ok taken) = if nat_eq taken 0 && nat_lt 0 (length piece) then next_count failures else failures
after_host_write failures piece (Err sink_faults.Failed) = next_count failures
after_host_write failures piece (Err sink_faults.Memory) = failures
