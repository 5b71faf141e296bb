-- Faults of a trail as faults of an asker.
use Rattle.vf_trail.specs.declared.trail.TrailFault.{TrailFault}
use Rattle.vf_trail.specs.declared.trail.TrailFault.TheVariants as trails
use Rattle.vf_asking.specs.declared.asker.AskFault.{AskFault}
use Rattle.vf_asking.specs.declared.asker.AskFault.TheVariants.{Full, Memory}

-- an asker's push is full where its trail is
abbrev pub ask_fault_of : TrailFault → AskFault
ask_fault_of trails.Full = Full
ask_fault_of trails.Memory = Memory
