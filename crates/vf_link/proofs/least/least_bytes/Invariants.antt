use Rattle.std.proofs.Common.{take}
use Rattle.std.specs.Option.{option_copied}
use Rattle.vf_link.specs.Least.{IsLeastOf, IsMarkedText}
use Rattle.vf_link.proofs.least.least_bytes.Given as goal

abbrev pub invariant-loop-at : goal.invariant-loop-at
invariant-loop-at l = IsLeastOf (IsMarkedText l.topic (take l.at l.subjects) l.marks) (option_copied l.least)
