-- None of the entries that were passed is at the path.
use Rattle.std.proofs.Common.{take}
use Rattle.vf_base.specs.InMemory.{IsNowhere}
use Rattle.vf_base.proofs.file_table.place_of.Given as goal

abbrev pub invariant-loop-at : goal.invariant-loop-at
invariant-loop-at l = IsNowhere (take l.at l.entries) l.path
