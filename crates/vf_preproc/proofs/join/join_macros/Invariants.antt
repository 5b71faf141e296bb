-- Joining the rest joins all.
use Rattle.std.proofs.Common.{◌≡◌, drop}
use Rattle.vf_preproc.specs.UnitText.{joined}
use Rattle.vf_preproc.specs.Kept.{table_of}
use Rattle.vf_preproc.proofs.join.join_macros.Given as goal

abbrev pub invariant-loop-at : goal.invariant-loop-at
invariant-loop-at l = joined l.hash (table_of l.fn.macros) l.others.names (table_of l.others).bodies ≡ joined l.hash (table_of l.macros) (drop l.at l.others.names) (drop l.at (table_of l.others).bodies)
