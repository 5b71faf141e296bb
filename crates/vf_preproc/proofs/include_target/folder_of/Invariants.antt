-- The folder of the path so far.
use Rattle.std.proofs.Common.{◌≡◌, ◌≤◌, take}
use Rattle.vf_preproc.specs.Targets.{folder_of}
use Rattle.vf_preproc.proofs.include_target.folder_of.Given as goal

abbrev pub invariant-loop-at : goal.invariant-loop-at
invariant-loop-at l = record { folder : folder_of (take l.at l.path) ≡ take l.size l.path; within : l.size ≤ l.at }
