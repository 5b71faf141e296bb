use Rattle.std.proofs.Common.{◌≡◌, drop}
use Rattle.vf_datatypes.specs.Inhabited.{all_told}
use Rattle.vf_datatypes.proofs.inhabited.all_told.Given as goal

-- those that are left tell what all of them tell
abbrev pub invariant-loop-at : goal.invariant-loop-at
invariant-loop-at l = all_told (drop l.at l.fn.told) ≡ all_told l.fn.told
