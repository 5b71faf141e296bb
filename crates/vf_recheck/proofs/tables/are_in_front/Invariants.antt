use Rattle.std.proofs.Common.{◌≡◌, take}
use Rattle.vf_recheck.proofs.tables.are_in_front.Given as goal

abbrev pub invariant-loop-i : goal.invariant-loop-i
invariant-loop-i l = take l.i l.wanted ≡ take l.i l.kept
