-- The text is the path of the parts so far.
use Rattle.std.proofs.Common.{◌≡◌, take}
use Rattle.std.specs.List.{join_with_byte}
use Rattle.vf_snapshot.proofs.path.path_of_parts.Given as goal

abbrev pub invariant-loop-at : goal.invariant-loop-at
invariant-loop-at l = l.text ≡ join_with_byte 47 (take l.at l.parts)
