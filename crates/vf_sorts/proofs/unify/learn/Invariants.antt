use Rattle.std.proofs.Common.{◌≡◌, take}
use Rattle.std.specs.Prelude.{map}
use Rattle.std.specs.Option.{option_map}
use Rattle.vf_sorts.specs.Unknowns.{filled, only}
use Rattle.vf_sorts.proofs.unify.learn.Given as goal

abbrev pub invariant-loop-known_one : goal.invariant-loop-known_one
invariant-loop-known_one l = l.next.items ≡ map (option_map (filled (only l.number l.sort))) (take l.known_one-index l.known_one-items)
