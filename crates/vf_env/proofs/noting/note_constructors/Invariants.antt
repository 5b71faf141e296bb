use Rattle.std.proofs.Common.{map, take}
use Rattle.vf_env.specs.Named.{constructor_name}
use Rattle.vf_env.specs.Noted.{AreNoted}
use Rattle.vf_env.proofs.noting.note_constructors.Given as goal

-- the first constructors are noted
abbrev pub invariant-loop-constructor : goal.invariant-loop-constructor
invariant-loop-constructor l = AreNoted l.fn.names (map constructor_name (take l.constructor-index l.fn.constructors)) l.fn.number l.fn.trees l.trees
