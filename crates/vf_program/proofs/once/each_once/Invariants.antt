use Rattle.std.proofs.Common.{◌≡◌, [], map}
use Rattle.vf_core.specs.Shown.{struct_of}
use Rattle.vf_program.specs.Indexes.{struct_identities}
use Rattle.vf_program.specs.Programs.{each_once}
use Rattle.vf_program.proofs.once.each_once.Given as goal

-- those so far stand once, and their identities in the same order
abbrev pub invariant-loop-body : goal.invariant-loop-body
invariant-loop-body l = (map (struct_of l.names) l.bodies ≡ each_once [] (map (struct_of l.names) l.yielded)) × (l.identities ≡ struct_identities l.names l.bodies)
