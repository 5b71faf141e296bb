-- What the code keeps, as the definitions see it.
use Rattle.vf_fixpoint.specs.declared.calls.Recursion.{Recursion as Kept}
use Rattle.vf_fixpoint.specs.Calls.{Recursion}

-- what calls are held to
abbrev pub recursion_of : Kept → Recursion
recursion_of r = record { name = r.name.now; parameter = r.parameter; components = r.components.now }
