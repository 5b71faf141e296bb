-- What the code keeps, as the definitions see it.
use Rattle.std.specs.Prelude.{map}
use Rattle.vf_preproc.specs.declared.macros.Macros.{Macros}
use Rattle.vf_preproc.specs.Macros.{Table}

-- the macros that are kept
abbrev pub table_of : Macros → Table
table_of m = record { names = m.names; bodies = map (λ b. b.value) m.bodies }
