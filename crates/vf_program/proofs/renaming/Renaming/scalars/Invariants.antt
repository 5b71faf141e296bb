use Rattle.std.proofs.Common.{◌≡◌, map, take}
use Rattle.vf_core.specs.Shown.{type_of}
use Rattle.vf_program.proofs.renaming.Renaming.scalars.Given as goal

-- those so far are the first
abbrev pub invariant-loop-scalar : goal.invariant-loop-scalar
invariant-loop-scalar l = map (type_of l.self.all.now) l.all ≡ map (type_of l.self.own.now) (take l.scalar-index l.scalar-items)
