use Rattle.std.proofs.Common.{◌≡◌, map, take}
use Rattle.vf_core.specs.Shown.{type_of}
use Rattle.vf_steps.specs.Core.{type_tree}
use Rattle.vf_flow.specs.Named.{naming_of}
use Rattle.vf_flow.proofs.naming.Naming.scalars.Given as goal

-- those so far are the first
abbrev pub invariant-loop-ctype : goal.invariant-loop-ctype
invariant-loop-ctype l = map (type_of l.self.names.now) l.scalars ≡ map (type_tree (naming_of l.self)) (take l.ctype-index l.ctype-items)
