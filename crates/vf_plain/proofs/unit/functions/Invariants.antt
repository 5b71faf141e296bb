use Rattle.std.proofs.Common.{◌≡◌, map, take}
use Rattle.vf_core.specs.Shown.{function_of}
use Rattle.vf_flow.specs.Named.{naming_of}
use Rattle.vf_erase.specs.Shown.{plains_shown}
use Rattle.vf_plain.specs.Units.{function_tree}
use Rattle.vf_plain.proofs.unit.functions.Given as goal

-- those so far are the first
abbrev pub invariant-loop-plain : goal.invariant-loop-plain
invariant-loop-plain l = map (function_of l.naming.names.now) l.all ≡ map (function_tree (naming_of l.naming) l.scope) (plains_shown (take l.plain-index l.plain-items))
