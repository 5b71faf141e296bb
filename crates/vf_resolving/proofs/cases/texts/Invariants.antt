use Rattle.std.proofs.Common.{◌≡◌, map, take}
use Rattle.vf_syntax.specs.declared.written.Name.{Name}
use Rattle.vf_resolving.proofs.cases.texts.Given as goal

abbrev pub invariant-loop-name : goal.invariant-loop-name
invariant-loop-name l = l.texts ≡ map (λ (n : Name). n.text) (take l.name-index l.name-items)
