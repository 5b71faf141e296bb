use Rattle.std.proofs.Common.{◌≡◌, map, take}
use Rattle.vf_syntax.specs.declared.item.GhostParameter.{GhostParameter}
use Rattle.vf_defining.proofs.units.texts.Given as goal

abbrev pub invariant-loop-parameter : goal.invariant-loop-parameter
invariant-loop-parameter l = l.texts ≡ map (λ (g : GhostParameter). g.name.text) (take l.parameter-index l.parameter-items)
