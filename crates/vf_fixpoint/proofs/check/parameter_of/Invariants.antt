use Rattle.std.proofs.Common.{◌≡◌, drop}
use Rattle.std.specs.Prelude.{map}
use Rattle.std.specs.List.{position_from}
use Rattle.std.specs.Str.{bytes_eq}
use Rattle.vf_fixpoint.proofs.check.parameter_of.Given as goal

abbrev pub invariant-loop-at : goal.invariant-loop-at
invariant-loop-at l = position_from (bytes_eq l.name) l.at (map (λ p. p.name.text) (drop l.at l.parameters)) ≡ position_from (bytes_eq l.name) 0 (map (λ p. p.name.text) l.parameters)
