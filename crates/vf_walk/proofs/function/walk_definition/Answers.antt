use Rattle.std.proofs.Common.{◌≡◌, Err, refl, sym, rules}
use Rattle.vf_base.specs.declared.refusal.RuleFault.TheVariants as faults
use Rattle.vf_walk.proofs.Steps.{end_at, next_of}
use Rattle.vf_walk.proofs.function.walk_definition.Goals as goal

pub returns-in_err-head : goal.returns-in_err-head
returns-in_err-head g c = let is : c.from_residual.result ≡ Err (faults.Refused c.in_err-head.field-0.0) = search rules in end_at (sym c.in_err-head.ensures) refl is

pub returns : goal.returns
returns g c = next_of (sym c.in_ok-head.ensures) c.walk_definition_behind.ensures
