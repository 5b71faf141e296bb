use Rattle.std.proofs.Common.{◌≡◌, Ok, Err, refl, sym, ap, rules}
use Rattle.vf_walk.proofs.Steps.{end_here, end_of, last, next_of}
use Rattle.vf_walk.proofs.function_type.walk_giving.Goals as goal

pub returns-in_err-walk_declared : goal.returns-in_err-walk_declared
returns-in_err-walk_declared g c = let is : c.from_residual.result ≡ Err c.in_err-walk_declared.field-0.0 = search rules in end_here {a = c.walk_declared.new.scope} (end_of _ _ c.in_err-walk_declared.ensures refl) is

pub returns-in_err-walk_contract : goal.returns-in_err-walk_contract
returns-in_err-walk_contract g c = let is : c.from_residual-in_err-walk_contract.result ≡ Err c.in_err-walk_contract.field-0.0 = search rules in end_here (next_of c.in_ok-walk_declared.ensures c.in_err-walk_contract.ensures) is

pub returns : goal.returns
returns g c = last (next_of c.in_ok-walk_declared.ensures c.in_ok-walk_contract.ensures) (ap Ok (sym c.clear.ensures))
