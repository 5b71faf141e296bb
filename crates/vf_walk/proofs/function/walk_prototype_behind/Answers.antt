use Rattle.std.proofs.Common.{◌≡◌, Err, refl, rules}
use Rattle.vf_walk.proofs.Steps.{end_here, end_of, last, next_of}
use Rattle.vf_walk.proofs.function.walk_prototype_behind.Goals as goal

pub returns-in_err-walk_signature : goal.returns-in_err-walk_signature
returns-in_err-walk_signature g c = let is : c.from_residual.result ≡ Err c.in_err-walk_signature.field-0.0 = search rules in end_here {a = c.walk_signature.new.scope} (end_of _ _ c.in_err-walk_signature.ensures refl) is

pub returns-in_err-walk_contract : goal.returns-in_err-walk_contract
returns-in_err-walk_contract g c = let is : c.from_residual-in_err-walk_contract.result ≡ Err c.in_err-walk_contract.field-0.0 = search rules in end_here (next_of c.in_ok-walk_signature.ensures c.in_err-walk_contract.ensures) is

pub returns : goal.returns
returns g c = last (next_of c.in_ok-walk_signature.ensures c.in_ok-walk_contract.ensures) (cc)
