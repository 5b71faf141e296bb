use Rattle.std.proofs.Common.{◌≡◌, ℕ, Ok, Err, refl, sym, ap, subst, rules}
use Rattle.vf_declared.specs.declared.scope.Scope.{Scope}
use Rattle.vf_walk.specs.Items.{WalksContract}
use Rattle.vf_walk.specs.Walking.{Follows}
use Rattle.vf_walk.proofs.Steps.{end_here, end_of, last, next, next_of}
use Rattle.vf_walk.proofs.function.walk_definition_behind.Goals as goal

pub returns-in_err-walk_defined : goal.returns-in_err-walk_defined
returns-in_err-walk_defined g c =
    let is : c.from_residual.result ≡ Err c.in_err-walk_defined.field-0.0 = search rules in
    end_here {a = c.walk_defined.new.scope} (end_here {a = c.walk_defined.new.scope} (end_of _ _ c.in_err-walk_defined.ensures refl) refl) is

pub returns-in_err-walk_own_contract : goal.returns-in_err-walk_own_contract
returns-in_err-walk_own_contract g c =
    let is : c.from_residual-in_err-walk_own_contract.result ≡ Err c.in_err-walk_own_contract.field-0.0 = search rules in
    let own = subst (λ (k : ℕ). Follows {A = Scope} (WalksContract (g.A.Annotations.meanings c.args.annotations.now) c.args.signature.now c.args.head.given k c.args.contract.now c.walk_defined.new.scope) (Err c.in_err-walk_own_contract.field-0.0) c.walk_own_contract.new.scope) c.function_number-number.ensures c.in_err-walk_own_contract.ensures in
    end_here {a = c.walk_own_contract.new.scope} (end_here (next_of c.in_ok-walk_defined.ensures own) refl) is

pub returns-in_err-walk_body : goal.returns-in_err-walk_body
returns-in_err-walk_body g c =
    let is : c.from_residual-in_err-walk_body.result ≡ Err c.in_err-walk_body.field-0.0 = search rules in
    let own = subst (λ (k : ℕ). Follows {A = Scope} (WalksContract (g.A.Annotations.meanings c.args.annotations.now) c.args.signature.now c.args.head.given k c.args.contract.now c.walk_defined.new.scope) (Ok tt) c.walk_own_contract.new.scope) c.function_number-number.ensures c.in_ok-walk_own_contract.ensures in
    end_here (next (next_of c.in_ok-walk_defined.ensures own) c.in_err-walk_body.ensures) is

pub returns : goal.returns
returns g c =
    let own = subst (λ (k : ℕ). Follows {A = Scope} (WalksContract (g.A.Annotations.meanings c.args.annotations.now) c.args.signature.now c.args.head.given k c.args.contract.now c.walk_defined.new.scope) (Ok tt) c.walk_own_contract.new.scope) c.function_number-number.ensures c.in_ok-walk_own_contract.ensures in
    last (next (next_of c.in_ok-walk_defined.ensures own) c.in_ok-walk_body.ensures) (ap Ok (sym c.clear.ensures))
