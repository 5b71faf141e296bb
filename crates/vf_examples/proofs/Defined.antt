-- Functions of which the definition alone has a contract.
use Rattle.std.proofs.Common.{◌≡◌, Some, None, sym, subst, ◌∙◌}
use Rattle.vf_tree.specs.Core.{FunctionTree, ProgramTree}
use Rattle.vf_meaning.specs.Assertions.{ContractTree, Environment}
use Rattle.vf_meaning.specs.Environments.{own_contract}
use Rattle.vf_rules.specs.Accept.{IsAcceptedFunction}
use Rattle.vf_safety.specs.Laws.{KeepsContracts}

none_some : {A B : Type 0} {x : A} → None ≡ Some x → B
none_some e = cc

-- such a function keeps its contracts where its body is accepted under its own
pub only_defined : (e : Environment) (p : ProgramTree) (f : FunctionTree) (own : ContractTree) → own_contract e f.identity ≡ Some own → e.prototypes f.identity ≡ None → IsAcceptedFunction e p f own → (g : FunctionTree) → f ≡ g → KeepsContracts e p g
only_defined e p f own is_own none accepted g same = subst (KeepsContracts e p) same (record { own = own; is_own = is_own; accepted = accepted; refines = λ defined prototype is known. none_some (sym none ∙ known) })
