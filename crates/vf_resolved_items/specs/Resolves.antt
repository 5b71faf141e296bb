-- What bodies of predicates and contracts come to behind the parameters that the text has: their resolved trees, or their first refusal.
use Rattle.std.specs.Prelude.{◌≡◌, ℕ, List, [], Ok, Err}
use Rattle.std.specs.declared.result.Result.{Result}
use Rattle.vf_base.specs.declared.refusal.Refusal.{Refusal}
use Rattle.vf_base.specs.declared.refusal.RuleFault.{RuleFault}
use Rattle.vf_declared.specs.declared.scope.Scope.{Scope}
use Rattle.vf_syntax.specs.declared.contract.Contract.{Contract}
use Rattle.vf_syntax.specs.declared.item.GhostParameter.{GhostParameter}
use Rattle.vf_syntax.specs.AssertionTree.{PartTree, part_list}
use Rattle.vf_sorting.specs.Answers.{Answers}
use Rattle.vf_asserting.specs.IsRefused.{AnyPartFails}
use Rattle.vf_heads.specs.Parameters.{Taken, none_taken, parameters_behind}
use Rattle.vf_predicates.specs.Bodies.{around_body}
use Rattle.vf_contracts.specs.Comes.{ContractFails}
use Rattle.vf_lemma_items.specs.Lemmas.{around_contract}
use Rattle.vf_resolved_contracts.specs.declared.bodies.BodyRead as code_bodies
use Rattle.vf_resolved_contracts.specs.declared.contracts.ContractRead as code
use Rattle.vf_resolved_contracts.specs.Reading.{BodyRead, ContractRead, body_read_of, read_of}
use Rattle.vf_resolved_contracts.specs.Resolves.{BodyResolves, ContractResolves}

-- the body of a predicate, behind the first parameters of a predicate constructor, where it has any, and the others
pub data PredicateResolves (paths : List (List ℕ)) (fs gs : List GhostParameter) (xs : List PartTree) (s : Scope) : BodyRead → Type 0 where
  body : {k k' : Taken} {y : BodyRead} → parameters_behind [] fs (none_taken s) ≡ Ok k → parameters_behind [] gs k ≡ Ok k' → BodyResolves around_body paths xs k'.scope y → PredicateResolves paths fs gs xs s y

-- a parameter or the body is refused
pub data PredicateStops (fs gs : List GhostParameter) (xs : List PartTree) (s : Scope) : Refusal → Type 0 where
  first : {r : Refusal} → parameters_behind [] fs (none_taken s) ≡ Err r → PredicateStops fs gs xs s r
  others : {k : Taken} {r : Refusal} → parameters_behind [] fs (none_taken s) ≡ Ok k → parameters_behind [] gs k ≡ Err r → PredicateStops fs gs xs s r
  body : {k k' : Taken} {r : Refusal} → parameters_behind [] fs (none_taken s) ≡ Ok k → parameters_behind [] gs k ≡ Ok k' → AnyPartFails around_body k'.scope [] (part_list xs) r → PredicateStops fs gs xs s r

-- an answer for the body of a predicate
pub record IsPredicateResolved (paths : List (List ℕ)) (fs gs : List GhostParameter) (xs : List PartTree) (s : Scope) (r : Result code_bodies.BodyRead RuleFault) : Type 0 where
  pub answers : Answers (λ y. PredicateResolves paths fs gs xs s (body_read_of y)) (PredicateStops fs gs xs s) r

-- the contract of a lemma with these type parameters, behind its parameters
pub data LemmaResolves (paths : List (List ℕ)) (ps : List (List ℕ)) (gs : List GhostParameter) (x : Contract) (s : Scope) : ContractRead → Type 0 where
  contract : {k : Taken} {y : ContractRead} → parameters_behind ps gs (none_taken s) ≡ Ok k → ContractResolves around_contract around_contract paths x k.scope y → LemmaResolves paths ps gs x s y

-- a parameter or the contract is refused
pub data LemmaStops (ps : List (List ℕ)) (gs : List GhostParameter) (x : Contract) (s : Scope) : Refusal → Type 0 where
  parameters : {r : Refusal} → parameters_behind ps gs (none_taken s) ≡ Err r → LemmaStops ps gs x s r
  contract : {k : Taken} {r : Refusal} → parameters_behind ps gs (none_taken s) ≡ Ok k → ContractFails around_contract around_contract x k.scope r → LemmaStops ps gs x s r

-- an answer for the contract of a lemma
pub record IsLemmaResolved (paths : List (List ℕ)) (ps : List (List ℕ)) (gs : List GhostParameter) (x : Contract) (s : Scope) (r : Result code.ContractRead RuleFault) : Type 0 where
  pub answers : Answers (λ y. LemmaResolves paths ps gs x s (read_of y)) (LemmaStops ps gs x s) r
