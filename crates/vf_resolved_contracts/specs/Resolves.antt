-- What contracts and bodies of predicates come to where they are resolved: their resolved trees, or the refusal of their sorting.
use Rattle.std.specs.Prelude.{ℕ, List, []}
use Rattle.std.specs.declared.result.Result.{Result}
use Rattle.vf_base.specs.declared.refusal.RuleFault.{RuleFault}
use Rattle.vf_sorts.specs.Unknowns.{Known}
use Rattle.vf_declared.specs.declared.scope.Scope.{Scope}
use Rattle.vf_syntax.specs.declared.contract.Contract as written
use Rattle.vf_syntax.specs.AssertionTree.{PartTree, part_list}
use Rattle.vf_sorting.specs.declared.context.Context.{Context}
use Rattle.vf_sorting.specs.Answers.{Answers}
use Rattle.vf_asserting.specs.Gives.{Gives}
use Rattle.vf_asserting.specs.IsRefused.{AnyPartFails}
use Rattle.vf_asserting.specs.Leaving.{count, left}
use Rattle.vf_contracts.specs.Comes.{ContractFails}
use Rattle.vf_resolved_contracts.specs.declared.contracts.ContractRead as code
use Rattle.vf_resolved_contracts.specs.declared.bodies.BodyRead as code_bodies
use Rattle.vf_resolved_contracts.specs.Reading.{BodyRead, ContractRead, body_read, body_read_of, contract_read, read_of}

-- what is known of unknown sorts behind a contract, whose names are gone
pub data ContractKnows (c d : Context) (x : written.Contract) (s : Scope) : Known → Scope → Type 0 where
  knows : {s₁ s₂ : Scope} {k k' : Known} → Gives c s [] (part_list x.precondition) s₁ k → Gives d s₁ k (part_list x.postcondition) s₂ k' → ContractKnows c d x s k' (left (count s) s₂)

-- a contract is resolved with what is known of unknown sorts when all of them are sorted
pub data ContractResolves (c d : Context) (paths : List (List ℕ)) (x : written.Contract) (s : Scope) : ContractRead → Type 0 where
  resolves : {t : Scope} {k : Known} → ContractKnows c d x s k t → ContractResolves c d paths x s (contract_read c d k paths x t)

-- an answer for what is known behind a contract
pub record IsContractKnown (c d : Context) (x : written.Contract) (s : Scope) (r : Result Known RuleFault) (t : Scope) : Type 0 where
  pub answers : Answers (λ k. ContractKnows c d x s k t) (ContractFails c d x s) r

-- an answer for a contract is its resolved tree and what is declared behind it, or its refusal
pub record IsContractResolved (c d : Context) (paths : List (List ℕ)) (x : written.Contract) (s : Scope) (r : Result code.ContractRead RuleFault) : Type 0 where
  pub answers : Answers (λ y. ContractResolves c d paths x s (read_of y)) (ContractFails c d x s) r

-- what is known of unknown sorts behind the body of a predicate, whose names are gone
pub data BodyKnows (c : Context) (xs : List PartTree) (s : Scope) : Known → Scope → Type 0 where
  knows : {s' : Scope} {k : Known} → Gives c s [] (part_list xs) s' k → BodyKnows c xs s k (left (count s) s')

-- the body of a predicate is resolved with it
pub data BodyResolves (c : Context) (paths : List (List ℕ)) (xs : List PartTree) (s : Scope) : BodyRead → Type 0 where
  resolves : {t : Scope} {k : Known} → BodyKnows c xs s k t → BodyResolves c paths xs s (body_read c k paths xs t)

-- an answer for what is known behind a body
pub record IsBodyKnown (c : Context) (xs : List PartTree) (s : Scope) (r : Result Known RuleFault) (t : Scope) : Type 0 where
  pub answers : Answers (λ k. BodyKnows c xs s k t) (AnyPartFails c s [] (part_list xs)) r

-- an answer for a body is its resolved tree, or its refusal
pub record IsBodyResolved (c : Context) (paths : List (List ℕ)) (xs : List PartTree) (s : Scope) (r : Result code_bodies.BodyRead RuleFault) : Type 0 where
  pub answers : Answers (λ y. BodyResolves c paths xs s (body_read_of y)) (AnyPartFails c s [] (part_list xs)) r
