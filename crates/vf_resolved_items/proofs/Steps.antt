-- Bodies of predicates and contracts of lemmas, from the answers for their parameters and for themselves.
use Rattle.std.proofs.Common.{◌≡◌, ℕ, List, [], Result, Ok, Err, sym, subst}
use Rattle.vf_base.specs.declared.refusal.Refusal.{Refusal}
use Rattle.vf_base.specs.declared.refusal.RuleFault.{RuleFault}
use Rattle.vf_base.specs.declared.refusal.RuleFault.TheVariants as faults
use Rattle.vf_declared.specs.declared.scope.Scope.{Scope}
use Rattle.vf_syntax.specs.declared.contract.Contract.{Contract}
use Rattle.vf_syntax.specs.declared.item.GhostParameter.{GhostParameter}
use Rattle.vf_syntax.specs.AssertionTree.{PartTree, part_list}
use Rattle.vf_sorting.specs.declared.context.Context.{Context}
use Rattle.vf_sorting.specs.Answers.{Answers, Tells}
use Rattle.vf_sorting.proofs.Steps.{told}
use Rattle.vf_asserting.specs.IsRefused.{AnyPartFails}
use Rattle.vf_datatypes.specs.Walking.{Gives}
use Rattle.vf_heads.specs.Parameters.{Taken, none_taken, parameters_behind}
use Rattle.vf_predicates.specs.Bodies.{around_body}
use Rattle.vf_contracts.specs.Comes.{ContractFails}
use Rattle.vf_lemma_items.specs.Lemmas.{around_contract}
use Rattle.vf_resolved_contracts.specs.declared.bodies.BodyRead as code_bodies
use Rattle.vf_resolved_contracts.specs.declared.contracts.ContractRead as code
use Rattle.vf_resolved_contracts.specs.Reading.{body_read_of, read_of}
use Rattle.vf_resolved_contracts.specs.Resolves.{BodyResolves, ContractResolves, IsBodyResolved, IsContractResolved}
use Rattle.vf_resolved_items.specs.Resolves.{IsLemmaResolved, IsPredicateResolved, LemmaResolves, LemmaStops, PredicateResolves, PredicateStops}
use Rattle.vf_resolved_items.specs.Resolves as items

-- what a walk over parameters was refused with
halted : {w : Result Taken Refusal} (P : Refusal → Type 0) (e : RuleFault) (t : Taken) → ((r : Refusal) → w ≡ Err r → P r) → Gives (Err e) t w → Tells P e
halted P (faults.Refused r) t f h = f r h
halted P faults.Memory t f h = tt

-- ---- bodies of predicates
pub first_stop : {paths : List (List ℕ)} {fs gs : List GhostParameter} {xs : List PartTree} {s : Scope} {res : Result code_bodies.BodyRead RuleFault} (e : RuleFault) (t : Taken) → Gives (Err e) t (parameters_behind [] fs (none_taken s)) → res ≡ Err e → IsPredicateResolved paths fs gs xs s res
first_stop {paths = paths} {fs = fs} {gs = gs} {xs = xs} {s = s} e t h q =
    subst (λ (r : Result code_bodies.BodyRead RuleFault). IsPredicateResolved paths fs gs xs s r) (sym q) (record { answers = halted (PredicateStops fs gs xs s) e t (λ r a. items.PredicateStops.first a) h })

pub others_stop : {paths : List (List ℕ)} {fs gs : List GhostParameter} {xs : List PartTree} {s : Scope} {k : Taken} {res : Result code_bodies.BodyRead RuleFault} (e : RuleFault) (t : Taken) → parameters_behind [] fs (none_taken s) ≡ Ok k → Gives (Err e) t (parameters_behind [] gs k) → res ≡ Err e → IsPredicateResolved paths fs gs xs s res
others_stop {paths = paths} {fs = fs} {gs = gs} {xs = xs} {s = s} e t a h q =
    subst (λ (r : Result code_bodies.BodyRead RuleFault). IsPredicateResolved paths fs gs xs s r) (sym q) (record { answers = halted (PredicateStops fs gs xs s) e t (λ r b. items.PredicateStops.others a b) h })

answered : (paths : List (List ℕ)) (fs gs : List GhostParameter) (xs : List PartTree) (s : Scope) (k k' : Taken) (res : Result code_bodies.BodyRead RuleFault) → parameters_behind [] fs (none_taken s) ≡ Ok k → parameters_behind [] gs k ≡ Ok k'
    → Answers (λ y. BodyResolves around_body paths xs k'.scope (body_read_of y)) (AnyPartFails around_body k'.scope [] (part_list xs)) res → Answers (λ y. PredicateResolves paths fs gs xs s (body_read_of y)) (PredicateStops fs gs xs s) res
answered paths fs gs xs s k k' (Ok y) a b h = items.PredicateResolves.body a b h
answered paths fs gs xs s k k' (Err e) a b h = told _ _ e (λ r f. items.PredicateStops.body a b f) h

pub body_resolves : {paths : List (List ℕ)} {fs gs : List GhostParameter} {xs : List PartTree} {s : Scope} {c : Context} {k k' : Taken} {res : Result code_bodies.BodyRead RuleFault} → parameters_behind [] fs (none_taken s) ≡ Ok k → parameters_behind [] gs k ≡ Ok k' → c ≡ around_body → IsBodyResolved c paths xs k'.scope res → IsPredicateResolved paths fs gs xs s res
body_resolves {paths = paths} {fs = fs} {gs = gs} {xs = xs} {s = s} {k = k} {k' = k'} {res = res} a b q i =
    record { answers = answered paths fs gs xs s k k' res a b (subst (λ (c : Context). IsBodyResolved c paths xs k'.scope res) q i).answers }

-- ---- contracts of lemmas
pub parameters_stop : {paths ps : List (List ℕ)} {gs : List GhostParameter} {x : Contract} {s : Scope} {res : Result code.ContractRead RuleFault} (e : RuleFault) (t : Taken) → Gives (Err e) t (parameters_behind ps gs (none_taken s)) → res ≡ Err e → IsLemmaResolved paths ps gs x s res
parameters_stop {paths = paths} {ps = ps} {gs = gs} {x = x} {s = s} e t h q =
    subst (λ (r : Result code.ContractRead RuleFault). IsLemmaResolved paths ps gs x s r) (sym q) (record { answers = halted (LemmaStops ps gs x s) e t (λ r a. items.LemmaStops.parameters a) h })

agreed : (paths ps : List (List ℕ)) (gs : List GhostParameter) (x : Contract) (s : Scope) (k : Taken) (res : Result code.ContractRead RuleFault) → parameters_behind ps gs (none_taken s) ≡ Ok k
    → Answers (λ y. ContractResolves around_contract around_contract paths x k.scope (read_of y)) (ContractFails around_contract around_contract x k.scope) res → Answers (λ y. LemmaResolves paths ps gs x s (read_of y)) (LemmaStops ps gs x s) res
agreed paths ps gs x s k (Ok y) a h = items.LemmaResolves.contract a h
agreed paths ps gs x s k (Err e) a h = told _ _ e (λ r f. items.LemmaStops.contract a f) h

pub contract_resolves : {paths ps : List (List ℕ)} {gs : List GhostParameter} {x : Contract} {s : Scope} {c : Context} {k : Taken} {res : Result code.ContractRead RuleFault} → parameters_behind ps gs (none_taken s) ≡ Ok k → c ≡ around_contract → IsContractResolved c c paths x k.scope res → IsLemmaResolved paths ps gs x s res
contract_resolves {paths = paths} {ps = ps} {gs = gs} {x = x} {s = s} {k = k} {res = res} a q i =
    record { answers = agreed paths ps gs x s k res a (subst (λ (c : Context). IsContractResolved c c paths x k.scope res) q i).answers }
