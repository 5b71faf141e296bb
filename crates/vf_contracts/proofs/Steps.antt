-- What contracts and invariants come to, from the answers for their assertions.
use Rattle.std.proofs.Common.{◌≡◌, ℕ, List, [], Result, Ok, Err, sym, subst}
use Rattle.vf_base.specs.declared.refusal.Refusal.{Refusal}
use Rattle.vf_base.specs.declared.refusal.RuleFault.{RuleFault}
use Rattle.vf_base.specs.declared.refusal.RuleFault.TheVariants as faults
use Rattle.vf_sorts.specs.Unknowns.{Known}
use Rattle.vf_declared.specs.Changes.{first_locals}
use Rattle.vf_declared.specs.declared.locals.Locals.{Locals}
use Rattle.vf_declared.specs.declared.scope.Scope.{Scope}
use Rattle.vf_syntax.specs.declared.contract.Contract.{Contract}
use Rattle.vf_syntax.specs.declared.contract.Invariant.{Invariant}
use Rattle.vf_syntax.specs.AssertionTree.{PartTree, part_list}
use Rattle.vf_sorting.specs.declared.context.Context.{Context}
use Rattle.vf_sorting.specs.Answers.{Tells}
use Rattle.vf_sorting.proofs.Steps.{told}
use Rattle.vf_asserting.specs.Answers.{IsAssertion}
use Rattle.vf_asserting.specs.Gives.{Gives}
use Rattle.vf_asserting.specs.IsRefused.{AnyPartFails}
use Rattle.vf_asserting.specs.Leaving.{count}
use Rattle.vf_asserting.proofs.Wholes.{gone}
use Rattle.vf_walk.specs.declared.annotations.Owner.{Owner}
use Rattle.vf_walk.specs.Walking.{Follows}
use Rattle.vf_walk.specs.Walking as walking
use Rattle.vf_contracts.specs.Comes as contracts
use Rattle.vf_contracts.specs.Comes.{around_invariant, around_postcondition, around_precondition, ContractComes, InvariantComes, OwnedComes}

-- a fault that is a refusal is that of the whole
fault : {A : Type 0} {P : Result A Refusal → Type 0} (e : RuleFault) (t : A) → Tells (λ r. P (Err r)) e → Follows P (Err e) t
fault (faults.Refused r) t h = walking.to_refusal h
fault faults.Memory t h = walking.out_of_memory

-- a fault of a part is one of the whole
pub stops : {A : Type 0} {P : Result A Refusal → Type 0} {res : Result (Unit {0}) RuleFault} {t : A} (Q : Refusal → Type 0) (e : RuleFault) → ((r : Refusal) → Q r → P (Err r)) → Tells Q e → res ≡ Err e → Follows P res t
stops {P = P} {t = t} Q e f a q = subst (λ (r : Result (Unit {0}) RuleFault). Follows P r t) (sym q) (fault e t (told Q (λ r. P (Err r)) e f a))

-- an assertion with nothing known before
given : {c : Context} {s s₁ : Scope} {k k₁ : Known} (x : List PartTree) → k ≡ [] → IsAssertion {A = Unit {0}} c s k (part_list x) (Ok tt) s₁ k₁ → Gives c s [] (part_list x) s₁ k₁
given {c = c} {s = s} {s₁ = s₁} {k₁ = k₁} x w i = subst (λ (k : Known). Gives c s k (part_list x) s₁ k₁) w i.answers.1

pub precondition_fails : {c d : Context} {x : Contract} {s s₁ t : Scope} {k k₁ : Known} {res : Result (Unit {0}) RuleFault} (e : RuleFault) → k ≡ [] → IsAssertion {A = Unit {0}} c s k (part_list x.precondition) (Err e) s₁ k₁ → res ≡ Err e → Follows (ContractComes c d x s) res t
precondition_fails {c = c} {x = x} {s = s} e w i q = stops _ e (λ r h. contracts.ContractComes.refused (contracts.precondition (subst (λ (k : Known). AnyPartFails c s k (part_list x.precondition) r) w h))) i.answers q

pub postcondition_fails : {c d : Context} {x : Contract} {s s₁ s₂ t : Scope} {k k₁ k₂ : Known} {res : Result (Unit {0}) RuleFault} (e : RuleFault) → k ≡ [] → IsAssertion {A = Unit {0}} c s k (part_list x.precondition) (Ok tt) s₁ k₁ → IsAssertion {A = Unit {0}} d s₁ k₁ (part_list x.postcondition) (Err e) s₂ k₂ → res ≡ Err e → Follows (ContractComes c d x s) res t
postcondition_fails {x = x} e w i j q = stops _ e (λ r h. contracts.ContractComes.refused (contracts.postcondition (given x.precondition w i) h)) j.answers q

pub contract_gives : {c d : Context} {x : Contract} {s s₁ s₂ : Scope} {k k₁ k₂ : Known} {m : ℕ} {l : Locals} → k ≡ [] → IsAssertion {A = Unit {0}} c s k (part_list x.precondition) (Ok tt) s₁ k₁ → m ≡ count s₁ → IsAssertion {A = Unit {0}} d s₁ k₁ (part_list x.postcondition) (Ok tt) s₂ k₂ → l ≡ first_locals s₂.locals m → Follows (ContractComes c d x s) (Ok tt) (record s₂ { locals = l })
contract_gives {c = c} {d = d} {x = x} {s = s} {s₁ = s₁} {s₂ = s₂} w i m j l = subst (λ (t : Scope). Follows (ContractComes c d x s) (Ok tt) t) (sym (gone s₁ s₂ m l)) (walking.to_end (contracts.ContractComes.given (contracts.contract (given x.precondition w i) j.answers.1)))

pub invariant_fails : {x : Invariant} {c : Context} {s s₁ t : Scope} {k k₁ : Known} {res : Result (Unit {0}) RuleFault} (e : RuleFault) → c ≡ around_invariant → k ≡ [] → IsAssertion {A = Unit {0}} c s k (part_list x.assertion) (Err e) s₁ k₁ → res ≡ Err e → Follows (InvariantComes x s) res t
invariant_fails {x = x} {c = c} {s = s} e a w i q = stops _ e (λ r h. contracts.InvariantComes.refused (subst (λ (c : Context). AnyPartFails c s [] (part_list x.assertion) r) a (subst (λ (k : Known). AnyPartFails c s k (part_list x.assertion) r) w h))) i.answers q

pub invariant_gives : {x : Invariant} {c : Context} {s s₁ : Scope} {k k₁ : Known} → c ≡ around_invariant → k ≡ [] → IsAssertion {A = Unit {0}} c s k (part_list x.assertion) (Ok tt) s₁ k₁ → Follows (InvariantComes x s) (Ok tt) s₁
invariant_gives {x = x} {s = s} {s₁ = s₁} {k₁ = k₁} a w i = walking.to_end (contracts.InvariantComes.given (subst (λ (c : Context). Gives c s [] (part_list x.assertion) s₁ k₁) a (given x.assertion w i)))

-- a contract of a function or function type is one with what stands around its conditions
pub owned : {x : Contract} {s t : Scope} {c d : Context} {res : Result (Unit {0}) RuleFault} (o : Owner) → c ≡ around_precondition o → d ≡ around_postcondition o → Follows (ContractComes c d x s) res t → Follows (OwnedComes o x s) res t
owned {x = x} {s = s} {t = t} {c = c} {res = res} o a b h = subst (λ (c : Context). Follows (ContractComes c (around_postcondition o) x s) res t) a (subst (λ (d : Context). Follows (ContractComes c d x s) res t) b h)
