-- What bodies come to, from the answers for their assertions.
use Rattle.std.proofs.Common.{◌≡◌, ℕ, [], Result, Ok, Err, sym, subst}
use Rattle.vf_base.specs.declared.refusal.Refusal.{Refusal}
use Rattle.vf_base.specs.declared.refusal.RuleFault.{RuleFault}
use Rattle.vf_base.specs.declared.refusal.RuleFault.TheVariants as faults
use Rattle.vf_sorts.specs.Unknowns.{Known}
use Rattle.vf_declared.specs.Changes.{first_locals}
use Rattle.vf_declared.specs.declared.locals.Locals.{Locals}
use Rattle.vf_declared.specs.declared.scope.Scope.{Scope}
use Rattle.vf_syntax.specs.AssertionTree.{PartTrees}
use Rattle.vf_sorting.specs.declared.context.Context.{Context}
use Rattle.vf_sorting.specs.Answers.{Tells}
use Rattle.vf_sorting.proofs.Steps.{told}
use Rattle.vf_asserting.specs.Answers.{IsAssertion}
use Rattle.vf_asserting.specs.Gives.{Gives}
use Rattle.vf_asserting.specs.IsRefused.{AnyPartFails}
use Rattle.vf_walk.specs.Walking.{Follows}
use Rattle.vf_walk.specs.Walking as walking
use Rattle.vf_predicates.specs.Bodies.{BodyComes, around_body}
use Rattle.vf_predicates.specs.Bodies as bodies

-- a fault that is a refusal is that of the whole
pub fault : {A : Type 0} {P : Result A Refusal → Type 0} (e : RuleFault) (t : A) → Tells (λ r. P (Err r)) e → Follows P (Err e) t
fault (faults.Refused r) t h = walking.to_refusal h
fault faults.Memory t h = walking.out_of_memory

-- a fault of a part is one of the whole
pub stops : {A : Type 0} {P : Result A Refusal → Type 0} {res : Result (Unit {0}) RuleFault} {t : A} (Q : Refusal → Type 0) (e : RuleFault) → ((r : Refusal) → Q r → P (Err r)) → Tells Q e → res ≡ Err e → Follows P res t
stops {P = P} {t = t} Q e f a q = subst (λ (r : Result (Unit {0}) RuleFault). Follows P r t) (sym q) (fault e t (told Q (λ r. P (Err r)) e f a))

-- want of memory is free
pub memory : {A : Type 0} {P : Result A Refusal → Type 0} {res : Result (Unit {0}) RuleFault} {t : A} (e : RuleFault) → e ≡ faults.Memory → res ≡ Err e → Follows P res t
memory {P = P} {t = t} e m q = subst (λ (r : Result (Unit {0}) RuleFault). Follows P r t) (sym q) (subst (λ (d : RuleFault). Follows P (Err d) t) (sym m) walking.out_of_memory)

-- the assertion of a body is refused
pub body_fails : {c : Context} {xs : PartTrees} {s s₁ t : Scope} {k k₁ : Known} {n : ℕ} {res : Result (Unit {0}) RuleFault} (e : RuleFault) → c ≡ around_body → k ≡ [] → IsAssertion {A = Unit {0}} c s k xs (Err e) s₁ k₁ → res ≡ Err e → Follows (BodyComes n xs s) res t
body_fails {c = c} {xs = xs} {s = s} e a w i q = stops _ e (λ r h. bodies.BodyComes.refused (subst (λ (d : Context). AnyPartFails d s [] xs r) a (subst (λ (k : Known). AnyPartFails c s k xs r) w h))) i.answers q

-- and where it is not
pub body_gives : {c : Context} {xs : PartTrees} {s s₁ : Scope} {k k₁ : Known} {n : ℕ} {l : Locals} → c ≡ around_body → k ≡ [] → IsAssertion {A = Unit {0}} c s k xs (Ok tt) s₁ k₁ → l ≡ first_locals s₁.locals n → Follows (BodyComes n xs s) (Ok tt) (record s₁ { locals = l })
body_gives {c = c} {xs = xs} {s = s} {s₁ = s₁} {k₁ = k₁} {n = n} a w i l =
    subst (λ (m : Locals). Follows (BodyComes n xs s) (Ok tt) (record s₁ { locals = m })) (sym l)
    (walking.to_end (bodies.BodyComes.given (subst (λ (d : Context). Gives d s [] xs s₁ k₁) a (subst (λ (j : Known). Gives c s j xs s₁ k₁) w i.answers.1))))
