use Rattle.std.proofs.Common.{◌≡◌, refl, subst, true, false, IsTrue}
use Rattle.std.proofs.lemmas.List.Elements.{All-contains}
use Rattle.vf_arith.specs.Paths.{HasNegativeCycle}
use Rattle.vf_refute.specs.Closure.{Conflict}
use Rattle.vf_ground.specs.Held.{IsFine}
use Rattle.vf_ground.proofs.Closing.{cycle_by}
use Rattle.vf_ground.proofs.Verdicts.{clash_is, verdict_is}
use Rattle.vf_combination.specs.Combined.{Combined}
use Rattle.vf_combination.proofs.combination.Combination.refuted.Goals as goal

pub returns-then-conflict : goal.returns-then-conflict
returns-then-conflict c = subst (λ (v : Combined). (IsTrue true → Conflict v.nodes v.facts) × (Conflict v.nodes v.facts → IsTrue true)) c.self.view_is
    (λ t. cycle_by c.self.inside.classes.nodes c.self.inside.facts.items c.self.inside.classes.merged c.self.inside.bounds.edges c.self.invariant.settled.sound (c.if-conflict.ensures.0 refl), λ k. refl)

pub returns-then-self : goal.returns-then-self
returns-then-self c = let p = c.self.invariant.settled.clash_is c.if-self.true in
    subst (λ (v : Combined). (IsTrue true → Conflict v.nodes v.facts) × (Conflict v.nodes v.facts → IsTrue true)) c.self.view_is
    (λ t. clash_is c.self.inside.classes.nodes c.self.inside.facts.items c.self.inside.classes.merged c.self.inside.bounds.edges c.self.invariant.settled.sound p.left p.right p.clash, λ k. refl)

pub returns : goal.returns
returns c =
    let s = c.self.invariant.settled in
    let none : HasNegativeCycle c.self.inside.bounds.edges → ⊥ = (λ h. let e : false ≡ true = c.if-conflict.ensures.1 h in cc) in
    subst (λ (v : Combined). (IsTrue c.contradict_one.result → Conflict v.nodes v.facts) × (Conflict v.nodes v.facts → IsTrue c.contradict_one.result)) c.self.view_is
    (verdict_is c.self.inside.classes.nodes c.self.inside.facts.items c.self.inside.classes.merged c.self.inside.bounds.edges s.sound (λ l m. All-contains (IsFine c.self.inside.classes.nodes) c.self.inside.facts.items l s.fine m) (s.complete none) none
    (λ x y i j p. let e = s.clashes_seen none x y i j p in let f = c.if-self.false in cc) c.contradict_one.result (rw c.deref.ensures.value at c.contradict_one.ensures))
