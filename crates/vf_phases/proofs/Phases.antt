-- Answers for the phases of a unit, from the answers of each phase.
use Rattle.std.proofs.Common.{◌≡◌, List, None, Result, Ok, Err, sym, subst}
use Rattle.vf_base.specs.declared.refusal.Refusal.{Refusal}
use Rattle.vf_base.specs.declared.refusal.RuleFault.{RuleFault}
use Rattle.vf_base.specs.declared.refusal.RuleFault.TheVariants as faults
use Rattle.vf_base.specs.declared.rule.Rule.TheVariants as rules
use Rattle.vf_declared.specs.declared.scope.Scope.{Scope}
use Rattle.vf_syntax.specs.declared.item.Item.{Item}
use Rattle.vf_sorting.specs.Answers.{Answers, Tells}
use Rattle.vf_fixpoint.specs.Answers.{IsFaultOf}
use Rattle.vf_order.specs.Statements.{first_unordered}
use Rattle.vf_recursion.specs.Faults.{first_fault}
use Rattle.vf_resolve.specs.declared.files.Files.{Files}
use Rattle.vf_resolve.specs.Units.{IsResolved}
use Rattle.vf_phases.specs.Phases.{Declares, IsPhased, IsRefusedAt, IsRefusedInPhases, in_names, in_fixpoints, in_order, PassesPhases}

-- an answer that is a fault
answered : {f : Files} {xs : List Item} {res : Result Scope RuleFault} (e : RuleFault) → res ≡ Err e → Tells (IsRefusedInPhases f xs) e → IsPhased f xs res
answered {f = f} {xs = xs} e q t = record { answers = subst (Answers (PassesPhases f xs) (IsRefusedInPhases f xs)) (sym q) t }

pub memory : {f : Files} {xs : List Item} {res : Result Scope RuleFault} → res ≡ Err faults.Memory → IsPhased f xs res
memory q = answered faults.Memory q tt

-- what resolving says of an answer
resolved : {f : Files} {xs : List Item} {res : Result Scope RuleFault} {a : Result Scope RuleFault} → res ≡ a → IsResolved f xs res → IsResolved f xs a
resolved {f = f} {xs = xs} q h = subst (IsResolved f xs) q h

declared : {f : Files} {xs : List Item} {s : Scope} → IsResolved f xs (Ok s) → Declares f xs s
declared h = h.answers

-- names refuse it
pub by_names : {f g : Files} {xs : List Item} {first res : Result Scope RuleFault} (e : RuleFault) → g ≡ f → IsResolved g xs first → first ≡ Err e → res ≡ Err e → IsPhased f xs res
by_names {f = f} {g = g} {xs = xs} e same h q r = answered e r (told e (subst (λ (k : Files). IsResolved k xs (Err e)) same (resolved q h)))
  where
    told : (e : RuleFault) → IsResolved f xs (Err e) → Tells (IsRefusedInPhases f xs) e
    told (faults.Refused x) h = in_names h.answers
    told faults.Memory h = tt

-- a fixpoint refuses it
pub by_fixpoints : {f g : Files} {xs : List Item} {s : Scope} {first res : Result Scope RuleFault} (e : RuleFault) → g ≡ f → IsResolved g xs first → first ≡ Ok s → IsFaultOf (first_fault xs) e → res ≡ Err e → IsPhased f xs res
by_fixpoints {f = f} {g = g} {xs = xs} {s = s} e same h q fault r = answered e r (told e fault)
  where
    told : (e : RuleFault) → IsFaultOf (first_fault xs) e → Tells (IsRefusedInPhases f xs) e
    told (faults.Refused x) (rule, place, shown) = in_fixpoints {s = s} (declared (subst (λ (k : Files). IsResolved k xs (Ok s)) same (resolved q h))) (record { rule = rule; place = place; shown = shown })
    told faults.Memory fault = tt

-- the order of two operands refuses it
pub by_order : {f g : Files} {xs : List Item} {s : Scope} {first res : Result Scope RuleFault} (x : Refusal) → g ≡ f → IsResolved g xs first → first ≡ Ok s → first_fault xs ≡ None → IsRefusedAt rules.Order (first_unordered xs) x → res ≡ Err (faults.Refused x) → IsPhased f xs res
by_order {xs = xs} {s = s} x same h q none fault r = answered (faults.Refused x) r (in_order {s = s} (declared (subst (λ (k : Files). IsResolved k xs (Ok s)) same (resolved q h))) none fault)

-- it passes
pub passes : {f g : Files} {xs : List Item} {s : Scope} {first : Result Scope RuleFault} → g ≡ f → IsResolved g xs first → first ≡ Ok s → first_fault xs ≡ None → first_unordered xs ≡ None → IsPhased f xs (Ok s)
passes {f = f} {g = g} {xs = xs} {s = s} same h q none ordered = record { answers = record { declares = declared (subst (λ (k : Files). IsResolved k xs (Ok s)) same (resolved q h)); fixpoints = none; ordered = ordered } }
