-- Answers for what stands in front of the cases of a fixpoint, from the answers for its parts.
use Rattle.std.proofs.Common.{◌≡◌, ℕ, ◌+◌, Bool, true, false, List, [], length, Option, Some, None, Result, Ok, Err, sym, ◌∙◌, ap, subst, arith}
use Rattle.vf_base.specs.declared.refusal.RuleFault.{RuleFault}
use Rattle.vf_base.specs.declared.refusal.RuleFault.TheVariants as faults
use Rattle.vf_base.specs.declared.rule.Rule.TheVariants as rules
use Rattle.vf_sorts.specs.Sorts.{Sort}
use Rattle.vf_sorts.specs.Unknowns.{IsBelow, Known, instance}
use Rattle.vf_sorts.specs.Unifying.{Equates}
use Rattle.vf_declared.specs.declared.scope.Scope.{Scope}
use Rattle.vf_syntax.specs.declared.item.FixpointCase.{FixpointCase}
use Rattle.vf_syntax.specs.declared.written.Name.{Name}
use Rattle.vf_sorting.specs.Answers.{Answers, IsApart, IsEquated, Tells}
use Rattle.vf_sorting.specs.Kinds.{datatype_sort, with_fresh}
use Rattle.vf_sorting.specs.Refusals.{refused}
use Rattle.vf_sorting.proofs.Below.{below_more, fresh_length}
use Rattle.vf_binding.proofs.Steps.{failing, refusing, wanting}
use Rattle.vf_asserting.specs.Cases.{datatype_in}
use Rattle.vf_asserting.specs.Switches.{parameters_of, unknown_datatype}
use Rattle.vf_asserting.proofs.Steps.{wanting_is}
use Rattle.vf_equations.specs.Answers.{IsSwitch}
use Rattle.vf_equations.specs.Switching.{SwitchFails, Switches, are_constructors, switched_sort}
use Rattle.vf_equations.specs.Switching as switching

pub switch_memory : {s : Scope} {n : Name} {cs : List FixpointCase} {k : Known} {res : Result ℕ RuleFault} → res ≡ Err faults.Memory → IsSwitch s n cs res k
switch_memory q = record { answers = wanting _ _ q }

pub switch_fails : {s : Scope} {n : Name} {cs : List FixpointCase} {k : Known} {res : Result ℕ RuleFault} (e : RuleFault) → Answers (λ t. switched_sort s n ≡ Ok t) (λ r. switched_sort s n ≡ Err r) (Err e) → res ≡ Err e → IsSwitch s n cs res k
switch_fails e a q = record { answers = failing _ _ _ e (λ r h. switching.SwitchFails.its_name h) a q }

pub switch_stray : {s : Scope} {n : Name} {cs : List FixpointCase} {j k : Known} {t : Sort} {e : RuleFault} → j ≡ [] → switched_sort s n ≡ Ok t → (IsBelow (length j) t → ⊥) → e ≡ faults.Refused (refused rules.Typing n.place) → IsSwitch s n cs (Err e) k
switch_stray {t = t} w i b q = record { answers = refusing _ _ _ q (switching.SwitchFails.stray i (λ h. b (subst (λ (k : Known). IsBelow (length k) t) (sym w) h))) }

-- nothing is unknown yet
at_first : {j : Known} (t : Sort) → j ≡ [] → IsBelow (length j) t → IsBelow 0 t
at_first t w b = subst (λ (k : Known). IsBelow (length k) t) w b

pub switch_plain : {s : Scope} {n : Name} {cs : List FixpointCase} {j k : Known} {t : Sort} {o : Option ℕ} {e : RuleFault} → j ≡ [] → switched_sort s n ≡ Ok t → IsBelow (length j) t → o ≡ datatype_in t → o ≡ None → e ≡ faults.Refused (refused rules.Typing n.place) → IsSwitch s n cs (Err e) k
switch_plain w i b o y q = record { answers = refusing _ _ _ q (switching.SwitchFails.no_datatype i (at_first _ w b) (sym o ∙ y)) }

pub switch_other : {s : Scope} {n : Name} {cs : List FixpointCase} {j k : Known} {t : Sort} {o : Option ℕ} {d : ℕ} {y : Bool} {e : RuleFault} → j ≡ [] → switched_sort s n ≡ Ok t → IsBelow (length j) t → o ≡ datatype_in t → o ≡ Some d → y ≡ are_constructors s d cs → y ≡ false → e ≡ faults.Refused (refused rules.Typing n.place) → IsSwitch s n cs (Err e) k
switch_other w i b o p l m q = record { answers = refusing _ _ _ q (switching.SwitchFails.other_cases i (at_first _ w b) (sym o ∙ p) (sym l ∙ m)) }

-- what is known where unknown sorts were made
made : (s : Scope) (d n : ℕ) (j u : Known) → j ≡ [] → n ≡ parameters_of s d → u ≡ with_fresh j n → u ≡ with_fresh [] (parameters_of s d)
made s d n j u w g r = r ∙ ap (λ (k : Known). with_fresh k n) w ∙ ap (with_fresh []) g

-- the datatype at unknown sorts that is wanted
wanted_is : (s : Scope) (j : Known) (n d first : ℕ) (w v : Sort) → j ≡ [] → n ≡ parameters_of s d → first ≡ length j → w ≡ datatype_sort d n → v ≡ instance first n w → v ≡ unknown_datatype s 0 d
wanted_is s j n d first w v z p f e a = wanting_is s [] n d first w v p (f ∙ ap length z) e a

pub switch_apart : {s : Scope} {nm : Name} {cs : List FixpointCase} {j u k : Known} {t w v : Sort} {o : Option ℕ} {d n first : ℕ} {y : Bool} {res : Result ℕ RuleFault} (e : RuleFault) → j ≡ [] → switched_sort s nm ≡ Ok t → IsBelow (length j) t → o ≡ datatype_in t → o ≡ Some d → y ≡ are_constructors s d cs → y ≡ true → n ≡ parameters_of s d → w ≡ datatype_sort d n → first ≡ length j → u ≡ with_fresh j n → v ≡ instance first n w → IsEquated {A = Unit {0}} u t v nm.place (Err e) k → res ≡ Err e → IsSwitch s nm cs res k
switch_apart {s = s} {nm = nm} {cs = cs} {j = j} {u = u} {t = t} {w = w} {v = v} {d = d} {n = n} {first = first} e z i b o p l m g h f r x y q =
    record {
      answers = failing _ _ (IsApart (with_fresh [] (parameters_of s d)) t (unknown_datatype s 0 d) nm.place) e
          (λ r h. subst (SwitchFails s nm cs) (sym h.1) (switching.SwitchFails.other_sorts i (at_first _ z b) (sym o ∙ p) (sym l ∙ m) h.0))
          (subst (λ (v : Sort). Tells (IsApart (with_fresh [] (parameters_of s d)) t v nm.place) e) (wanted_is s j n d first w v z g f h x)
          (subst (λ (u : Known). Tells (IsApart u t v nm.place) e) (made s d n j u z g r) y.answers)) q;
    }

pub switch_passes : {s : Scope} {nm : Name} {cs : List FixpointCase} {j u k : Known} {t w v : Sort} {o : Option ℕ} {d n first : ℕ} {y : Bool} → j ≡ [] → switched_sort s nm ≡ Ok t → IsBelow (length j) t → o ≡ datatype_in t → o ≡ Some d → y ≡ are_constructors s d cs → y ≡ true → n ≡ parameters_of s d → w ≡ datatype_sort d n → first ≡ length j → u ≡ with_fresh j n → v ≡ instance first n w → IsEquated {A = Unit {0}} u t v nm.place (Ok tt) k → IsSwitch s nm cs (Ok n) k
switch_passes {s = s} {nm = nm} {cs = cs} {j = j} {u = u} {k = k} {t = t} {w = w} {v = v} {d = d} {n = n} {first = first} z i b o p l m g h f r x y =
    record {
      answers = subst (λ (m : ℕ). Switches s nm cs m k) (sym g)
          (switching.Switches.switches i (at_first _ z b) (sym o ∙ p) (sym l ∙ m)
          (subst (λ (v : Sort). Equates (with_fresh [] (parameters_of s d)) t v k) (wanted_is s j n d first w v z g f h x)
          (subst (λ (u : Known). Equates u t v k) (made s d n j u z g r) y.answers)));
    }

-- the sort of what is switched over has no unknown sorts but those that have numbers
pub switch_left : (j u : Known) (t : Sort) (n : ℕ) → IsBelow (length j) t → u ≡ with_fresh j n → IsBelow (length u) t
switch_left j u t n b q =
    let long : length u ≡ length j + n = ap length q ∙ fresh_length j n in
    below_more (length j) (length u) (omega (arith, long)) t b
