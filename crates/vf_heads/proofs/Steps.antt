-- How a walk goes on, and where it stops.
use Rattle.std.proofs.Common.{◌≡◌, ℕ, Bool, true, false, Option, Some, None, is_some, if◌then◌else◌, Result, Ok, Err, refl, sym, ap, subst}
use Rattle.vf_base.specs.declared.refusal.Refusal.{Refusal}
use Rattle.vf_base.specs.declared.refusal.RuleFault.{RuleFault}
use Rattle.vf_base.specs.declared.refusal.RuleFault.TheVariants as faults
use Rattle.vf_names.specs.Names.{number_of}
use Rattle.vf_sorts.specs.Sorts.{Sort}
use Rattle.vf_declared.specs.declared.scope.Scope.{Scope}
use Rattle.vf_syntax.specs.declared.written.Name.{Name}
use Rattle.vf_sorting.specs.Answers.{Tells}
use Rattle.vf_datatypes.specs.Walking.{Gives, behind, unless}
use Rattle.vf_heads.specs.Parameters.{Taken, local_refusal, named, with_parameter}

-- what comes next is what counts, where there was no refusal
pub go : {A B : Type 0} (f : A → Result B Refusal) (w : Result A Refusal) (a : A) (r : Result (Unit {0}) RuleFault) (s : B) → w ≡ Ok a → Gives r s (f a) → Gives r s (behind f w)
go f w a r s e h = subst (λ v. Gives r s (behind f v)) (sym e) h

-- a refusal is that of the whole
pub stop : {A B : Type 0} (f : A → Result B Refusal) (w : Result A Refusal) (e : RuleFault) (s : A) (t : B) → Gives (Err e) s w → Gives (Err e) t (behind f w)
stop f w (faults.Refused x) s t h = ap (behind f) h
stop f w faults.Memory s t h = tt

-- the same of an answer's refusal
pub stop_told : {A B : Type 0} (f : A → Result B Refusal) (w : Result A Refusal) (e : RuleFault) (t : B) → Tells (λ r. w ≡ Err r) e → Gives (Err e) t (behind f w)
stop_told f w (faults.Refused x) t h = ap (behind f) h
stop_told f w faults.Memory t h = tt

-- want of memory is free
pub out_of_memory : {A : Type 0} (e : RuleFault) (t : A) (w : Result A Refusal) → e ≡ faults.Memory → Gives (Err e) t w
out_of_memory e t w is = subst (λ d. Gives (Err d) t w) (sym is) tt

-- a refusal in front is that of the whole
pub refused_first : {A : Type 0} (o : Option Refusal) (x : Refusal) (e : RuleFault) (t : A) (w : Result A Refusal) → o ≡ Some x → e ≡ faults.Refused x → Gives (Err e) t (unless o w)
refused_first o x e t w h is = subst (λ d. Gives (Err d) t (unless o w)) (sym is) (ap (λ q. unless q w) h)

-- there is none in front
pub passed : {A : Type 0} (o : Option Refusal) (r : Result (Unit {0}) RuleFault) (t : A) (w : Result A Refusal) → o ≡ None → Gives r t w → Gives r t (unless o w)
passed o r t w h g = subst (λ q. Gives r t (unless q w)) (sym h) g

-- a parameter is named
pub named_goes : (n : Name) (k l : Taken) (t : Sort) (r : Result (Unit {0}) RuleFault) → local_refusal k.scope n ≡ None → l ≡ with_parameter n t k → r ≡ Ok tt → Gives r l (named n k t)
named_goes n k l t r h e is = subst (λ y. Gives y l (named n k t)) (sym is) (passed (local_refusal k.scope n) (Ok tt) l (Ok (with_parameter n t k)) h (ap Ok (sym e)))

absent : (b : Bool) (o : Option ℕ) (x y : Refusal) → (if b then Some x else (if is_some o then Some y else None)) ≡ None → o ≡ None
absent true o x y h = absurd cc
absent false None x y h = refl
absent false (Some i) x y h = absurd cc

-- a name that is not refused is that of no local
pub is_absent : (s : Scope) (n : Name) → local_refusal s n ≡ None → number_of s.locals.names n.text ≡ None
is_absent s n h = absent _ (number_of s.locals.names n.text) _ _ h
