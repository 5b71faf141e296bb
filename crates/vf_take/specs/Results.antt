-- What calls without questions come to.
use Rattle.std.specs.Prelude.{◌≡◌, Result, Ok, Err, MatchResult}
use Rattle.vf_base.specs.declared.refusal.Refusal.{Refusal}
use Rattle.vf_base.specs.declared.refusal.RuleFault.{RuleFault}
use Rattle.vf_base.specs.declared.refusal.RuleFault.TheVariants.{Refused, Memory}

-- a fault of a call is the refusal that is defined, or want of memory
abbrev pub Faults : {A : Type 0} → Result A Refusal → RuleFault → Type 0
Faults r (Refused e) = r ≡ Err e
Faults r Memory = Unit {0}

-- a call comes to a result that is defined, but for want of memory
abbrev pub Gives : {X A : Type 0} → Result A Refusal → (X → A) → Result X RuleFault → Type 0
Gives r w q = MatchResult q (λ x. r ≡ Ok (w x)) (λ e. Faults r e)
