-- Walking over a declaration: each part leaves something behind it, or is refused.
use Rattle.std.specs.Prelude.{◌≡◌, Option, Some, None, Result, Ok, Err}
use Rattle.vf_base.specs.declared.refusal.Refusal.{Refusal}
use Rattle.vf_base.specs.declared.refusal.RuleFault.{RuleFault}
use Rattle.vf_base.specs.declared.refusal.RuleFault.TheVariants as faults

-- what comes next, unless there is a refusal
abbrev pub behind : {A B : Type 0} → (A → Result B Refusal) → Result A Refusal → Result B Refusal
behind f (Err x) = Err x
behind f (Ok a) = f a

-- something, unless there is a refusal in front of it
abbrev pub unless : {A : Type 0} → Option Refusal → Result A Refusal → Result A Refusal
unless None r = r
unless (Some x) r = Err x

-- a walk came to its end and left this, or to the refusal, unless memory ran out
abbrev pub Gives : {A : Type 0} → Result (Unit {0}) RuleFault → A → Result A Refusal → Type 0
Gives (Ok u) left w = w ≡ Ok left
Gives (Err (faults.Refused x)) left w = w ≡ Err x
Gives (Err faults.Memory) left w = Unit {0}
