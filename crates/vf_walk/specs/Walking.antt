-- Walking over text: each part leaves what is declared behind it, or is refused.
use Rattle.std.specs.Prelude.{◌≡◌, Option, Some, None, Result, Ok, Err}
use Rattle.vf_base.specs.declared.refusal.Refusal.{Refusal}
use Rattle.vf_base.specs.declared.refusal.RuleFault.{RuleFault}
use Rattle.vf_base.specs.declared.refusal.RuleFault.TheVariants as faults
use Rattle.vf_declared.specs.declared.scope.Scope.{Scope}

-- what is declared behind a part of the text, or the first refusal in it
abbrev pub Walked : Type 0
Walked = Result Scope Refusal

-- what comes next, unless there is a refusal
abbrev pub behind : {A B : Type 0} → (A → Result B Refusal) → Result A Refusal → Result B Refusal
behind f (Err x) = Err x
behind f (Ok a) = f a

-- what is declared stays as it is, unless there is a refusal
abbrev pub unless : Option Refusal → Scope → Walked
unless None s = Ok s
unless (Some x) s = Err x

-- a part that may be absent
abbrev pub optional : {A : Type 0} → (A → Scope → Walked) → Option A → Scope → Walked
optional f None s = Ok s
optional f (Some a) s = f a s

-- a walk came to its end and left this, or to the refusal, unless memory ran out
abbrev pub Gives : {A : Type 0} → Result (Unit {0}) RuleFault → A → Result A Refusal → Type 0
Gives (Ok u) left w = w ≡ Ok left
Gives (Err (faults.Refused x)) left w = w ≡ Err x
Gives (Err faults.Memory) left w = Unit {0}

-- a part of the text comes to just what a function finds
pub record Only {A : Type 0} (found w : Result A Refusal) : Type 0 where
  pub is : found ≡ w

-- two parts of the text come to what the second comes to behind the first, or to a refusal of the first
pub data Then {A B : Type 0} (P : Result A Refusal → Type 0) (Q : A → Result B Refusal → Type 0) : Result B Refusal → Type 0 where
  stops : {x : Refusal} → P (Err x) → Then P Q (Err x)
  goes : {a : A} {w : Result B Refusal} → P (Ok a) → Q a w → Then P Q w

-- a part that may be absent changes nothing where it is
abbrev pub Optional : {A : Type 0} → (A → Scope → Walked → Type 0) → Option A → Scope → Walked → Type 0
Optional F None s = Only (Ok s)
Optional F (Some a) s = F a s

-- of all that a part of the text may come to, the code came to one: to its end and what is left declared, or to a refusal, unless memory ran out
pub data Follows {A : Type 0} (P : Result A Refusal → Type 0) : Result (Unit {0}) RuleFault → A → Type 0 where
  to_end : {u : Unit {0}} {left : A} → P (Ok left) → Follows P (Ok u) left
  to_refusal : {x : Refusal} {left : A} → P (Err x) → Follows P (Err (faults.Refused x)) left
  out_of_memory : {left : A} → Follows P (Err faults.Memory) left
