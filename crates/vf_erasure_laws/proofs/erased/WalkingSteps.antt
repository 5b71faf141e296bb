-- How a walk that comes to its end went: through its parts, each of which came to its end.
use Rattle.std.proofs.Common.{◌≡◌, Bool, true, false, if◌then◌else◌, Option, Some, None, Result, Ok, Err, refl, sym, ap, ◌∙◌}
use Rattle.vf_base.specs.declared.refusal.Refusal.{Refusal}
use Rattle.vf_declared.specs.declared.scope.Scope.{Scope}
use Rattle.vf_walk.specs.Walking.{behind, Only, optional, Then, unless, Walked}
use Rattle.vf_walk.specs.Walking as walking

pub ok_same : {A : Type 0} {a b : A} → ◌≡◌ {A = Result A Refusal} (Ok a) (Ok b) → a ≡ b
ok_same h = cc

pub apart : {A : Type 0} {x : Refusal} {a : A} → ◌≡◌ {A = Result A Refusal} (Err x) (Ok a) → ⊥
apart h = cc

-- what a function gives, and what comes next
pub record Through {A B : Type 0} (f : A → Result B Refusal) (w : Result A Refusal) (t : B) : Type 0 where
  pub at : A
  pub first : w ≡ Ok at
  pub next : f at ≡ Ok t

pub through : {A B : Type 0} {t : B} (f : A → Result B Refusal) (w : Result A Refusal) → behind f w ≡ Ok t → Through f w t
through f (Ok a) h = record { at = a; first = refl; next = h }
through f (Err x) h = absurd (apart h)

-- the same again
pub on : {A B : Type 0} {a : A} {t : B} (f : A → Result B Refusal) (w : Result A Refusal) → w ≡ Ok a → f a ≡ Ok t → behind f w ≡ Ok t
on f w e h = ap (behind f) e ∙ h

-- two parts of the text
pub record Went {A B : Type 0} (P : Result A Refusal → Type 0) (Q : A → Result B Refusal → Type 0) (t : B) : Type 0 where
  pub at : A
  pub first : P (Ok at)
  pub next : Q at (Ok t)

pub went : {A B : Type 0} {P : Result A Refusal → Type 0} {Q : A → Result B Refusal → Type 0} {t : B} → Then P Q (Ok t) → Went P Q t
went (walking.goes {a = a} h k) = record { at = a; first = h; next = k }

-- what stays as it is, unless there is a refusal
pub record Stays (o : Option Refusal) (s t : Scope) : Type 0 where
  pub unrefused : o ≡ None
  pub is : t ≡ s

pub stays : {s t : Scope} (o : Option Refusal) → unless o s ≡ Ok t → Stays o s t
stays None h = record { unrefused = refl; is = sym (ok_same h) }
stays (Some x) h = absurd (apart h)

pub unrefused : {o : Option Refusal} (s : Scope) → o ≡ None → unless o s ≡ Ok s
unrefused s h = ap (λ (o : Option Refusal). unless o s) h

-- a choice that comes to an end is the one that does
pub record Chosen {A : Type 0} (b c : Bool) (a t : A) : Type 0 where
  pub holds : b ≡ c
  pub is : t ≡ a

pub refused_unless : {A : Type 0} {t : A} (a : A) (x : Refusal) (b : Bool) → ◌≡◌ {A = Result A Refusal} (if b then Ok a else Err x) (Ok t) → Chosen b true a t
refused_unless a x true h = record { holds = refl; is = sym (ok_same h) }
refused_unless a x false h = absurd (apart h)

pub refused_where : {A : Type 0} {t : A} (a : A) (x : Refusal) (b : Bool) → ◌≡◌ {A = Result A Refusal} (if b then Err x else Ok a) (Ok t) → Chosen b false a t
refused_where a x true h = absurd (apart h)
refused_where a x false h = record { holds = refl; is = sym (ok_same h) }

-- a part that may be absent, and changes nothing
pub optional_stays : {A : Type 0} {s t : Scope} (f : A → Scope → Walked) → ((a : A) → f a s ≡ Ok t → t ≡ s) → (o : Option A) → optional f o s ≡ Ok t → t ≡ s
optional_stays f each None h = sym (ok_same h)
optional_stays f each (Some a) h = each a h
