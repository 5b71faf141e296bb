-- How a walk goes on, and where it stops.
use Rattle.std.proofs.Common.{◌≡◌, Option, None, Result, Ok, Err, refl, sym, ◌∙◌, ap, subst}
use Rattle.vf_base.specs.declared.refusal.Refusal.{Refusal}
use Rattle.vf_base.specs.declared.refusal.RuleFault.{RuleFault}
use Rattle.vf_base.specs.declared.refusal.RuleFault.TheVariants as faults
use Rattle.vf_declared.specs.declared.scope.Scope.{Scope}
use Rattle.vf_walk.specs.Walking.{behind, Follows, Gives, Only, Optional, Then, Walked}
use Rattle.vf_walk.specs.Walking as walking

-- what comes next is what counts, where there was no refusal
pub go : {A B : Type 0} (f : A → Result B Refusal) (w : Result A Refusal) (a : A) (r : Result (Unit {0}) RuleFault) (s : B) → w ≡ Ok a → Gives r s (f a) → Gives r s (behind f w)
go f w a r s e h = subst (λ v. Gives r s (behind f v)) (sym e) h

-- a refusal is that of the whole
pub stop : {A B : Type 0} (f : A → Result B Refusal) (w : Result A Refusal) (e : RuleFault) (s : A) (t : B) → Gives (Err e) s w → Gives (Err e) t (behind f w)
stop f w (faults.Refused x) s t h = ap (behind f) h
stop f w faults.Memory s t h = tt

-- the same of a refusal that becomes a fault
pub stop_at : {A B : Type 0} (f : A → Result B Refusal) (w : Result A Refusal) (x : Refusal) (e : RuleFault) (t : B) → w ≡ Err x → e ≡ faults.Refused x → Gives (Err e) t (behind f w)
stop_at f w x e t h is = subst (λ d. Gives (Err d) t (behind f w)) (sym is) (ap (behind f) h)

-- want of memory is free
pub out_of_memory : {A : Type 0} (e : RuleFault) (t : A) (w : Result A Refusal) → e ≡ faults.Memory → Gives (Err e) t w
out_of_memory e t w is = subst (λ d. Gives (Err d) t w) (sym is) tt

-- ---- walks that may come to more than one thing

-- what a function gives
pub just : {A : Type 0} (w : Result A Refusal) (r : Result (Unit {0}) RuleFault) (t : A) → Gives r t w → Follows (Only w) r t
just w (Ok u) t h = walking.to_end (record { is = h })
just w (Err (faults.Refused x)) t h = walking.to_refusal (record { is = h })
just w (Err faults.Memory) t h = walking.out_of_memory

-- what stays as it is
pub stays : {A : Type 0} (s : A) → Follows (Only (Ok s)) (Ok tt) s
stays s = walking.to_end (record { is = refl })

-- a part that is absent
pub absent : {A : Type 0} (F : A → Scope → Walked → Type 0) (o : Option A) (s : Scope) → o ≡ None → Follows (Optional F o s) (Ok tt) s
absent {A = A} F o s h = subst (λ (p : Option A). Follows (Optional F p s) (Ok tt) s) (sym h) (stays s)

-- a part that ends is one whose end was reached
pub ended : {A : Type 0} {P : Result A Refusal → Type 0} {u : Unit {0}} {a : A} → Follows P (Ok u) a → P (Ok a)
ended (walking.to_end h) = h

on : {A B : Type 0} {P : Result A Refusal → Type 0} {Q : A → Result B Refusal → Type 0} {r : Result (Unit {0}) RuleFault} {t : B} (a : A) → P (Ok a) → Follows (Q a) r t → Follows (Then P Q) r t
on a h (walking.to_end k) = walking.to_end (walking.goes h k)
on a h (walking.to_refusal k) = walking.to_refusal (walking.goes h k)
on a h walking.out_of_memory = walking.out_of_memory

off : {A B : Type 0} {P : Result A Refusal → Type 0} {Q : A → Result B Refusal → Type 0} {e : RuleFault} {a : A} {t : B} → Follows P (Err e) a → Follows (Then P Q) (Err e) t
off (walking.to_refusal h) = walking.to_refusal (walking.stops h)
off walking.out_of_memory = walking.out_of_memory

-- the next part is what counts, where the first came to its end
pub next : {A B : Type 0} {P : Result A Refusal → Type 0} {Q : A → Result B Refusal → Type 0} {u : Unit {0}} {a : A} {r : Result (Unit {0}) RuleFault} {t : B} → Follows P (Ok u) a → Follows (Q a) r t → Follows (Then P Q) r t
next {a = a} h k = on a (ended h) k

-- the same where a function gives the first part
pub next_of : {A B : Type 0} {w : Result A Refusal} {Q : A → Result B Refusal → Type 0} {a : A} {r : Result (Unit {0}) RuleFault} {t : B} → w ≡ Ok a → Follows (Q a) r t → Follows (Then (Only w) Q) r t
next_of {a = a} h k = on a (record { is = h }) k

-- the same where a function gives the next part
pub last : {A B : Type 0} {P : Result A Refusal → Type 0} {f : A → Result B Refusal} {u : Unit {0}} {a : A} {r : Result (Unit {0}) RuleFault} {t : B} → Follows P (Ok u) a → Gives r t (f a) → Follows (Then P (λ b. Only (f b))) r t
last {f = f} {a = a} {r = r} {t = t} h k = on a (ended h) (just (f a) r t k)

-- a refusal of the first part is that of the whole
pub end_here : {A B : Type 0} {P : Result A Refusal → Type 0} {Q : A → Result B Refusal → Type 0} {e : RuleFault} {a : A} {r : Result (Unit {0}) RuleFault} {t : B} → Follows P (Err e) a → r ≡ Err e → Follows (Then P Q) r t
end_here {P = P} {Q = Q} {t = t} h is = subst (λ (q : Result (Unit {0}) RuleFault). Follows (Then P Q) q t) (sym is) (off h)

-- the same where a function gives the first part
pub end_of : {A B : Type 0} {Q : A → Result B Refusal → Type 0} {e : RuleFault} {r : Result (Unit {0}) RuleFault} {t : B} (w : Result A Refusal) (a : A) → Gives (Err e) a w → r ≡ Err e → Follows (Then (Only w) Q) r t
end_of {Q = Q} {e = e} {t = t} w a h is = subst (λ (q : Result (Unit {0}) RuleFault). Follows (Then (Only w) Q) q t) (sym is) (off (just w (Err e) a h))

-- the same of a refusal that becomes a fault
pub end_at : {A B : Type 0} {Q : A → Result B Refusal → Type 0} {w : Result A Refusal} {x : Refusal} {e : RuleFault} {r : Result (Unit {0}) RuleFault} {t : B} → w ≡ Err x → e ≡ faults.Refused x → r ≡ Err e → Follows (Then (Only w) Q) r t
end_at {Q = Q} {w = w} {t = t} h k is = subst (λ (q : Result (Unit {0}) RuleFault). Follows (Then (Only w) Q) q t) (sym (is ∙ ap Err k)) (walking.to_refusal (walking.stops (record { is = h })))
