-- What calls without questions come to, and courses that go on from there.
use Rattle.std.proofs.Common.{◌≡◌, refl, sym, subst, ap, Result, Ok, Err, Bool, true, false, cond}
use Rattle.vf_base.specs.declared.refusal.Refusal.{Refusal}
use Rattle.vf_base.specs.declared.refusal.RuleFault.{RuleFault}
use Rattle.vf_base.specs.declared.refusal.RuleFault.TheVariants.{Refused, Memory}
use Rattle.vf_asking.specs.Journal.{Seen}
use Rattle.vf_asking.specs.Course.{done, Follows, Blames}
use Rattle.vf_asking.proofs.Following.{follows_done}
use Rattle.vf_take.specs.Results.{Faults}

-- a refusal is that of the result
pub faults_refused : {A : Type 0} (r : Result A Refusal) (e : Refusal) (f : RuleFault) → f ≡ Refused e → r ≡ Err e → Faults r f
faults_refused r e f is g = subst (λ x. Faults r x) (sym is) g

pub faults_memory : {A : Type 0} (r : Result A Refusal) (f : RuleFault) → f ≡ Memory → Faults r f
faults_memory r f is = subst (λ x. Faults r x) (sym is) tt

-- results as courses
pub done_gives : {A : Type 0} (r : Result A Refusal) (x : A) (s : Seen) → r ≡ Ok x → Follows (done r) s s (Ok x)
done_gives r x s e = follows_done r (Ok x) s s refl (sym e)

pub done_faults : {A : Type 0} (r : Result A Refusal) (f : RuleFault) (s : Seen) → Faults r f → Blames (done r) s s f
unfolding Blames
done_faults r (Refused e) s h = follows_done r (Err e) s s refl (sym h)
done_faults r Memory s h = tt

pub ruleset giving = (faults_refused, faults_memory)

-- a test that is known
pub chosen : {A : Type 0} (b : Bool) (x y : A) → b ≡ true → cond b x y ≡ x
chosen b x y e = ap (λ c. cond c x y) e

pub not_both : (b : Bool) → b ≡ false → b ≡ true → ⊥
not_both b e f = cc

pub passed_over : {A : Type 0} (b : Bool) (x y : A) → (b ≡ true → ⊥) → cond b x y ≡ y
passed_over true x y h = absurd (h refl)
passed_over false x y h = refl
