-- Steps that ask nothing, before steps that ask.
use Rattle.std.proofs.Common.{◌≡◌, refl, sym, Result, Ok, Err}
use Rattle.vf_base.specs.declared.refusal.Refusal.{Refusal}
use Rattle.vf_base.specs.declared.refusal.RuleFault.{RuleFault}
use Rattle.vf_base.specs.declared.refusal.RuleFault.TheVariants.{Refused}
use Rattle.vf_asking.specs.Journal.{Seen}
use Rattle.vf_asking.specs.Course.{Course, done, try, Follows, Blames}
use Rattle.vf_asking.proofs.Following.{follows_done, follows_try, follows_fails, blames_try, blames_later, blames_memory, blames_refused, follows}
use Rattle.vf_asking.proofs.Seeing.{grew_not, grew_on, grew_path, grew_node, grew_begun}

-- a result that is there leads on
pub done_follows : {A B : Type 0} (r : Result A Refusal) (f : A → Course (Result B Refusal)) (s t : Seen) (x : A) (y : Result B Refusal) → r ≡ Ok x → Follows (f x) s t y → Follows (try (done r) f) s t y
done_follows r f s t x y e p = follows_try (done r) f s s t x y (follows_done r (Ok x) s s refl (sym e)) p

pub done_later : {A B : Type 0} (r : Result A Refusal) (f : A → Course (Result B Refusal)) (s t : Seen) (x : A) (e : RuleFault) → r ≡ Ok x → Blames (f x) s t e → Blames (try (done r) f) s t e
done_later r f s t x e h p = blames_later (done r) f s s t x e (follows_done r (Ok x) s s refl (sym h)) p

-- a refusal ends the course
pub done_refused : {A B : Type 0} (r : Result A Refusal) (f : A → Course (Result B Refusal)) (s : Seen) (x : Refusal) → r ≡ Err x → Blames (try (done r) f) s s (Refused x)
done_refused r f s x h = blames_refused _ s s x (follows_fails (done r) f s s x (follows_done r (Err x) s s refl (sym h)))

pub ruleset stepping = (done_follows, done_later, done_refused, follows, grew_not)
