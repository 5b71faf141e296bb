-- Reading a cell.
use Rattle.std.proofs.Common.{◌≡◌, refl, subst, Result, Ok, Bool, false, List}
use Rattle.std.specs.Prelude.{Option, Some, None}
use Rattle.vf_base.specs.declared.place.Place.{Place}
use Rattle.vf_base.specs.declared.refusal.Refusal.{Refusal}
use Rattle.vf_base.specs.declared.refusal.RuleFault.{RuleFault}
use Rattle.vf_closure.specs.Terms.{Term}
use Rattle.vf_closure.specs.Literals.{Literal}
use Rattle.vf_asking.specs.Journal.{Seen}
use Rattle.vf_asking.specs.Course.{Follows, Blames}
use Rattle.vf_asking.proofs.Following.{follows_done}
use Rattle.vf_asking.proofs.Seeing.{grew_not}
use Rattle.vf_equality.specs.Equality.{equal}
use Rattle.vf_take.specs.Reads.{points}

module _ (place : Place) (path : List Literal) (p : Term) (a : Option Term) (s t : Seen) where
  pub points_equal : (x : Term) (r : Result Bool Refusal) → Some x ≡ a → Follows (equal place path x p) s t r → Follows (points place path p a) s t r
  unfolding points
  points_equal x r e h = subst (λ z. Follows (points place path p z) s t r) e h

  pub points_fail : (x : Term) (f : RuleFault) → Some x ≡ a → Blames (equal place path x p) s t f → Blames (points place path p a) s t f
  unfolding points
  points_fail x f e h = subst (λ z. Blames (points place path p z) s t f) e h

  pub points_lacks : None ≡ a → Follows (points place path p a) s s (Ok false)
  unfolding points
  points_lacks e = subst (λ z. Follows (points place path p z) s s (Ok false)) e (follows_done (Ok false) (Ok false) s s refl refl)

pub ruleset pointing = (points_equal, points_fail, points_lacks, grew_not)
