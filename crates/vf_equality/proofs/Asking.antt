-- Asking for equalities, and learning them.
use Rattle.std.proofs.Common.{◌≡◌, refl, subst, Result, Ok, Err, Bool, true, false, List}
use Rattle.std.specs.Ordering.{is_eq}
use Rattle.vf_base.specs.declared.place.Place.{Place}
use Rattle.vf_base.specs.declared.refusal.Refusal.{Refusal}
use Rattle.vf_base.specs.declared.refusal.RuleFault.{RuleFault}
use Rattle.vf_base.specs.declared.refusal.RuleFault.TheVariants.{Refused, Memory}
use Rattle.vf_closure.specs.Terms.{Term}
use Rattle.vf_closure.specs.Literals.{Literal}
use Rattle.vf_normal.specs.Order.{compare}
use Rattle.vf_asking.specs.Journal.{Seen}
use Rattle.vf_asking.specs.Course.{asked, pushed, Follows, Blames}
use Rattle.vf_asking.proofs.Following.{follows_done, follows_if, follows_unless, blames_memory}
use Rattle.vf_asking.proofs.Seeing.{grew_not, grew_on}
use Rattle.vf_equality.specs.Equality.{are_one, equality, equal, learned}

module _ (place : Place) (path : List Literal) (a b : Term) (s t : Seen) where
  -- terms of one form
  pub equal_same : is_eq (compare a b) ≡ true → Follows (equal place path a b) s s (Ok true)
  unfolding equal
  equal_same e = follows_if (are_one a b) _ _ s s (Ok true) e (follows_done (Ok true) (Ok true) s s refl refl)

  two_forms : is_eq (compare a b) ≡ false → is_eq (compare a b) ≡ true → ⊥
  two_forms e f = cc

  -- terms of two forms
  pub equal_asks : (l : Literal) (r : Result Bool Refusal) → is_eq (compare a b) ≡ false → l ≡ equality a b → Follows (asked place path l) s t r → Follows (equal place path a b) s t r
  unfolding equal
  equal_asks l r two is p = follows_unless (are_one a b) _ _ s t r (two_forms two) (subst (λ x. Follows (asked place path x) s t r) is p)

  pub equal_blames : (l : Literal) (f : RuleFault) → is_eq (compare a b) ≡ false → l ≡ equality a b → Blames (asked place path l) s t f → Blames (equal place path a b) s t f
  unfolding Blames
  equal_blames l (Refused e) two is p = equal_asks l (Err e) two is p
  equal_blames l Memory two is p = tt

  -- a fact
  pub learned_is : (l : Literal) (r : Result (List Literal) Refusal) → l ≡ equality a b → Follows (pushed place path l) s t r → Follows (learned place path a b) s t r
  learned_is l r is p = subst (λ x. Follows (pushed place path x) s t r) is p

  pub learned_blames : (l : Literal) (f : RuleFault) → l ≡ equality a b → Blames (pushed place path l) s t f → Blames (learned place path a b) s t f
  learned_blames l f is p = subst (λ x. Blames (pushed place path x) s t f) is p

pub ruleset asking = (equal_same, equal_asks, equal_blames, blames_memory, grew_not)

pub ruleset learning = (learned_is, learned_blames, blames_memory, grew_not)
