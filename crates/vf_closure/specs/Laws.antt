-- What a refutation shows.
use Rattle.std.specs.Prelude.{◌≡◌, List, Some}
use Rattle.vf_meaning.specs.Valuations.{Valuation}
use Rattle.vf_meaning.specs.GhostValues.{Interpretation}
use Rattle.vf_closure.specs.Terms.{Term}
use Rattle.vf_closure.specs.Values.{value}
use Rattle.vf_closure.specs.Literals.{Literal, Holds, Meets}
use Rattle.vf_closure.specs.Closure.{Unfoldings, IsRefuted}

-- what applications are unfolded to has their value, where the declarations give this to the terms
pub record KeepValues (i : Interpretation) (u : Unfoldings) : Type 0 where
  pub bodies : (v : Valuation) (t b : Term) → u.body t ≡ Some b → value i v t ≡ value i v b
  pub cases : (v : Valuation) (t a k b : Term) → u.switched t ≡ Some a → value i v a ≡ value i v k → u.case t k ≡ Some b → value i v t ≡ value i v b

-- every valuation that meets the facts meets the goal
abbrev pub Entails : Interpretation → List Literal → Literal → Type 0
Entails i path goal = (v : Valuation) → Meets i v path → Holds i v goal

-- where there is a plain refutation of a question, and unfolding keeps values, the facts entail the goal
abbrev pub RefutationsAreSound : Type 0
RefutationsAreSound = (i : Interpretation) (u : Unfoldings) (path : List Literal) (goal : Literal) → KeepValues i u → IsRefuted u path goal → Entails i path goal
