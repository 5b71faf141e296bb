-- The values that definitions give to their fixpoints, by recursion on an order of these and on the size of what a body switches over.
use Rattle.std.specs.Prelude.{ℕ, zero, suc, Bool, cond, ◌==◌, List, [], ◌∷◌, Option, Some, None}
use Rattle.vf_tree.specs.Core.{Identity}
use Rattle.vf_model.specs.Values.{Value, Values, same_identity}
use Rattle.vf_model.specs.Values as values
use Rattle.vf_meaning.specs.Valuations.{appended, count, no_value, of_arguments, size, value_at}
use Rattle.vf_meaning.specs.GhostValues.{Interpretation, with_fixpoint}
use Rattle.vf_closure.specs.Values.{value}
use Rattle.vf_definitions.specs.Unfolded.{case_for}
use Rattle.vf_definitions.specs.declared.fixpoint.Case.{Case}
use Rattle.vf_definitions.specs.declared.fixpoint.Body.{Body}
use Rattle.vf_definitions.specs.declared.fixpoint.Body.TheVariants.{Returns, Switches}
use Rattle.vf_definitions.specs.declared.fixpoint.Fixpoint as definitions
use Rattle.vf_fixpoint_laws.specs.bodies.Recursion.{Ranks}

-- ---- what a body gives
-- the value of a case's term at values and behind them the parts of what is switched over; where there is no case, none
abbrev pub case_value : Interpretation → Values → Values → Option Case → Value
case_value i vs us None = no_value
case_value i vs us (Some y) = value i (of_arguments (appended vs us)) y.result

-- the value of the case for a constructor's term; another value has no case
abbrev pub switched_value : Interpretation → Values → List Case → Value → Value
switched_value i vs cases (values.Constructed c us) = case_value i vs us (case_for cases c)
switched_value i vs cases w = no_value

-- the value that a body gives at values
abbrev pub body_value : Interpretation → Body → Values → Value
body_value i (Returns t) vs = value i (of_arguments vs) t
body_value i (Switches p cases) vs = switched_value i vs cases (value_at vs p)

-- the size of what a body switches over
abbrev pub measure : Body → Values → ℕ
measure (Returns t) vs = 0
measure (Switches p cases) vs = size (value_at vs p)

-- ---- what a fixpoint gives
-- a definition unfolded at most so often, at as many values as it has parameters, over what an interpretation gives to the other fixpoints; its own name stands for one unfolding less
abbrev pub unfolded_value : Interpretation → definitions.Fixpoint → ℕ → Values → Value
unfolded_value i x zero vs = no_value
unfolded_value i x (suc m) vs = cond (count vs == x.parameters) (body_value (with_fixpoint i x.identity (unfolded_value i x m)) x.body vs) no_value

-- the same as often as the size of what it switches over asks for; where there is no definition, no value
abbrev pub defined_value : Interpretation → Option definitions.Fixpoint → Values → Value
defined_value i None vs = no_value
defined_value i (Some x) vs = unfolded_value i x (suc (measure x.body vs)) vs

-- the first of some definitions that has an identity
abbrev pub first_for : List definitions.Fixpoint → Identity → Option definitions.Fixpoint
first_for [] c = None
first_for (x ∷ xs) c = cond (same_identity x.identity c) (Some x) (first_for xs c)

-- what fixpoints give where their applications go down fewer than so many times
abbrev pub given_below : (Identity → Identity → Bool) → List definitions.Fixpoint → ℕ → Identity → Values → Value
given_below claims fs zero c vs = no_value
given_below claims fs (suc n) c vs = defined_value (record { claims = claims; fixpoint = given_below claims fs n }) (first_for fs c) vs

-- the interpretation with some claims in which definitions, in an order, give their fixpoints values
abbrev pub given_by : (Identity → Identity → Bool) → List definitions.Fixpoint → Ranks → Interpretation
given_by claims fs r = record { claims = claims; fixpoint = λ c vs. given_below claims fs (suc (r c)) c vs }
