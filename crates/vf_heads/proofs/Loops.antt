-- The loop over parameters: the walk over what is left comes to the same after each.
use Rattle.std.proofs.Common.{◌≡◌, ℕ, ◌+◌, ◌≤◌, List, length, drop, Some, None, Result, Ok, Err, slice_get, sym, ap, ◌∙◌, subst}
use Rattle.vf_base.specs.declared.refusal.Refusal.{Refusal}
use Rattle.vf_base.specs.declared.refusal.RuleFault.{RuleFault}
use Rattle.vf_syntax.specs.declared.item.GhostParameter.{GhostParameter}
use Rattle.vf_datatypes.specs.Walking.{Gives, behind}
use Rattle.vf_heads.specs.Parameters.{Taken, parameter_behind, parameters_behind}
use Rattle.vf_heads.proofs.Lists.{left_at, left_end, left_none}
use Rattle.vf_heads.proofs.Steps.{stop}

-- what the parameters that are left come to, where one stands first
parameters_at : (ps : List (List ℕ)) (gs : List GhostParameter) (i : ℕ) (g : GhostParameter) (k : Taken) → slice_get gs i ≡ Some g → parameters_behind ps (drop i gs) k ≡ behind (parameters_behind ps (drop (i + 1) gs)) (parameter_behind ps g k)
parameters_at ps gs i g k h = ap (λ ys. parameters_behind ps ys k) (left_at gs i g h)

-- one more parameter
pub parameters_more : (ps : List (List ℕ)) (gs : List GhostParameter) (i : ℕ) (g : GhostParameter) (k l : Taken) (whole : Result Taken Refusal) → slice_get gs i ≡ Some g → parameter_behind ps g k ≡ Ok l → parameters_behind ps (drop i gs) k ≡ whole → parameters_behind ps (drop (i + 1) gs) l ≡ whole
parameters_more ps gs i g k l whole h step kept = sym (parameters_at ps gs i g k h ∙ ap (behind (parameters_behind ps (drop (i + 1) gs))) step) ∙ kept

-- a parameter is refused
pub parameters_stop : (ps : List (List ℕ)) (gs : List GhostParameter) (i : ℕ) (g : GhostParameter) (k l m : Taken) (e : RuleFault) (r : Result (Unit {0}) RuleFault) (whole : Result Taken Refusal) → slice_get gs i ≡ Some g → Gives (Err e) l (parameter_behind ps g k) → r ≡ Err e → parameters_behind ps (drop i gs) k ≡ whole → Gives r m whole
parameters_stop ps gs i g k l m e r whole h step is kept = subst (λ q. Gives q m whole) (sym is) (subst (Gives (Err e) m) (sym (parameters_at ps gs i g k h) ∙ kept) (stop (parameters_behind ps (drop (i + 1) gs)) (parameter_behind ps g k) e l m step))

-- no parameter stands at an index
pub parameters_none : (ps : List (List ℕ)) (gs : List GhostParameter) (i : ℕ) (k : Taken) → slice_get gs i ≡ None → parameters_behind ps (drop i gs) k ≡ Ok k
parameters_none ps gs i k h = ap (λ ys. parameters_behind ps ys k) (left_none gs i h)

-- the parameters are done
pub parameters_end : (ps : List (List ℕ)) (gs : List GhostParameter) (i : ℕ) (k : Taken) → length gs ≤ i → parameters_behind ps (drop i gs) k ≡ Ok k
parameters_end ps gs i k h = ap (λ ys. parameters_behind ps ys k) (left_end gs i h)
