-- A body that the rules accept is evaluated without a fault, step by step, to a return that is as promised.
use Rattle.std.proofs.Common.{◌≡◌, refl, sym, ap, subst, List, [], ◌∷◌, replicate, Option, Some, None, slice_get, Bool, true, false, cond, ℕ, zero, suc, Ok, Err, arith}
use Rattle.std.specs.Prelude.{ℤ, slice_set}
use Rattle.std.proofs.lemmas.List.{map-set}
use Rattle.std.proofs.lemmas.Bool.Decides.{Decides-int_eq}
use Rattle.vf_base.specs.declared.place.Place.{Place}
use Rattle.vf_base.specs.declared.rule.Rule.TheVariants as rules
use Rattle.vf_base.specs.declared.refusal.Refusal.{Refusal}
use Rattle.vf_tree.specs.Shown.{expression_of}
use Rattle.vf_tree.specs.declared.unit.CoreStep.{CoreStep}
use Rattle.vf_tree.specs.declared.unit.CoreStep.TheVariants as steps
use Rattle.vf_tree.specs.declared.unit.Pure.{Pure}
use Rattle.vf_tree.specs.declared.unit.Pure.TheVariants as parts
use Rattle.vf_tree.specs.declared.unit.Expression.{Expression}
use Rattle.vf_tree.specs.declared.unit.Function.{Function}
use Rattle.vf_tree.specs.declared.unit.Core.{Core}
use Rattle.vf_model.specs.Values.{Value}
use Rattle.vf_model.specs.Values as values
use Rattle.vf_model.specs.Evaluation.{Gives, evaluate}
use Rattle.vf_closure.specs.Literals.{Literal, False, Holds, Meets}
use Rattle.vf_meaning.specs.Valuations.{Valuation, is_same}
use Rattle.vf_meaning.specs.GhostValues.{Interpretation}
use Rattle.vf_tree.specs.Core.{Equal}
use Rattle.vf_closure.specs.Terms.{number}
use Rattle.vf_normal.proofs.Compared.{comparisons_meant}
use Rattle.vf_exec.specs.Literals.{equal_of}
use Rattle.vf_asking.specs.Course.{done, refusal, asked}
use Rattle.vf_exec.specs.declared.sum.NumberTerm.{NumberTerm}
use Rattle.vf_exec.specs.Main.{Locals, required, is_folded, evaluates, postcondition_of, precondition_of, returns, leaves, runs, enters, assumes, checks_function, checks_main, checks}
use Rattle.vf_sound.specs.Allowed.{Allows}
use Rattle.vf_sound.proofs.Allowing.{allows_try, allows_done, had, asked_entails, required_entails, pushed_path}
use Rattle.vf_sound.proofs.Sums.{held, values_of, evaluates_is}

-- a returned number is as a pure part of a postcondition says
abbrev pub IsAsPromised : Pure → ℤ → Type 0
IsAsPromised (parts.True place) z = Unit {0}
IsAsPromised (parts.ResultIs n place) z = z ≡ n

-- a pure part of a precondition holds of nothing
abbrev pub IsHad : Pure → Type 0
IsHad (parts.True place) = Unit {0}
IsHad (parts.ResultIs n place) = ⊥

-- from these locals on, the steps of a body are evaluated without a fault, and the value of its return is as promised
abbrev pub RunsWell : Pure → List (Option Value) → List CoreStep → Type 0
RunsWell post locals [] = ⊥
RunsWell post locals (steps.Set x e next ∷ more) =
    (z : ℤ) × (evaluate locals (expression_of e) ≡ Gives (values.Number z)) × RunsWell post (slice_set locals x (Some (values.Number z))) more
RunsWell post locals (steps.Return e ∷ more) = (z : ℤ) × (evaluate locals (expression_of e) ≡ Gives (values.Number z)) × IsAsPromised post z

chosen : (b : Bool) (x goal : Literal) (r : Refusal) → cond b (Ok x) (Err r) ≡ Ok goal → goal ≡ x
chosen true x goal r e = cc
chosen false x goal r e = absurd (clash e)
  where
    clash : {A : Type 0} {x : A} {r : Refusal} → Err r ≡ Ok x → ⊥
    clash e = cc

from_equal : (a b : ℤ) → is_same (values.Number a) (values.Number b) ≡ true → a ≡ b
from_equal a b h = (Decides-int_eq a b).0 h

equal_is : (i : Interpretation) (v : Valuation) (a b : ℤ) → Holds i v (equal_of a b) → a ≡ b
equal_is i v a b h = from_equal a b ((comparisons_meant i v Equal (number a) (number b) refl refl).0 h)

-- a term that is returned is as promised
as_promised : (i : Interpretation) (v : Valuation) (post : Pure) (path : List Literal) (z : NumberTerm) → Meets i v path → Allows i (returns post path z) (Ok tt) → IsAsPromised post z.number
unfolding returns
as_promised i v (parts.True place) path z meets p = tt
as_promised i v (parts.ResultIs n place) path z meets p =
    let w = had i (postcondition_of (parts.ResultIs n place) z) _ tt p in
    let goal = chosen (is_folded n) (equal_of z.number n) w.0 (refusal rules.Pure place) w.1 in
    let holds = required_entails i rules.Pure place path w.0 w.2 v meets in
    equal_is i v z.number n (subst (λ (l : Literal). Holds i v l) goal holds)

module _ (i : Interpretation) (v : Valuation) (closing name : Place) (post : Pure) (path : List Literal) (meets : Meets i v path) where
  leaves_well : (locals : Locals) (e : Expression) → Allows i (leaves name post path locals e) (Ok tt) → (z : ℤ) × (evaluate (values_of locals) (expression_of e) ≡ Gives (values.Number z)) × IsAsPromised post z
  unfolding leaves
  leaves_well locals e p =
      let w = allows_try i (evaluates name path locals e) (returns post path) tt p in
      ((w.value).number, evaluates_is i v name path locals meets w.value e w.first, as_promised i v post path w.value meets w.later)

  pub runs_well : (locals : Locals) (items : List CoreStep) → Allows i (runs closing name post path locals items) (Ok tt) → RunsWell post (values_of locals) items
  unfolding runs
  runs_well locals [] p = absurd (clash (allows_done i (Err (refusal rules.NoReturn closing)) (Ok tt) p))
    where
      clash : {A : Type 0} {x : A} {r : Refusal} → Ok x ≡ Err r → ⊥
      clash e = cc
  runs_well locals (steps.Set x e next ∷ more) p =
      let w = allows_try i (evaluates name path locals e) (λ z. runs closing name post path (slice_set locals x (Some z)) more) tt p in
      let rest = runs_well (slice_set locals x (Some w.value)) more w.later in
      ((w.value).number, evaluates_is i v name path locals meets w.value e w.first, subst (λ new. RunsWell post new more) (map-set held locals x (Some w.value)) rest)
  runs_well locals (steps.Return e ∷ more) p = leaves_well locals e p

-- the fact that a precondition adds, alone on its path
pub only_fact : (i : Interpretation) (v : Valuation) (l : Literal) → Holds i v l → Meets i v (l ∷ [])
only_fact i v l h m (zero, low, is) = subst (λ x. Holds i v x) is h
only_fact i v l h m (suc k, low, is) = absurd (omega arith)

precondition_had : (i : Interpretation) (v : Valuation) (pre : Pure) → Holds i v (precondition_of pre) → IsHad pre
precondition_had i v (parts.True place) h = tt
precondition_had i v (parts.ResultIs n place) h = h

entered_well : (i : Interpretation) (v : Valuation) (f : Function) (core : Core) (path : List Literal) → Meets i v path → Allows i (enters f core path) (Ok tt) → RunsWell core.contract.postcondition (values_of (replicate f.locals None)) f.steps
unfolding enters
entered_well i v f core path meets p =
    let w = allows_try i (asked core.name path False) _ tt p in
    sound w.value w.first w.later
  where
    sound : (b : Bool) → Allows i (asked core.name path False) (Ok b) → Allows i (cond b (done (Ok tt)) (runs f.closing core.name core.contract.postcondition path (replicate f.locals None) f.steps)) (Ok tt) → RunsWell core.contract.postcondition (values_of (replicate f.locals None)) f.steps
    sound true a q = absurd (asked_entails i core.name path False a v meets)
    sound false a q = runs_well i v f.closing core.name core.contract.postcondition path meets (replicate f.locals None) f.steps q

-- what the rules show of a main that they accept: its precondition holds of nothing, and its body runs well with its locals unset
pub record IsGoodMain (core : Core) (f : Function) : Type 0 where
  pub had : IsHad core.contract.precondition
  pub runs_well : RunsWell core.contract.postcondition (replicate f.locals None) f.steps

no_facts : (i : Interpretation) (v : Valuation) → Meets i v []
no_facts i v l (k, low, is) = absurd (omega arith)

any_values : Valuation
any_values name = values.Null

held_none : (n : ℕ) → values_of (replicate n None) ≡ replicate n None
held_none zero = refl
held_none (suc n) = ap (λ xs. None ∷ xs) (held_none n)

function_good : (i : Interpretation) (core : Core) (f : Function) → Allows i (checks_function core f) (Ok tt) → IsGoodMain core f
unfolding checks_function assumes
function_good i core f p =
    let whole = allows_try i (assumes core) (enters f core) tt p in
    let asks = allows_try i (required rules.Contract core.name [] (precondition_of core.contract.precondition)) _ whole.value whole.first in
    let holds = required_entails i rules.Contract core.name [] (precondition_of core.contract.precondition) asks.first any_values (no_facts i any_values) in
    let path = pushed_path i core.name [] (precondition_of core.contract.precondition) whole.value asks.later in
    let meets = subst (λ ls. Meets i any_values ls) (sym path) (only_fact i any_values (precondition_of core.contract.precondition) holds) in
    record {
      had = precondition_had i any_values core.contract.precondition holds;
      runs_well = subst (λ locals. RunsWell core.contract.postcondition locals f.steps) (held_none f.locals) (entered_well i any_values f core whole.value meets whole.later);
    }

pub main_good : (i : Interpretation) (core : Core) (f : Function) → slice_get core.plain.functions core.plain.main ≡ Some f → Allows i (checks core) (Ok tt) → IsGoodMain core f
unfolding checks checks_main
main_good i core f is p = function_good i core f (subst (λ o. Allows i (checks_main core o) (Ok tt)) is p)
