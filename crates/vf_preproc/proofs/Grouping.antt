-- What a fault of a part is for the whole.
use Rattle.std.proofs.Common.{◌≡◌, ◌≤◌, ◌-◌, Bool, List, [], ◌∷◌, length, take, drop, get_or, Result, Ok, Err, arith, sym, ap, subst, ◌∙◌}
use Rattle.std.proofs.lemmas.List.{take_all}
use Rattle.vf_lexer.specs.declared.token.Token.{Token}
use Rattle.vf_preproc.specs.declared.steps.Step.{Step}
use Rattle.vf_preproc.specs.declared.steps.Step.TheVariants as steps
use Rattle.vf_preproc.specs.LineSteps.{Meaning, StepGives}
use Rattle.vf_preproc.specs.declared.fault.ExpandFault.{ExpandFault}
use Rattle.vf_preproc.specs.declared.groups.Group.{Group}
use Rattle.vf_preproc.specs.Directives.{Fault}
use Rattle.vf_preproc.specs.Answers.{Fails}
use Rattle.vf_preproc.specs.Macros.{Table}
use Rattle.vf_preproc.specs.UnitText.{Includer, Scope, Unit_so_far, in_groups, in_macros, in_unit}
use Rattle.vf_preproc.proofs.Joining.{Fails-then}

-- a fault of groups is one of the file
pub fails_behind : (e : ExpandFault) (scope : Scope) (r : Result (List Group) Fault) → Fails e r → Fails e (in_groups scope r)
fails_behind e scope r h = Fails-then e r _ h

-- a fault of a file is one of the unit
pub fails_outside : (e : ExpandFault) (unit : Unit_so_far) (r : Result Scope Fault) → Fails e r → Fails e (in_unit unit r)
fails_outside e unit r h = Fails-then e r _ h

-- a fault of macros is one of the unit
pub fails_macros : (e : ExpandFault) (unit : Unit_so_far) (scope : Scope) (r : Result Table Fault) → Fails e r → Fails e (in_unit unit (in_macros scope r))
fails_macros e unit scope r h = Fails-then e (in_macros scope r) _ (Fails-then e r _ h)

-- what was done of a line that means the same
pub StepGives-same : (text other : Meaning) (include_text : Bool → Meaning) (unit : Unit_so_far) (old new : Scope) (r : Result Step ExpandFault) → ((include : Includer) → other include ≡ text include) → StepGives text include_text unit old new r → StepGives other include_text unit old new r
StepGives-same text other include_text unit old new (Ok steps.Done) same h = λ include. same include ∙ h include
StepGives-same text other include_text unit old new (Ok (steps.Include ghost)) same h = (h.0, λ include. same include ∙ h.1 include)
StepGives-same text other include_text unit old new (Err e) same h = λ include. subst (Fails e) (sym (same include)) (h include)

-- a list is its first item and the rest
pub first_and_rest : (ts : List Token) (t : Token) → 1 ≤ length ts → t ≡ get_or ts 0 t → ts ≡ t ∷ take (length ts - 1) (drop 1 ts)
first_and_rest [] t some is = absurd (omega arith)
first_and_rest (x ∷ xs) t some is =
    let size : length (x ∷ xs) - 1 ≡ length xs = omega arith in
    ap (λ y. y ∷ xs) (sym is) ∙ ap (λ ys. t ∷ ys) (sym (ap (λ n. take n xs) size ∙ take_all (length xs) xs (omega arith)))
