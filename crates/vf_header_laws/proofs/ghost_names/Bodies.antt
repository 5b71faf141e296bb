-- Bodies and contracts of annotations leave all as it is but locals.
use Rattle.std.proofs.Common.{◌≡◌, refl, sym, ap, ℕ, Bool, true, false, List, [], Option, Some, None, Ok}
use Rattle.vf_base.specs.declared.place.Place.{Place}
use Rattle.vf_sorts.specs.Sorts.{Sort}
use Rattle.vf_sorts.specs.Unknowns.{Known}
use Rattle.vf_declared.specs.declared.locals.Locals.{Locals}
use Rattle.vf_declared.specs.declared.scope.Scope.{Scope}
use Rattle.vf_declared.specs.Changes.{first_locals}
use Rattle.vf_declared.specs.Scopes.{sides_of_ghost}
use Rattle.vf_syntax.specs.declared.contract.Contract.{Contract}
use Rattle.vf_syntax.specs.declared.item.FixpointBody.{FixpointBody}
use Rattle.vf_syntax.specs.declared.item.FixpointCase.{FixpointCase}
use Rattle.vf_syntax.specs.declared.item.GhostBody.{GhostBody}
use Rattle.vf_syntax.specs.declared.item.GhostParameter.{GhostParameter}
use Rattle.vf_syntax.specs.AssertionTree.{PartTrees}
use Rattle.vf_syntax.specs.GhostCommandTree.{GhostCommandTree, GhostCommandTrees, ghost_command_list, more_ghost_command, no_ghost_command}
use Rattle.vf_sorting.specs.declared.context.Context.{Context}
use Rattle.vf_walk.specs.Items.{no_locals}
use Rattle.vf_contracts.specs.Comes.{ContractComes}
use Rattle.vf_contracts.specs.Comes as contracts
use Rattle.vf_commands.specs.declared.around.Around.{Around}
use Rattle.vf_commands.specs.Comes.{CommandComes}
use Rattle.vf_commands.specs.Comes as commands
use Rattle.vf_predicates.specs.Bodies.{BodyComes}
use Rattle.vf_predicates.specs.Bodies as bodies
use Rattle.vf_equations.specs.Fixpoints.{EquationsCome}
use Rattle.vf_equations.specs.Fixpoints as fixpoints
use Rattle.vf_equations.specs.Values as values
use Rattle.vf_lemma_items.specs.Kept.{first_renamed, kept_in, taken_from, taken_unless}
use Rattle.vf_lemma_items.specs.Lemmas.{BodyIf, OwnContract}
use Rattle.vf_header_laws.proofs.c_names.Steps.{apart, ok_same, went}
use Rattle.vf_erasure_laws.proofs.hidden.Adding.{IsKept}
use Rattle.vf_erasure_laws.proofs.hidden.Binding.{names}
use Rattle.vf_erasure_laws.proofs.hidden.Giving.{command, contract, parts}
use Rattle.vf_header_laws.proofs.ghost_names.Rest.{IsRest, rest_both, rest_kept, rest_same}

-- ---- the body of a predicate
pub body_rest : {t : Scope} (n : ℕ) (xs : PartTrees) (s : Scope) → BodyComes n xs s (Ok t) → IsRest s t
body_rest n xs s (bodies.given {s' = v} g) = record { is = (parts rest_kept g).is }

-- where there were no locals there are none behind it
pub body_cleared : {t : Scope} (n : ℕ) (xs : PartTrees) (s : Scope) → n ≡ 0 → BodyComes n xs s (Ok t) → t.locals ≡ no_locals
body_cleared n xs s e (bodies.given {s' = v} g) = ap (first_locals v.locals) e

-- ---- the body of a fixpoint
case_given : {P : Scope → Scope → Type 0} → IsKept P → {c : Context} {t : Sort} {m : ℕ} {s s' : Scope} {k k' : Known} {x : FixpointCase} → values.CaseGives c t m s k x s' k' → P s s'
case_given h (values.a_case {s = s} {b = b} n v) = h.gone (h.named s b (names n refl))

cases_given : {P : Scope → Scope → Type 0} → IsKept P → {c : Context} {t : Sort} {m : ℕ} {s s' : Scope} {k k' : Known} {xs : List FixpointCase} → values.CasesGive c t m s k xs s' k' → P s s'
cases_given h (values.no_cases {s = s}) = h.same s
cases_given h (values.more_cases x xs) = h.both (case_given h x) (cases_given h xs)

pub equations_rest : {t : Scope} (m n : ℕ) (s : Scope) (b : FixpointBody) → EquationsCome m n s b (Ok t) → IsRest s t
equations_rest m n s b (fixpoints.value v) = record { is = refl }
equations_rest m n s b (fixpoints.cases w xs) = record { is = (cases_given rest_kept xs).is }

pub equations_cleared : {t : Scope} (m n : ℕ) (s : Scope) (b : FixpointBody) → m ≡ 0 → EquationsCome m n s b (Ok t) → t.locals ≡ no_locals
equations_cleared m n s b e (fixpoints.value v) = ap (first_locals s.locals) e
equations_cleared m n s b e (fixpoints.cases {s' = s'} w xs) = ap (first_locals s'.locals) e

-- ---- contracts and bodies of lemmas
pub contract_rest : {t : Scope} (c d : Context) (x : Contract) (s : Scope) → ContractComes c d x s (Ok t) → IsRest s t
contract_rest c d x s (contracts.given g) = contract rest_kept g

taken_if : {t : Scope} (gs : List GhostParameter) (l : Locals) (p : Option Place) (s : Scope) → taken_unless gs l p s ≡ Ok t → IsRest s t
taken_if gs l None s h = record { is = ap (λ (z : Scope). record z { locals = no_locals; ghost_sides = [] }) (sym (ok_same h)) }
taken_if gs l (Some p) s h = absurd (apart h)

taken_rest : {t : Scope} (gs : List GhostParameter) (o : Option Locals) (s : Scope) → taken_from gs o s ≡ Ok t → IsRest s t
taken_rest gs None s h = rest_same (sym (ok_same h))
taken_rest gs (Some l) s h = taken_if gs l (first_renamed l.names gs) s h

pub own_contract_rest : {t : Scope} (gs : List GhostParameter) (k : ℕ) (c : Option Contract) (s : Scope) → OwnContract gs k c s (Ok t) → IsRest s t
own_contract_rest gs k None s h = taken_rest gs (kept_in (sides_of_ghost s k)) s h.is
own_contract_rest gs k (Some c) s h = contract_rest _ _ c s h

command_rest : {t : Scope} (w : Around) (x : GhostCommandTree) (s : Scope) → CommandComes w x s (Ok t) → IsRest s t
command_rest w x s (commands.given g) = command rest_kept g

commands_rest : {t : Scope} (w : Around) (xs : GhostCommandTrees) (s : Scope) → commands.BodyComes w xs s (Ok t) → IsRest s t
commands_rest w no_ghost_command s h = rest_same (sym (ok_same h.is))
commands_rest w (more_ghost_command x xs) s h = let k = went h in rest_both (command_rest w x s k.first) (commands_rest w xs k.at k.next)

pub lemma_body_rest : {t : Scope} (may : Bool) (w : Around) (b : GhostBody) (s : Scope) → BodyIf may w b s (Ok t) → IsRest s t
lemma_body_rest true w b s h = commands_rest w (ghost_command_list b.commands) s h
lemma_body_rest false w b s h = absurd (apart h.is)
