-- How the declaration of a predicate constructor goes on, and where it stops.
use Rattle.std.proofs.Common.{◌≡◌, List, [], None, Result, Ok, Err, sym, ap, subst, ◌∙◌}
use Rattle.vf_base.specs.declared.refusal.RuleFault.{RuleFault}
use Rattle.vf_sorts.specs.Sorts.{Sort}
use Rattle.vf_declared.specs.declared.declaration.GhostDeclaration.TheVariants as ghosts
use Rattle.vf_declared.specs.declared.scope.Scope.{Scope}
use Rattle.vf_syntax.specs.declared.item.GhostParameter.{GhostParameter}
use Rattle.vf_syntax.specs.declared.written.Name.{Name}
use Rattle.vf_declared.specs.Writing.{with_ghost}
use Rattle.vf_datatypes.specs.Datatypes.{with_next}
use Rattle.vf_datatypes.specs.NewNames.{name_refusal}
use Rattle.vf_datatypes.specs.Walking.{Gives, behind}
use Rattle.vf_heads.specs.Heads.{constructor_behind, second_behind, with_predicate_constructor}
use Rattle.vf_heads.specs.Parameters.{Taken, none_taken, parameters_behind}
use Rattle.vf_heads.proofs.Steps.{go, passed, stop}

-- the second parameters are taken
pub second_goes : (gs : List GhostParameter) (s u v : Scope) (ts us : List Sort) (r : Result (Unit {0}) RuleFault) → parameters_behind [] gs (none_taken s) ≡ Ok (record { scope = u; sorts = us }) → v ≡ with_ghost u (ghosts.PredicateConstructor (record { first = ts; second = us })) → r ≡ Ok tt → Gives r v (second_behind gs (record { scope = s; sorts = ts }))
second_goes gs s u v ts us r h e is = subst (λ y. Gives y v (second_behind gs (record { scope = s; sorts = ts }))) (sym is) (ap (behind (with_predicate_constructor ts)) h ∙ ap Ok (sym e))

-- the first parameters are refused
pub first_stops : (n : Name) (fs gs : List GhostParameter) (s u v : Scope) (k : Taken) (e : RuleFault) → name_refusal s n ≡ None → u ≡ with_next s n → Gives (Err e) k (parameters_behind [] fs (none_taken u)) → Gives (Err e) v (constructor_behind n fs gs s)
first_stops n fs gs s u v k e m q h =
    passed (name_refusal s n) (Err e) v (behind (second_behind gs) (parameters_behind [] fs (none_taken (with_next s n)))) m
    (stop (second_behind gs) (parameters_behind [] fs (none_taken (with_next s n))) e k v (subst (λ (w : Scope). Gives (Err e) k (parameters_behind [] fs (none_taken w))) q h))

-- the second parameters are what counts
pub first_goes : (n : Name) (fs gs : List GhostParameter) (s u v : Scope) (k : Taken) (r : Result (Unit {0}) RuleFault) → name_refusal s n ≡ None → u ≡ with_next s n → parameters_behind [] fs (none_taken u) ≡ Ok k → Gives r v (second_behind gs k) → Gives r v (constructor_behind n fs gs s)
first_goes n fs gs s u v k r m q h g =
    passed (name_refusal s n) r v (behind (second_behind gs) (parameters_behind [] fs (none_taken (with_next s n)))) m
    (go (second_behind gs) (parameters_behind [] fs (none_taken (with_next s n))) k r v (subst (λ (w : Scope). parameters_behind [] fs (none_taken w) ≡ Ok k) q h) g)
