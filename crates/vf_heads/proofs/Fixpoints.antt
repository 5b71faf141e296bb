-- How the declaration of a fixpoint goes on, and where it stops.
use Rattle.std.proofs.Common.{◌≡◌, ℕ, List, [], None, Result, Ok, Err, length, sym, ap, subst, ◌∙◌}
use Rattle.vf_base.specs.declared.refusal.RuleFault.{RuleFault}
use Rattle.vf_sorts.specs.Sorts.{Sort}
use Rattle.vf_declared.specs.declared.declaration.GhostDeclaration.TheVariants as ghosts
use Rattle.vf_declared.specs.declared.scope.Scope.{Scope}
use Rattle.vf_syntax.specs.declared.item.GhostParameter.{GhostParameter}
use Rattle.vf_syntax.specs.declared.written.Name.{Name}
use Rattle.vf_syntax.specs.SortTree.{SortTree}
use Rattle.vf_sorting.specs.Answers.{Tells}
use Rattle.vf_sorting.specs.Spelling.{written_sort}
use Rattle.vf_declared.specs.Writing.{with_ghost}
use Rattle.vf_datatypes.specs.Datatypes.{with_next}
use Rattle.vf_datatypes.specs.NewNames.{name_refusal}
use Rattle.vf_datatypes.specs.NewNames as names
use Rattle.vf_datatypes.specs.Walking.{Gives, behind}
use Rattle.vf_heads.specs.Heads.{fixpoint_behind, given_fixpoint, named_fixpoint, with_fixpoint}
use Rattle.vf_heads.specs.Parameters.{Taken, none_taken, parameters_behind}
use Rattle.vf_heads.proofs.Steps.{go, passed, stop, stop_told}

-- the parameters of a fixpoint are refused
pub parameters_stop : (n : Name) (gs : List GhostParameter) (s u v : Scope) (ps : List (List ℕ)) (t : Sort) (k : Taken) (e : RuleFault) → name_refusal s n ≡ None → u ≡ with_next s n → Gives (Err e) k (parameters_behind ps gs (none_taken u)) → Gives (Err e) v (named_fixpoint n gs s ps t)
parameters_stop n gs s u v ps t k e m q h =
    passed (name_refusal s n) (Err e) v (behind (with_fixpoint (length ps) t) (parameters_behind ps gs (none_taken (with_next s n)))) m
    (stop (with_fixpoint (length ps) t) (parameters_behind ps gs (none_taken (with_next s n))) e k v (subst (λ (w : Scope). Gives (Err e) k (parameters_behind ps gs (none_taken w))) q h))

-- the parameters of a fixpoint are taken
pub parameters_go : (n : Name) (gs : List GhostParameter) (s u v w : Scope) (ps : List (List ℕ)) (t : Sort) (ts : List Sort) (c : ℕ) (r : Result (Unit {0}) RuleFault) → name_refusal s n ≡ None → u ≡ with_next s n → parameters_behind ps gs (none_taken u) ≡ Ok (record { scope = w; sorts = ts }) → c ≡ length ps → v ≡ with_ghost w (ghosts.Fixpoint (record { parameters = c; arguments = ts; result = t })) → r ≡ Ok tt → Gives r v (named_fixpoint n gs s ps t)
parameters_go n gs s u v w ps t ts c r m q h l e is =
    subst (λ y. Gives y v (named_fixpoint n gs s ps t)) (sym is)
    (passed (name_refusal s n) (Ok tt) v (behind (with_fixpoint (length ps) t) (parameters_behind ps gs (none_taken (with_next s n)))) m
    (ap (behind (with_fixpoint (length ps) t)) (subst (λ (x : Scope). parameters_behind ps gs (none_taken x) ≡ Ok (record { scope = w; sorts = ts })) q h)
    ∙ ap Ok (sym (e ∙ ap (λ i. with_ghost w (ghosts.Fixpoint (record { parameters = i; arguments = ts; result = t }))) l))))

-- a type parameter is refused
pub types_stop : (g : SortTree) (n : Name) (ns : List Name) (gs : List GhostParameter) (s v : Scope) (e : RuleFault) → Tells (λ r. names.parameters_behind s ns [] ≡ Err r) e → Gives (Err e) v (fixpoint_behind g n ns gs s)
types_stop g n ns gs s v e h = stop_told (given_fixpoint g n gs s) (names.parameters_behind s ns []) e v h

-- the sort of the result is refused
pub given_stops : (g : SortTree) (n : Name) (ns : List Name) (gs : List GhostParameter) (s v : Scope) (ps : List (List ℕ)) (e : RuleFault) → names.parameters_behind s ns [] ≡ Ok ps → Tells (λ r. written_sort s ps g ≡ Err r) e → Gives (Err e) v (fixpoint_behind g n ns gs s)
given_stops g n ns gs s v ps e h k = go (given_fixpoint g n gs s) (names.parameters_behind s ns []) ps (Err e) v h (stop_told (named_fixpoint n gs s ps) (written_sort s ps g) e v k)

-- the name and the parameters are what counts
pub given_goes : (g : SortTree) (n : Name) (ns : List Name) (gs : List GhostParameter) (s v : Scope) (ps : List (List ℕ)) (t : Sort) (r : Result (Unit {0}) RuleFault) → names.parameters_behind s ns [] ≡ Ok ps → written_sort s ps g ≡ Ok t → Gives r v (named_fixpoint n gs s ps t) → Gives r v (fixpoint_behind g n ns gs s)
given_goes g n ns gs s v ps t r h k m = go (given_fixpoint g n gs s) (names.parameters_behind s ns []) ps r v h (go (named_fixpoint n gs s ps) (written_sort s ps g) t r v k m)
