-- How the declaration of a family goes on, and where it stops.
use Rattle.std.proofs.Common.{◌≡◌, ℕ, List, [], None, Result, Ok, Err, length, sym, ap, subst, ◌∙◌}
use Rattle.vf_base.specs.declared.refusal.RuleFault.{RuleFault}
use Rattle.vf_sorts.specs.Sorts.{Sort}
use Rattle.vf_declared.specs.declared.declaration.GhostDeclaration.TheVariants as ghosts
use Rattle.vf_declared.specs.declared.scope.Scope.{Scope}
use Rattle.vf_syntax.specs.declared.item.GhostParameter.{GhostParameter}
use Rattle.vf_syntax.specs.declared.written.Name.{Name}
use Rattle.vf_sorting.specs.Answers.{Tells}
use Rattle.vf_sorting.specs.Spelling.{written_sort}
use Rattle.vf_declared.specs.Writing.{with_ghost}
use Rattle.vf_datatypes.specs.Datatypes.{with_next}
use Rattle.vf_datatypes.specs.NewNames.{name_refusal}
use Rattle.vf_datatypes.specs.Walking.{Gives, behind}
use Rattle.vf_heads.specs.Heads.{behind_index, family_behind, indexed, leaving, with_family}
use Rattle.vf_heads.specs.Parameters.{Taken, named, none_taken, parameters_behind}
use Rattle.vf_heads.proofs.Steps.{go, passed, stop, stop_told}

-- the parameters of a family are taken
pub family_goes : (n : ℕ) (t : Sort) (gs : List GhostParameter) (s u : Scope) (ts : List Sort) (v : Scope) (r : Result (Unit {0}) RuleFault) → parameters_behind [] gs (none_taken s) ≡ Ok (record { scope = u; sorts = ts }) → v ≡ with_ghost (leaving n u) (ghosts.Family (record { index = t; arguments = ts })) → r ≡ Ok tt → Gives r v (behind_index n t gs s)
family_goes n t gs s u ts v r h e is = subst (λ y. Gives y v (behind_index n t gs s)) (sym is) (ap (behind (with_family n t)) h ∙ ap Ok (sym e))

-- the index of a family is refused
pub index_stops : (i : GhostParameter) (gs : List GhostParameter) (s : Scope) (t : Sort) (k : Taken) (v : Scope) (e : RuleFault) → Gives (Err e) k (named i.name (none_taken s) t) → Gives (Err e) v (indexed i gs s t)
index_stops i gs s t k v e h = stop (λ (k : Taken). behind_index (length s.locals.names) t gs k.scope) (named i.name (none_taken s) t) e k v h

-- what stands behind the index is what counts
pub index_goes : (i : GhostParameter) (gs : List GhostParameter) (s : Scope) (t : Sort) (k : Taken) (v : Scope) (n : ℕ) (r : Result (Unit {0}) RuleFault) → named i.name (none_taken s) t ≡ Ok k → n ≡ length s.locals.names → Gives r v (behind_index n t gs k.scope) → Gives r v (indexed i gs s t)
index_goes i gs s t k v n r h c g = go (λ (k : Taken). behind_index (length s.locals.names) t gs k.scope) (named i.name (none_taken s) t) k r v h (subst (λ m. Gives r v (behind_index m t gs k.scope)) c g)

-- the sort of the index is refused
pub sort_stops : (n : Name) (i : GhostParameter) (gs : List GhostParameter) (s u v : Scope) (e : RuleFault) → name_refusal s n ≡ None → u ≡ with_next s n → Tells (λ r. written_sort u [] i.sort ≡ Err r) e → Gives (Err e) v (family_behind n i gs s)
sort_stops n i gs s u v e m q h =
    passed (name_refusal s n) (Err e) v (behind (indexed i gs (with_next s n)) (written_sort (with_next s n) [] i.sort)) m
    (stop_told (indexed i gs (with_next s n)) (written_sort (with_next s n) [] i.sort) e v (subst (λ (w : Scope). Tells (λ r. written_sort w [] i.sort ≡ Err r) e) q h))

-- what stands behind the sort of the index is what counts
pub sort_goes : (n : Name) (i : GhostParameter) (gs : List GhostParameter) (s u v : Scope) (t : Sort) (r : Result (Unit {0}) RuleFault) → name_refusal s n ≡ None → u ≡ with_next s n → written_sort u [] i.sort ≡ Ok t → Gives r v (indexed i gs u t) → Gives r v (family_behind n i gs s)
sort_goes n i gs s u v t r m q h g =
    passed (name_refusal s n) r v (behind (indexed i gs (with_next s n)) (written_sort (with_next s n) [] i.sort)) m
    (go (indexed i gs (with_next s n)) (written_sort (with_next s n) [] i.sort) t r v (subst (λ (w : Scope). written_sort w [] i.sort ≡ Ok t) q h) (subst (λ (w : Scope). Gives r v (indexed i gs w t)) q g))
