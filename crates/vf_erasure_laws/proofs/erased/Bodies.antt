-- Whole bodies.
use Rattle.std.proofs.Common.{◌≡◌, ℕ, Bool, List, length, Some, None, Ok, refl, sym, subst, ◌∙◌}
use Rattle.vf_base.specs.declared.place.Place.{Place}
use Rattle.vf_declared.specs.declared.ctype.CType.{CType}
use Rattle.vf_declared.specs.declared.scope.Scope.{Scope}
use Rattle.vf_declared.specs.Changes.{IsAligned}
use Rattle.vf_syntax.specs.StmtTree.{StmtTrees}
use Rattle.vf_typing.specs.Types.{is_void}
use Rattle.vf_walk.specs.Meanings.{Meanings}
use Rattle.vf_walk.specs.Statements.{WalksStmts}
use Rattle.vf_steps.specs.Tree as steps
use Rattle.vf_lower.specs.Lowering.{Lowering}
use Rattle.vf_lower.specs.Statements.{body, ended}
use Rattle.vf_functions.specs.Erased.{erased}
use Rattle.vf_erasure_laws.specs.plain.Stripped.{stripped_stmts}
use Rattle.vf_erasure_laws.specs.seen.Seen.{IsOrderly, real_locals}
use Rattle.vf_erasure_laws.specs.seen.Unseen.{AreUnseen}
use Rattle.vf_erasure_laws.proofs.seen.Leading.{Finds}
use Rattle.vf_erasure_laws.proofs.seen.Lookups.{finds_seen, names_seen, seen_is}
use Rattle.vf_erasure_laws.proofs.seen.Same.{Names, meaning_same}
use Rattle.vf_erasure_laws.specs.erased.Erasure.{AreErasedAlike, among_locals, seen_by_c}
use Rattle.vf_erasure_laws.proofs.erased.Alike.{Alike, Is, alike_does, alike_then, whole_comes}
use Rattle.vf_erasure_laws.proofs.erased.Parts.{Stands, alike_if, one, two}
use Rattle.vf_erasure_laws.proofs.erased.Statements.{stmts_alike}
use Rattle.vf_erasure_laws.proofs.erased.WalkingSeen.{real_beside}

-- the names of a scope, among its locals of C
abbrev own_names : Scope → Names
own_names s = record {
  locals = real_locals s.locals;
  names = s.names;
  declarations = s.declarations;
  predicates = s.predicates;
  predicate_files = s.predicate_files;
  predicate_sorts = s.predicate_sorts;
  sides = s.sides;
  ghosts = s.ghosts;
  ghost_sides = s.ghost_sides;
  datatypes = s.datatypes;
}

own_finds : (s : Scope) → Finds s (own_names s)
own_finds s = record { local = (finds_seen s).local; no_local = (finds_seen s).no_local; declared = λ x f m c e. meaning_same s (real_locals s.locals) x f ∙ e; undeclared = λ x e. e }

aligned_real : (s : Scope) → IsAligned s.locals → IsAligned (real_locals s.locals)
unfolding real_locals
aligned_real s a = real_beside s.locals.names s.locals.meanings a

-- a body among the locals of C, and as C text sees it
abbrev beginning : (s : Scope) (numbers : List ℕ) (p : Place) → IsOrderly s → length (real_locals s.locals).names ≡ length numbers → Stands
beginning s numbers p o e = record {
  scope = s;
  first = own_names s;
  second = names_seen s;
  finds = own_finds s;
  found = finds_seen s;
  locals = refl;
  aligned = aligned_real s o.locals;
  numbers = numbers;
  beside = e;
  statement = p;
}

-- the end of a body
ended_alike : (r : CType) (is_main : Bool) (last : Place) → Alike Is (ended r is_main last) (ended r is_main last)
ended_alike r is_main last = alike_if (is_void r) (alike_does last (steps.return_ None) (λ b h. refl)) (alike_if is_main (alike_does last (steps.return_ (Some (steps.number 0))) (λ b h. refl)) (alike_does last steps.no_return (λ b h. refl)))

erased_alike : {A B : Type 0} {R : A → B → Type 0} {m : Lowering A} {k : Lowering B} (n : ℕ) → Alike R m k → (erased (m n).nodes ≡ erased (k n).nodes) × ((m n).locals ≡ (k n).locals)
erased_alike n h = (whole_comes (h.nodes n).first ∙ sym (whole_comes (h.nodes n).second), h.locals n)

body_alike : (m : Meanings) → AreUnseen m → (r : CType) (is_main : Bool) (xs : StmtTrees) (last : Place) (x : Stands) (t : Scope) → IsOrderly x.scope → WalksStmts m r xs x.scope (Ok t) → Alike Is (body (one x) r is_main xs last) (body (two x) r is_main (stripped_stmts xs) last)
body_alike m d r is_main xs last x t o h = alike_then (stmts_alike m d r xs x t o h) (λ a b s. ended_alike r is_main last)

-- a body and the same without its annotations
pub bodies_are_erased : (m : Meanings) (r : CType) (is_main : Bool) (xs : StmtTrees) (last p : Place) (numbers : List ℕ) (s t : Scope) (n : ℕ) → AreUnseen m → IsOrderly s → length (real_locals s.locals).names ≡ length numbers → WalksStmts m r xs s (Ok t)
    → AreErasedAlike (body (among_locals s numbers p) r is_main xs last n) (body (seen_by_c s numbers p) r is_main (stripped_stmts xs) last n)
bodies_are_erased m r is_main xs last p numbers s t n d o e h =
    let k = erased_alike n (body_alike m d r is_main xs last (beginning s numbers p o e) t o h) in
    subst (λ (u : Scope). AreErasedAlike (body (among_locals s numbers p) r is_main xs last n) (body (record { scope = u; numbers = numbers; statement = p }) r is_main (stripped_stmts xs) last n)) (sym (seen_is s)) (record { nodes = k.0; locals = k.1 })
