-- Examples of what is meant: contracts of the prelude, which are those that the rules of its functions have, and a cell and a chunk whose shares are written.
use Rattle.std.specs.Prelude.{◌≡◌, ℕ, List, [], ◌∷◌, Some, None}
use Rattle.vf_base.specs.declared.place.Place.{Place}
use Rattle.vf_tree.specs.Core.{Identity}
use Rattle.vf_meaning.specs.Fractions.{half, whole}
use Rattle.vf_meaning.specs.Ghost.{Name, Numbered, Result, no_expressions, and_expression, PredicateValue}
use Rattle.vf_meaning.specs.Assertions.{Times, Is, Names, Wild, Named, Applied, Assertion, Both, Cell, Chunk}
use Rattle.vf_closure.specs.Terms.{Other, Symbol, Term, term, no_terms}
use Rattle.vf_formula.specs.declared.head.Kind.TheVariants as kinds
use Rattle.vf_sorts.specs.declared.sort.Head.TheVariants as sorts
use Rattle.vf_sorts.specs.Sorts.{Sort, sort, no_sorts}
use Rattle.vf_rules.specs.Mutexes.{create_mutex_ghost_arg_name, creation, disposal, mutex_name, name}
use Rattle.vf_rules.specs.Threads.{join, thread_name, thread_run_post}
use Rattle.vf_resolved.specs.AssertionTree.{PartTree, part_list}
use Rattle.vf_resolved.specs.AssertionTree as tree
use Rattle.vf_resolved.specs.declared.contract.Contract.{Contract}
use Rattle.vf_resolved.specs.declared.head.Head.TheVariants as heads
use Rattle.vf_resolved.specs.declared.pattern.Argument.{Argument}
use Rattle.vf_resolved.specs.declared.pattern.Factor.TheVariants as factors
use Rattle.vf_resolved.specs.declared.pattern.Pattern.{Pattern}
use Rattle.vf_resolved.specs.declared.pattern.Pattern.TheVariants as patterns
use Rattle.vf_resolved.specs.declared.pattern.Share.TheVariants as shares
use Rattle.vf_resolved_meaning.specs.Meaning.{parts_meant}
use Rattle.vf_resolved_meaning.specs.Texts.{contract_meant}

-- the sorts of pointers, of predicates without arguments, and of any value
abbrev pub pointer : Sort
pointer = sort (sorts.Pointer None) no_sorts

abbrev pub predicate : Sort
predicate = sort sorts.Predicate no_sorts

abbrev pub anything : Sort
anything = sort sorts.Any no_sorts

-- the term of a name, and the value that it is
abbrev pub symbol : Name → Term
symbol x = term (Symbol Other x) no_terms

abbrev pub value : Name → Argument
value x = record { kind = kinds.Other; term = symbol x }

-- the name with a number as a pattern: its value, and where it is bound
abbrev pub used : ℕ → Pattern
used n = patterns.Is (value (Numbered n))

abbrev pub bound : ℕ → Pattern
bound n = patterns.Binds (record { number = n; kind = kinds.Other })

-- `requires create_mutex_ghost_arg(?p) &*& p(); ensures mutex(result, p);`
abbrev pub creating : Place → Contract
creating at = record {
  place = at;
  names = record { sorts = predicate ∷ []; parameters = 0 };
  precondition = tree.chunk at None (heads.Predicate create_mutex_ghost_arg_name) (bound 0 ∷ []) ∷ tree.chunk at None (heads.Value (symbol (Numbered 0))) [] ∷ [];
  postcondition = tree.chunk at None (heads.Predicate mutex_name) (patterns.Is (value Result) ∷ used 0 ∷ []) ∷ [];
}

-- `requires mutex(m, ?p); ensures p();`, whose parameter is `m`
abbrev pub disposing : Place → Contract
disposing at = record {
  place = at;
  names = record { sorts = pointer ∷ predicate ∷ []; parameters = 1 };
  precondition = tree.chunk at None (heads.Predicate mutex_name) (used 0 ∷ bound 1 ∷ []) ∷ [];
  postcondition = tree.chunk at None (heads.Value (symbol (Numbered 1))) [] ∷ [];
}

-- `requires thread(t, ?run, ?d, ?info); ensures thread_run_post(run)(d, info);`, whose parameter is `t`
abbrev pub joining : Place → Contract
joining at = record {
  place = at;
  names = record { sorts = pointer ∷ pointer ∷ pointer ∷ anything ∷ []; parameters = 1 };
  precondition = tree.chunk at None (heads.Predicate thread_name) (used 0 ∷ bound 1 ∷ bound 2 ∷ bound 3 ∷ []) ∷ [];
  postcondition = tree.chunk at None (heads.Family thread_run_post (value (Numbered 1))) (used 2 ∷ used 3 ∷ []) ∷ [];
}

-- `[1/2]a->lock |-> ?m &*& [f/2]mutex(m, _) &*& [f]guarded(a)(m)`, where `a` has the number 0, `f` the number 1 and `m` the number 2
abbrev pub halves : Place → Identity → Identity → List PartTree
halves at s q =
    tree.cell at (Some (shares.Product (factors.Times 1 ∷ factors.Over 2 ∷ []))) (symbol (Numbered 0)) (record { structure = s; index = 0; integer = None }) (bound 2)
    ∷ tree.chunk at (Some (shares.Product (factors.Named (symbol (Numbered 1)) ∷ factors.Over 2 ∷ []))) (heads.Predicate mutex_name) (used 2 ∷ patterns.Wild kinds.Other ∷ [])
    ∷ tree.chunk at (Some (shares.Product (factors.Named (symbol (Numbered 1)) ∷ []))) (heads.Constructor q (value (Numbered 0) ∷ [])) (used 2 ∷ [])
    ∷ []

-- what these are meant to be
abbrev pub halved_parts : Identity → Identity → Assertion
halved_parts s q =
    Both (Cell (Times (half whole) []) (name 0) (record { structure = s; index = 0 }) (Names (Numbered 2)))
    (Both (Chunk (Times (half whole) (Numbered 1 ∷ [])) (Named mutex_name) (Is (name 2) ∷ Wild ∷ []))
    (Chunk (Times whole (Numbered 1 ∷ [])) (Applied (PredicateValue q (and_expression (name 0) no_expressions))) (Is (name 2) ∷ [])))

-- the contracts of `create_mutex`, `mutex_dispose` and `thread_join` mean those that the rules have for them; shares, a cell, and chunks of a predicate and of a constructor of predicates mean what is written
pub record MeantInExamples : Type 0 where
  pub created : (identity : ℕ → Identity) (at : Place) → contract_meant identity (Some pointer) (creating at) ≡ creation
  pub disposed : (identity : ℕ → Identity) (at : Place) → contract_meant identity None (disposing at) ≡ disposal
  pub joined : (identity : ℕ → Identity) (at : Place) → contract_meant identity None (joining at) ≡ join
  pub shared : (at : Place) (s q : Identity) → parts_meant (part_list (halves at s q)) ≡ halved_parts s q
