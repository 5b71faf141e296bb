-- The contracts of the prelude's functions for mutexes.
use Rattle.std.specs.Prelude.{ℕ, true, [], ◌∷◌, Some, None, codes}
use Rattle.vf_tree.specs.Core.{Identity}
use Rattle.vf_meaning.specs.Fractions.{whole}
use Rattle.vf_meaning.specs.Ghost.{Sort, Pointers, Fractions, Predicates, none, Numbered, Result, CurrentThread, GhostExpression, Truth, Variable}
use Rattle.vf_meaning.specs.Assertions.{ShareTree, Times, Taken, Is, Names, Named, Applied, Assertion, Pure, Both, Chunk, ContractTree, BodyTree}

-- the predicate of a mutex and its predicate value
abbrev pub mutex_name : Identity
mutex_name = codes "<threading.h>#mutex"

-- the predicate of a held mutex
abbrev pub mutex_held_name : Identity
mutex_held_name = codes "<threading.h>#mutex_held"

-- the predicate by which a proof names the predicate value of the mutex that it creates next
abbrev pub create_mutex_ghost_arg_name : Identity
create_mutex_ghost_arg_name = codes "<threading.h>#create_mutex_ghost_arg"

-- the sort of predicate values without arguments
abbrev pub invariants : Sort
invariants = Predicates none

-- the share that stands where none is written
abbrev pub full : ShareTree
full = Times whole []

-- the name of a number, as an expression
abbrev pub name : ℕ → GhostExpression
name k = Variable (Numbered k)

-- `p()`, where the name of a number is a predicate value
abbrev pub invariant : ℕ → Assertion
invariant k = Chunk full (Applied (name k)) []

-- `predicate create_mutex_ghost_arg(predicate() p) = true;`
abbrev pub ghost_arg_body : BodyTree
ghost_arg_body = record { sorts = invariants ∷ []; parameters = 1; assertion = Pure (Truth true) }

-- `create_mutex`: requires create_mutex_ghost_arg(?p) &*& p(); ensures mutex(result, p)
abbrev pub creation : ContractTree
creation = record {
  sorts = invariants ∷ [];
  parameters = 0;
  result = Some Pointers;
  requires_this = Both (Chunk full (Named create_mutex_ghost_arg_name) (Names (Numbered 0) ∷ [])) (invariant 0);
  ensures_this = Chunk full (Named mutex_name) (Is (Variable Result) ∷ Is (name 0) ∷ []);
}

-- `mutex_acquire(m)`: requires [?f]mutex(m, ?p); ensures mutex_held(m, p, currentThread, f) &*& p()
abbrev pub acquisition : ContractTree
acquisition = record {
  sorts = Pointers ∷ Fractions ∷ invariants ∷ [];
  parameters = 1;
  result = None;
  requires_this = Chunk (Taken (Numbered 1)) (Named mutex_name) (Is (name 0) ∷ Names (Numbered 2) ∷ []);
  ensures_this = Both (Chunk full (Named mutex_held_name) (Is (name 0) ∷ Is (name 2) ∷ Is (Variable CurrentThread) ∷ Is (name 1) ∷ [])) (invariant 2);
}

-- `mutex_release(m)`: requires mutex_held(m, ?p, currentThread, ?f) &*& p(); ensures [f]mutex(m, p)
abbrev pub release : ContractTree
release = record {
  sorts = Pointers ∷ invariants ∷ Fractions ∷ [];
  parameters = 1;
  result = None;
  requires_this = Both (Chunk full (Named mutex_held_name) (Is (name 0) ∷ Names (Numbered 1) ∷ Is (Variable CurrentThread) ∷ Names (Numbered 2) ∷ [])) (invariant 1);
  ensures_this = Chunk (Times whole (Numbered 2 ∷ [])) (Named mutex_name) (Is (name 0) ∷ Is (name 1) ∷ []);
}

-- `mutex_dispose(m)`: requires mutex(m, ?p); ensures p()
abbrev pub disposal : ContractTree
disposal = record {
  sorts = Pointers ∷ invariants ∷ [];
  parameters = 1;
  result = None;
  requires_this = Chunk full (Named mutex_name) (Is (name 0) ∷ Names (Numbered 1) ∷ []);
  ensures_this = invariant 1;
}
