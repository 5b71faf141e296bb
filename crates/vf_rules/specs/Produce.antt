-- Producing an assertion: what it says is added to a state, name by name and part by part, from left to right.
use Rattle.std.specs.Prelude.{◌≡◌, ◌⊎◌, ℕ, zero, suc, ◌<◌, pos, List, [], ◌∷◌, ◌++◌, ◌-◌, drop, map, length, slice_get, Option, Some, None}
use Rattle.std.specs.Bool.{MatchBool}
use Rattle.vf_tree.specs.Core.{Identity, TypeTree, ProgramTree, Equal, NotEqual, LessEqual}
use Rattle.vf_model.specs.Values.{Value, Values, same_identity}
use Rattle.vf_model.specs.Values as values
use Rattle.vf_meaning.specs.Ghost.{Sort, Integers, Pointers, Fractions, Anything, Predicates, none, Name, Numbered, Number, Null, Not, Compare, Construct, Fraction, Share}
use Rattle.vf_meaning.specs.Valuations.{Valuation}
use Rattle.vf_meaning.specs.Sorts.{HasSort}
use Rattle.vf_meaning.specs.Assertions.{ShareTree, Times, Taken, PatternTree, Is, Names, Wild, Head, BlockOf, Named, Family, Applied, Assertion, Pure, Empty, Both, Choose, Switch, Cell, Chunk, Branches, no_branches, branch, BodyName, Plain, Instance, BodyTree, Environment}
use Rattle.vf_meaning.specs.Chunks.{Primitive, Mutexes, HeldMutexes, Handles, IntBlocks, IntCells, Others, primitive}
use Rattle.vf_rules.specs.Terms.{Term, Store, term_of, stored, in_row, times_terms, head_of, IsBound, IsBoundHead, AreBound}
use Rattle.vf_rules.specs.States.{Fact, Holds, OfSort, CellOf, Of, SymbolicState, value_in, Meets, Infeasible, assuming, assuming_all, with_chunk}
use Rattle.vf_rules.specs.Fresh.{symbol, IsNew}
use Rattle.vf_rules.specs.Types.{type_of_field, facts_of_type}

-- the sort of a name, as a fact of its term
abbrev pub facts_of_sort : Option Sort → Term → List Fact
facts_of_sort None t = []
facts_of_sort (Some s) t = OfSort t s ∷ []

-- what is known of the term that a name gets: that it has the name's sort
abbrev pub facts_of_name : List Sort → Name → Term → List Fact
facts_of_name sorts (Numbered k) t = facts_of_sort (slice_get sorts k) t
facts_of_name sorts _ t = []

-- the same by which predicate of the prelude it is
abbrev pub valued_of : Primitive → ℕ → ℕ
valued_of IntCells n = 2
valued_of _ n = n

-- how many of a chunk's arguments always have a value: the list of a row of int cells has none where a cell is unset, and of a predicate value nothing is known
abbrev pub valued_arguments : Head → ℕ → ℕ
valued_arguments (BlockOf g) n = n
valued_arguments (Named q) n = valued_of (primitive q) n
valued_arguments (Family q x) n = n
valued_arguments (Applied x) n = 0

-- the argument of a number of a body is a parameter of that sort
abbrev pub HasBodySort : Environment → BodyName → ℕ → Sort → Type 0
HasBodySort e name k s = (body : BodyTree) → e.bodies name ≡ Some body → (k < body.parameters) × (slice_get body.sorts k ≡ Some s)

-- the sorts of the parameters of the prelude's predicates that have no body
abbrev pub primitive_sorts : Primitive → List Sort
primitive_sorts Mutexes = Pointers ∷ Predicates none ∷ []
primitive_sorts HeldMutexes = Pointers ∷ Predicates none ∷ Integers ∷ Fractions ∷ []
primitive_sorts Handles = Pointers ∷ Pointers ∷ Pointers ∷ Anything ∷ []
primitive_sorts IntBlocks = Pointers ∷ Integers ∷ []
primitive_sorts IntCells = Pointers ∷ Integers ∷ []
primitive_sorts Others = []

-- the argument of a number of a predicate is a parameter of that sort, by which predicate of the prelude it is, and else by its body
abbrev pub HasPredicateSort : Environment → Primitive → Identity → ℕ → Sort → Type 0
HasPredicateSort e Others q k s = HasBodySort e (Plain q) k s
HasPredicateSort e which q k s = slice_get (primitive_sorts which) k ≡ Some s

-- the argument of a number of a chunk is a parameter of that sort: of a family all bodies agree on it, and of a predicate value it is not known
abbrev pub HasArgumentSort : Environment → Head → ℕ → Sort → Type 0
HasArgumentSort e (BlockOf g) k s = slice_get (Pointers ∷ []) k ≡ Some s
HasArgumentSort e (Named q) k s = HasPredicateSort e (primitive q) q k s
HasArgumentSort e (Family q x) k s = (g : Identity) → HasBodySort e (Instance q g) k s
HasArgumentSort e (Applied x) k s = ⊥

-- of a cell's content, and of a constructor's arguments, the sort is not known by a parameter
abbrev pub NoArgumentSort : ℕ → Sort → Type 0
NoArgumentSort k s = ⊥

-- a sort that is taken for an argument's, if one is, is known to be the argument's
abbrev pub IsKnownSort : (Sort → Type 0) → Option Sort → Type 0
IsKnownSort Has None = Unit {0}
IsKnownSort Has (Some s) = Has s

-- the known terms among arguments
abbrev pub known : List (Option Term) → List Term
known [] = []
known (Some t ∷ ts) = t ∷ known ts
known (None ∷ ts) = known ts

-- values have the sorts of the names that they are for, one by one
abbrev pub NamesHaveSorts : Environment → List Sort → List Name → Values → Type 0
NamesHaveSorts e sorts [] values.none = Unit {0}
NamesHaveSorts e sorts (x ∷ xs) (values.more w ws) = ((k : ℕ) (s : Sort) → x ≡ Numbered k → slice_get sorts k ≡ Some s → HasSort e w s) × NamesHaveSorts e sorts xs ws
NamesHaveSorts e sorts _ _ = ⊥

-- a value was made with a constructor of the branches, and its arguments are as many as that branch has names, and of their sorts
abbrev pub IsCovered : Environment → List Sort → Branches → Value → Type 0
IsCovered e sorts no_branches w = ⊥
IsCovered e sorts (branch c xs a rest) (values.Constructed d ws) = MatchBool (same_identity c d) (NamesHaveSorts e sorts xs ws) (IsCovered e sorts rest (values.Constructed d ws))
IsCovered e sorts (branch c xs a rest) _ = ⊥

-- on a path a term's value is one of those that the branches have
pub record Covers (e : Environment) (sorts : List Sort) (path : List Fact) (t : Term) (branches : Branches) : Type 0 where
  pub by : (v : Valuation) → Meets e v path → IsCovered e sorts branches (value_in e v t)

-- what is known of the pointer and the content of a cell that is owned
abbrev pub facts_of_cell : Option TypeTree → List (Option Term) → List Fact
facts_of_cell (Some t) (Some pointer ∷ Some content ∷ []) = Holds (Compare NotEqual pointer Null) ∷ facts_of_type t content
facts_of_cell _ (Some pointer ∷ content) = Holds (Compare NotEqual pointer Null) ∷ []
facts_of_cell _ _ = []

-- what is known of the arguments of a chunk of the prelude's: the length of a row of int cells is a number that is not negative
abbrev pub facts_of_row : Primitive → List (Option Term) → List Fact
facts_of_row IntCells (pointer ∷ Some long ∷ content) = OfSort long Integers ∷ Holds (Compare LessEqual (Number (pos 0)) long) ∷ []
facts_of_row _ _ = []

-- what is known of the arguments of a chunk with a head
abbrev pub facts_of_chunk : Head → List (Option Term) → List Fact
facts_of_chunk (Named q) ts = facts_of_row (primitive q) ts
facts_of_chunk _ ts = []

module _ (e : Environment) (p : ProgramTree) (sorts : List Sort) (scale : Term) where
  -- what is to be shown once a fact is assumed: a state that cannot be may be dropped
  abbrev pub Given : SymbolicState → Fact → (SymbolicState → Type 0) → Type 0
  Given st f K = Infeasible e (st.path ++ f ∷ []) ⊎ K (assuming st f)

  -- the arguments that patterns stand for, n of them being sure to have a value, and `Has` saying which sorts each has as a parameter: an expression is its term, and a name, or what may be anything, a new symbol, of the name's or the parameter's sort
  abbrev pub ProducePatterns : (ℕ → Sort → Type 0) → ℕ → List PatternTree → Store → SymbolicState → List (Option Term) → (List (Option Term) → Store → SymbolicState → Type 0) → Type 0
  ProducePatterns Has n [] s st ts K = K ts s st
  ProducePatterns Has n (Is x ∷ ps) s st ts K = IsBound s x × ProducePatterns (λ k. Has (suc k)) (n - 1) ps s st (ts ++ Some (term_of s x) ∷ []) K
  ProducePatterns Has n (Names x ∷ ps) s st ts K =
      (y : ℕ) × IsNew y scale s ts st × (s x ≡ None)
      × ProducePatterns (λ k. Has (suc k)) (n - 1) ps (stored s x (symbol y)) (assuming_all st (facts_of_name sorts x (symbol y))) (ts ++ Some (symbol y) ∷ []) K
  ProducePatterns Has zero (Wild ∷ ps) s st ts K = ProducePatterns (λ k. Has (suc k)) zero ps s st (ts ++ None ∷ []) K
  ProducePatterns Has (suc n) (Wild ∷ ps) s st ts K =
      (y : ℕ) × IsNew y scale s ts st × (sort : Option Sort) × IsKnownSort (Has 0) sort
      × ProducePatterns (λ k. Has (suc k)) n ps s (assuming_all st (facts_of_sort sort (symbol y))) (ts ++ Some (symbol y) ∷ []) K

  -- the share of a chunk: the written one times the scale, or a new symbol for a name
  abbrev pub ProduceShare : ShareTree → Store → SymbolicState → (Term → Store → SymbolicState → Type 0) → Type 0
  ProduceShare (Times d ys) s st K = AreBound s ys × K (Share scale (times_terms s (Fraction d) ys)) s st
  ProduceShare (Taken x) s st K =
      (y : ℕ) × IsNew y scale s [] st × (s x ≡ None) × K (Share scale (symbol y)) (stored s x (symbol y)) (assuming_all st (OfSort (symbol y) Fractions ∷ []))

  abbrev mutual
    -- what is to hold where an assertion has been produced, with the store and the state that then stand
    pub Produce : Assertion → Store → SymbolicState → (Store → SymbolicState → Type 0) → Type 0
    Produce (Pure x) s st K = IsBound s x × Given st (Holds (term_of s x)) (K s)
    Produce Empty s st K = K s st
    Produce (Both a b) s st K = Produce a s st (λ s1 st1. Produce b s1 st1 K)
    Produce (Choose x a b) s st K =
        IsBound s x
        × Given st (Holds (term_of s x)) (λ st1. Produce a s st1 (λ s2 st2. K s st2))
        × Given st (Holds (Not (term_of s x))) (λ st1. Produce b s st1 (λ s2 st2. K s st2))
    Produce (Switch x branches) s st K = IsBound s x × Covers e sorts st.path (term_of s x) branches × ProduceBranches branches (term_of s x) s st K
    Produce (Cell share pointer f x) s st K =
        IsBound s pointer
        × ProduceShare share s st (λ c s1 st1. ProducePatterns NoArgumentSort 0 (x ∷ []) s1 st1 (Some c ∷ Some (term_of s pointer) ∷ []) (λ ts s2 st2.
        K s2 (assuming_all (with_chunk st2 (record { share = c; head = CellOf f; arguments = drop 1 ts })) (facts_of_cell (type_of_field p f.structure f.index) (drop 1 ts)))))
    Produce (Chunk share head xs) s st K =
        IsBoundHead s head
        × ProduceShare share s st (λ c s1 st1. ProducePatterns (HasArgumentSort e head) (valued_arguments head (length xs)) xs s1 st1 (Some c ∷ []) (λ ts s2 st2.
        K s2 (assuming_all (with_chunk st2 (record { share = c; head = Of (head_of s head); arguments = drop 1 ts })) (facts_of_chunk head (drop 1 ts)))))

    -- each branch with new symbols for its names, of which the term is the constructor's
    pub ProduceBranches : Branches → Term → Store → SymbolicState → (Store → SymbolicState → Type 0) → Type 0
    ProduceBranches no_branches t s st K = Unit {0}
    ProduceBranches (branch c xs a rest) t s st K =
        ProducePatterns NoArgumentSort 0 (map (λ x. Names x) xs) s st (Some t ∷ []) (λ ts s1 st1.
        Given st1 (Holds (Compare Equal t (Construct c (in_row (known (drop 1 ts)))))) (λ st2. Produce a s1 st2 (λ s3 st3. K s st3)))
        × ProduceBranches rest t s st K
