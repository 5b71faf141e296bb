-- Which values a sort has, and valuations that give each name a value of its sort.
use Rattle.std.specs.Prelude.{◌≡◌, ℕ, List, [], ◌∷◌, ◌++◌, map, drop, slice_get, Option, Some, None, ◌⊎◌}
use Rattle.vf_tree.specs.Core.{Identity}
use Rattle.vf_model.specs.Values.{Value, Values, none, more}
use Rattle.vf_model.specs.Values as values
use Rattle.vf_meaning.specs.Fractions.{IsPositive}
use Rattle.vf_meaning.specs.Ghost.{Sort, Integers, Truths, Pointers, Fractions, Anything, Datatype, Predicates, Sorts, listed, count_sorts, instance_of, Numbered, ConstructorTree}
use Rattle.vf_meaning.specs.Valuations.{Valuation, count}
use Rattle.vf_meaning.specs.Assertions.{PredicateTree, Environment}

-- a sort has the terms of a constructor: it is the constructor's datatype, at as many sorts as that has type parameters, or any sort
abbrev pub IsDatatypeOf : Option ConstructorTree → Sort → Type 0
IsDatatypeOf (Some c) (Datatype d ts) = (c.datatype ≡ d) × (count_sorts ts ≡ c.parameters)
IsDatatypeOf (Some c) Anything = Unit {0}
IsDatatypeOf _ _ = ⊥

-- the arguments of a constructor have the sorts that are given, where its term is of a sort: the declared ones with the datatype's sorts for its type parameters, and with some sorts for them where the term is of any sort
abbrev pub ArgumentsAre : Option ConstructorTree → Sort → List Sort → Type 0
ArgumentsAre (Some c) (Datatype d ts) sorts = map (instance_of ts) c.arguments ≡ sorts
ArgumentsAre (Some c) Anything sorts = (ts : Sorts) × (count_sorts ts ≡ c.parameters) × (map (instance_of ts) c.arguments ≡ sorts)
ArgumentsAre _ _ sorts = ⊥

-- the identity that no declaration has
abbrev pub undeclared : Identity
undeclared = []

-- the sorts of all arguments that a predicate is declared with, those of a constructor first
abbrev pub AreDeclaredWith : Option PredicateTree → List Sort → Type 0
AreDeclaredWith None sorts = ⊥
AreDeclaredWith (Some p) sorts = p.first ++ p.others ≡ sorts

-- The arguments of a predicate have the sorts that are given: those that it is declared with, and any where it is the one without a declaration, which nothing satisfies, so that each sort of predicates has a value
abbrev pub ParametersAre : Identity → Option PredicateTree → List Sort → Type 0
ParametersAre p declaration sorts = (p ≡ undeclared) ⊎ AreDeclaredWith declaration sorts

-- a sort has the predicate values with n first arguments: it is that of predicates over the other arguments, or any sort
abbrev pub IsPredicateSort : List Sort → ℕ → Sort → Type 0
IsPredicateSort sorts n (Predicates others) = drop n sorts ≡ listed others
IsPredicateSort sorts n Anything = Unit {0}
IsPredicateSort sorts n _ = ⊥

-- Where a sort is one of some or any sort
abbrev pub IsOrAny : Sort → Sort → Type 0
IsOrAny s t = (t ≡ s) ⊎ (t ≡ Anything)

-- A value is of a sort. Every pointer and every function is of the sort of pointers, a fraction is positive, and each value that is of a sort is of any sort
abbrev mutual
  pub HasSort : Environment → Value → Sort → Type 0
  HasSort e (values.Number z) s = IsOrAny Integers s
  HasSort e (values.Truth b) s = IsOrAny Truths s
  HasSort e values.Null s = IsOrAny Pointers s
  HasSort e (values.Pointer b o) s = IsOrAny Pointers s
  HasSort e (values.Function g) s = IsOrAny Pointers s
  HasSort e (values.Constructed c vs) s = IsDatatypeOf (e.constructors c) s × ((sorts : List Sort) × ArgumentsAre (e.constructors c) s sorts × HaveSorts e vs sorts)
  HasSort e (values.Predicate p vs) s = (sorts : List Sort) × ParametersAre p (e.predicates p) sorts × IsPredicateSort sorts (count vs) s × HaveFirst e vs sorts
  HasSort e (values.Fraction d) s = IsOrAny Fractions s × IsPositive d

  -- values are of sorts, one by one
  pub HaveSorts : Environment → Values → List Sort → Type 0
  HaveSorts e none [] = Unit {0}
  HaveSorts e (more v vs) (s ∷ sorts) = HasSort e v s × HaveSorts e vs sorts
  HaveSorts e _ _ = ⊥

  -- values are of the first of some sorts, one by one
  pub HaveFirst : Environment → Values → List Sort → Type 0
  HaveFirst e none sorts = Unit {0}
  HaveFirst e (more v vs) (s ∷ sorts) = HasSort e v s × HaveFirst e vs sorts
  HaveFirst e _ _ = ⊥

-- a valuation gives each numbered name a value of its sort
abbrev pub AreOfSorts : Environment → Valuation → List Sort → Type 0
AreOfSorts e v sorts = (k : ℕ) (s : Sort) → slice_get sorts k ≡ Some s → HasSort e (v (Numbered k)) s
