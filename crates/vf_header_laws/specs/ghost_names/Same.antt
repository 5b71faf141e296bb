-- When a header shows the same names of annotations in two units: the numbers of what they mean may differ, and names tell which is which.
use Rattle.std.specs.Prelude.{◌≡◌, ℕ, true, List, None, Some, slice_get}
use Rattle.vf_sorts.specs.declared.sort.Head.{Head}
use Rattle.vf_sorts.specs.declared.sort.Head.TheVariants as heads
use Rattle.vf_sorts.specs.Sorts.{Sort, Sorts, sort, no_sorts, and_sort}
use Rattle.vf_declared.specs.declared.declaration.Constructor.{Constructor}
use Rattle.vf_declared.specs.declared.declaration.Datatype.{Datatype}
use Rattle.vf_declared.specs.declared.declaration.Family.{Family}
use Rattle.vf_declared.specs.declared.declaration.Fixpoint.{Fixpoint}
use Rattle.vf_declared.specs.declared.declaration.GhostDeclaration.{GhostDeclaration}
use Rattle.vf_declared.specs.declared.declaration.GhostDeclaration.TheVariants as ghosts
use Rattle.vf_declared.specs.declared.declaration.Lemma.{Lemma}
use Rattle.vf_declared.specs.declared.declaration.PredicateConstructor.{PredicateConstructor}
use Rattle.vf_declared.specs.declared.scope.Scope.{Scope}
use Rattle.vf_declared.specs.Scopes.{datatype_of, ghost_of}
use Rattle.vf_header_laws.specs.c_names.Parts.{is_part_of}
use Rattle.vf_header_laws.specs.c_names.Same.{AreOneStruct, Both, Each}
use Rattle.vf_header_laws.specs.ghost_names.Meaning.{ghost_at, MeansDatatype}

-- in a header one name means this of annotations in the first unit and that in the second
pub record AreOneGhost (header : ℕ) (s t : Scope) (n m : ℕ) : Type 0 where
  pub name : List ℕ
  pub first : ghost_at s name header ≡ Some n
  pub second : ghost_at t name header ≡ Some m

-- in a header one name is that of a datatype of the first unit and of one of the second
pub record AreOneDatatype (header : ℕ) (s t : Scope) (n m : ℕ) : Type 0 where
  pub name : List ℕ
  pub first : MeansDatatype s name header n
  pub second : MeansDatatype t name header m

-- what stands above the parts of a sort is the same in both units, in the names of a header; no sort is unknown
pub data AreOneHead (header : ℕ) (s t : Scope) : Head → Head → Type 0 where
  int : AreOneHead header s t heads.Int heads.Int
  bool : AreOneHead header s t heads.Bool heads.Bool
  pointer : AreOneHead header s t (heads.Pointer None) (heads.Pointer None)
  struct_pointer : {n m : ℕ} → AreOneStruct header s t n m → AreOneHead header s t (heads.Pointer (Some n)) (heads.Pointer (Some m))
  real : AreOneHead header s t heads.Real heads.Real
  any : AreOneHead header s t heads.Any heads.Any
  parameter : {i : ℕ} → AreOneHead header s t (heads.Parameter i) (heads.Parameter i)
  datatype : {n m : ℕ} → AreOneDatatype header s t n m → AreOneHead header s t (heads.Datatype n) (heads.Datatype m)
  predicate : AreOneHead header s t heads.Predicate heads.Predicate

mutual
  -- a sort of the first unit and one of the second are the same, in the names of a header
  pub data AreOneSort (header : ℕ) (s t : Scope) : Sort → Sort → Type 0 where
    over : {h g : Head} {ts us : Sorts} → AreOneHead header s t h g → AreOneRow header s t ts us → AreOneSort header s t (sort h ts) (sort g us)

  -- and so are sorts in a row
  pub data AreOneRow (header : ℕ) (s t : Scope) : Sorts → Sorts → Type 0 where
    no_more : AreOneRow header s t no_sorts no_sorts
    and_one : {t₁ t₂ : Sort} {ts us : Sorts} → AreOneSort header s t t₁ t₂ → AreOneRow header s t ts us → AreOneRow header s t (and_sort t₁ ts) (and_sort t₂ us)

-- sorts one after the other are the same in both units
abbrev pub AreOneSorts : ℕ → Scope → Scope → List Sort → List Sort → Type 0
AreOneSorts header s t ts us = Each (AreOneSort header s t) ts us

-- two datatypes have as many type parameters, and in order the same constructors, each by a name of the header
pub record HaveTheSameConstructors (header : ℕ) (s t : Scope) (x y : Datatype) : Type 0 where
  pub parameters : x.parameters ≡ y.parameters
  pub constructors : Each (AreOneGhost header s t) x.constructors y.constructors

-- annotations declare the same in both units: things of one kind, over the same sorts, with as many type parameters
pub data DeclareTheSame (header : ℕ) (s t : Scope) : GhostDeclaration → GhostDeclaration → Type 0 where
  datatypes : {n m : ℕ} {x y : Datatype} → datatype_of s n ≡ Some x → datatype_of t m ≡ Some y → HaveTheSameConstructors header s t x y → DeclareTheSame header s t (ghosts.Datatype n) (ghosts.Datatype m)
  constructors : {x y : Constructor} → AreOneDatatype header s t x.datatype y.datatype → AreOneSorts header s t x.arguments y.arguments → DeclareTheSame header s t (ghosts.Constructor x) (ghosts.Constructor y)
  fixpoints : {x y : Fixpoint} → x.parameters ≡ y.parameters → AreOneSorts header s t x.arguments y.arguments → AreOneSort header s t x.«result» y.«result» → DeclareTheSame header s t (ghosts.Fixpoint x) (ghosts.Fixpoint y)
  predicates : {ts us : List Sort} → AreOneSorts header s t ts us → DeclareTheSame header s t (ghosts.Predicate ts) (ghosts.Predicate us)
  families : {x y : Family} → AreOneSort header s t x.index y.index → AreOneSorts header s t x.arguments y.arguments → DeclareTheSame header s t (ghosts.Family x) (ghosts.Family y)
  predicate_constructors : {x y : PredicateConstructor} → AreOneSorts header s t x.first y.first → AreOneSorts header s t x.second y.second → DeclareTheSame header s t (ghosts.PredicateConstructor x) (ghosts.PredicateConstructor y)
  lemmas : {x y : Lemma} → x.parameters ≡ y.parameters → AreOneSorts header s t x.arguments y.arguments → DeclareTheSame header s t (ghosts.Lemma x) (ghosts.Lemma y)

-- numbers of two units stand for declarations of annotations that are the same
pub record StandForTheSame (header : ℕ) (s t : Scope) (n m : ℕ) : Type 0 where
  pub first : GhostDeclaration
  pub second : GhostDeclaration
  pub at_first : ghost_of s n ≡ Some first
  pub at_second : ghost_of t m ≡ Some second
  pub same : DeclareTheSame header s t first second

-- a header consists of the same files in two units, and in each of them every name that means something of annotations in one unit means the same in the other
pub record ShowTheSameGhosts (header : ℕ) (s t : Scope) : Type 0 where
  pub files : (file : ℕ) → is_part_of s header file ≡ true → slice_get s.headers file ≡ slice_get t.headers file
  pub names : (file : ℕ) (name : List ℕ) → is_part_of s header file ≡ true → Both (StandForTheSame header s t) (ghost_at s name file) (ghost_at t name file)
