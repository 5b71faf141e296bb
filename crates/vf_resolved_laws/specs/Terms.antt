-- Which sorts terms have, by what is declared and the sorts of names.
use Rattle.std.specs.Prelude.{◌≡◌, ℕ, List, [], ◌∷◌, map}
use Rattle.vf_meaning.specs.Ghost.{Name}
use Rattle.vf_closure.specs.Terms.{Head, Symbol, Term, Terms, and_term, kind_of, no_terms, term}
use Rattle.vf_sorts.specs.declared.sort.Head.{Head as SortHead}
use Rattle.vf_sorts.specs.declared.sort.Head.TheVariants as heads
use Rattle.vf_sorts.specs.Sorts.{Sort, Sorts, and_sort, no_sorts, sort}
use Rattle.vf_sorts.specs.Unknowns.{Filling, filled, instance, leaf}
use Rattle.vf_sorting.specs.declared.scheme.Scheme.{Scheme}
use Rattle.vf_sorting.specs.Kinds.{pointer_sort, value_sort}
use Rattle.vf_terms.specs.Settings.{kind_of_sort}
use Rattle.vf_resolved_laws.specs.Heads.{HeadTakes, Vocabulary}

-- a head over parts, without what a pointer tells, and without parts where it takes none
abbrev pub bare_head : SortHead → Sorts → Sort
bare_head (heads.Pointer told) ts = pointer_sort
bare_head (heads.Datatype d) ts = sort (heads.Datatype d) ts
bare_head heads.Predicate ts = sort heads.Predicate ts
bare_head h ts = leaf h

abbrev mutual
  -- a sort without what pointers tell, in which datatypes and predicates alone have parts
  pub bare : Sort → Sort
  bare (sort h ts) = bare_head h (bare_all ts)

  -- the same of sorts in a row
  pub bare_all : Sorts → Sorts
  bare_all no_sorts = no_sorts
  bare_all (and_sort t ts) = and_sort (bare t) (bare_all ts)

-- two sorts are one for terms: every pointer has each sort of pointers
abbrev pub AreOne : Sort → Sort → Type 0
AreOne t u = bare t ≡ bare u

-- a sort of a scheme where it is used: unknown sorts from a number on stand for its type parameters, and something fills the unknown ones
abbrev pub used : Filling → ℕ → Scheme → Sort → Sort
used f first g t = filled f (instance first g.parameters t)

mutual
  -- A term has a sort: a symbol that of its name, and its kind; each other term that which its head gives, where its parts have the sorts that the head takes, and its kind; and each has the sort `any`
  pub data TermHasSort (d : Vocabulary) : Term → Sort → Type 0 where
    symbol : (x : Name) → TermHasSort d (term (Symbol (kind_of_sort (d.names x)) x) no_terms) (d.names x)
    applied : {h : Head} {ts : Terms} (g : Scheme) (f : Filling) (first : ℕ) → HeadTakes d h g → kind_of h ≡ kind_of_sort (used f first g g.result) → TermsHaveSorts d ts (map (used f first g) g.arguments) → TermHasSort d (term h ts) (used f first g g.result)
    of_any : {x : Term} {t : Sort} → TermHasSort d x t → TermHasSort d x value_sort
    as_one : {x : Term} {t u : Sort} → TermHasSort d x t → AreOne t u → TermHasSort d x u

  -- the same of terms in a row, one by one
  pub data TermsHaveSorts (d : Vocabulary) : Terms → List Sort → Type 0 where
    none_have : TermsHaveSorts d no_terms []
    one_has : {x : Term} {xs : Terms} {t : Sort} {ts : List Sort} → TermHasSort d x t → TermsHaveSorts d xs ts → TermsHaveSorts d (and_term x xs) (t ∷ ts)
