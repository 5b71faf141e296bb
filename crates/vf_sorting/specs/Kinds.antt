-- Kinds of sorts, and sorts as far as they are known.
use Rattle.std.specs.Prelude.{ℕ, Bool, true, false, ◌++◌, List, [], ◌∷◌, None, replicate, suc, zero}
use Rattle.vf_sorts.specs.declared.sort.Head.TheVariants as heads
use Rattle.vf_sorts.specs.Sorts.{Sort, sort, row}
use Rattle.vf_sorts.specs.Unknowns.{Known, by_known, filled, leaf}

-- integers of every size
abbrev pub int_sort : Sort
int_sort = leaf heads.Int

-- truth values
abbrev pub bool_sort : Sort
bool_sort = leaf heads.Bool

-- pointers that tell no struct
abbrev pub pointer_sort : Sort
pointer_sort = leaf (heads.Pointer None)

-- values of every sort
abbrev pub value_sort : Sort
value_sort = leaf heads.Any

-- it is a sort of pointers
abbrev pub is_pointer : Sort → Bool
is_pointer (sort (heads.Pointer told) ts) = true
is_pointer t = false

-- it is the sort of all values
abbrev pub is_any : Sort → Bool
is_any (sort heads.Any ts) = true
is_any t = false

-- it is a sort of predicates
abbrev pub is_predicate : Sort → Bool
is_predicate (sort heads.Predicate ts) = true
is_predicate t = false

-- a sort in which what is known stands for the unknown ones
abbrev pub resolved : Known → Sort → Sort
resolved k t = filled (by_known k) t

-- what is known with so many unknown sorts more
abbrev pub with_fresh : Known → ℕ → Known
with_fresh k n = k ++ replicate n None

-- the type parameters with numbers below a count
abbrev pub parameter_sorts : ℕ → List Sort
parameter_sorts zero = []
parameter_sorts (suc n) = parameter_sorts n ++ leaf (heads.Parameter n) ∷ []

-- a datatype at so many type parameters of its own
abbrev pub datatype_sort : ℕ → ℕ → Sort
datatype_sort d n = sort (heads.Datatype d) (row (parameter_sorts n))

-- predicates over arguments of these sorts
abbrev pub predicate_sort : List Sort → Sort
predicate_sort ss = sort heads.Predicate (row ss)
