-- That two terms are equal: as a literal, as a question, and as a fact.
use Rattle.std.specs.Prelude.{Bool, true, false, ◌&&◌, cond, List, [], ◌∷◌, Result, Ok}
use Rattle.std.specs.Ordering.{is_eq}
use Rattle.vf_base.specs.declared.place.Place.{Place}
use Rattle.vf_base.specs.declared.refusal.Refusal.{Refusal}
use Rattle.vf_tree.specs.Core.{Equal}
use Rattle.vf_closure.specs.Terms.{Term}
use Rattle.vf_closure.specs.Literals.{Literal}
use Rattle.vf_closure.specs.Literals as literals
use Rattle.vf_normal.specs.Order.{compare}
use Rattle.vf_normal.specs.NormalForms.{IsNormal}
use Rattle.vf_normal.specs.Comparisons.{literal_of}
use Rattle.vf_question.specs.Plain.{IsPlain}
use Rattle.vf_asking.specs.Plain.{is_integer}
use Rattle.vf_asking.specs.Course.{Course, done, try, asked, pushed}

-- a term can be asked about: it is in normal form, and its numbers are within 2^100
pub record CanBeCompared (t : Term) : Type 0 where
  pub normal : IsNormal t
  pub plain : IsPlain t

-- each of some terms can be asked about
abbrev pub AllCanBeCompared : List Term → Type 0
AllCanBeCompared [] = Unit {0}
AllCanBeCompared (t ∷ ts) = CanBeCompared t × AllCanBeCompared ts

-- whether two terms in normal form are one
abbrev pub are_one : Term → Term → Bool
are_one a b = is_eq (compare a b)

-- the literal that two terms are equal: of integer terms it is the comparison's
abbrev pub equality : Term → Term → Literal
equality a b = cond (is_integer a && is_integer b) (literal_of Equal a b) (literals.Equal a b)

-- whether two terms are equal: those of one normal form are without a question
unfoldable pub equal : Place → List Literal → Term → Term → Course (Result Bool Refusal)
equal place path a b = cond (are_one a b) (done (Ok true)) (asked place path (equality a b))

-- whether terms are equal one by one, asked from the left up to the first pair that is not; rows of different lengths are not
unfoldable pub all_equal : Place → List Literal → List Term → List Term → Course (Result Bool Refusal)
all_equal place path [] [] = done (Ok true)
all_equal place path (a ∷ xs) (b ∷ ys) = try (equal place path a b) (λ yes. cond yes (all_equal place path xs ys) (done (Ok false)))
all_equal place path _ _ = done (Ok false)

-- the path with the fact that two terms are equal
abbrev pub learned : Place → List Literal → Term → Term → Course (Result (List Literal) Refusal)
learned place path a b = pushed place path (equality a b)
