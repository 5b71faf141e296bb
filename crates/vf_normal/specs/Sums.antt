-- Linear sums over atoms.
use Rattle.std.specs.Prelude.{ℤ, pos, ◌+ℤ◌, ◌*ℤ◌, neg_ℤ, ◌^◌, Bool, true, ◌&&◌, cond, int_le, List, [], ◌∷◌, Option, Some, None}
use Rattle.std.specs.declared.cmp.Ordering.{Ordering}
use Rattle.std.specs.Ordering.{int_eq}
use Rattle.std.specs.declared.cmp.Ordering.TheVariants as order
use Rattle.vf_tree.specs.Core.{ArithmeticOperator, Add, Subtract, Multiply, Divide, Remainder}
use Rattle.vf_meaning.specs.GhostValues.{computed}
use Rattle.vf_closure.specs.Terms.{Kind, Integer, Other, Number, Sum, Plus, Arithmetic, Term, Terms, term, no_terms, and_term, kind_of, number, plus}
use Rattle.vf_normal.specs.Order.{compare}

-- an atom of a sum, with its factor
pub record Weighted : Type 0 where
  pub factor : ℤ
  pub atom : Term

-- a sum: its atoms with their factors, and a number
pub record Linear : Type 0 where
  pub atoms : List Weighted
  pub number : ℤ

-- a number is within plus and minus 2^90
abbrev pub is_small : ℤ → Bool
is_small z = int_le (neg_ℤ (pos (2 ^ 90))) z && int_le z (pos (2 ^ 90))

-- each factor is within these bounds
abbrev pub are_small : List Weighted → Bool
are_small [] = true
are_small (w ∷ ws) = is_small w.factor && are_small ws

-- a sum's factors and its number are within plus and minus 2^90
abbrev pub fits : Linear → Bool
fits f = are_small f.atoms && is_small f.number

-- an atom in front of others, left out where its factor is 0
abbrev pub put : ℤ → Term → List Weighted → List Weighted
put k a ws = cond (int_eq k (pos 0)) ws (record { factor = k; atom = a } ∷ ws)

-- an atom times a factor beside the first of the atoms, by their order: before it, together with it, or behind it among the others, which stand here with it
abbrev pub placed : ℤ → Term → Weighted → List Weighted → List Weighted → Ordering → List Weighted
placed k a w ws behind order.Less = put k a (w ∷ ws)
placed k a w ws behind order.Equal = put (k +ℤ w.factor) a ws
placed k a w ws behind order.Greater = w ∷ behind

-- the atoms, in their order, with an atom more times a factor: what it has already is added to, and a factor 0 is left out
abbrev pub with_atom : ℤ → Term → List Weighted → List Weighted
with_atom k a [] = put k a []
with_atom k a (w ∷ ws) = placed k a w ws (with_atom k a ws) (compare a w.atom)

-- the atoms of two sums together
abbrev pub together : List Weighted → List Weighted → List Weighted
together [] ws = ws
together (v ∷ vs) ws = with_atom v.factor v.atom (together vs ws)

-- atoms, each with a number times its factor
abbrev pub times_each : ℤ → List Weighted → List Weighted
times_each k [] = []
times_each k (w ∷ ws) = put (k *ℤ w.factor) w.atom (times_each k ws)

-- the sum of two sums
abbrev pub added : Linear → Linear → Linear
added f g = record { atoms = together f.atoms g.atoms; number = f.number +ℤ g.number }

-- a number times a sum
abbrev pub scaled : ℤ → Linear → Linear
scaled k f = record { atoms = times_each k f.atoms; number = k *ℤ f.number }

-- the sum that is a number alone
abbrev pub constant : ℤ → Linear
constant z = record { atoms = []; number = z }

-- the product of two sums as a sum, where one of them is a number; their atoms stand beside them
abbrev pub product_of : List Weighted → List Weighted → Linear → Linear → Option Linear
product_of [] vs f g = Some (scaled f.number g)
product_of (w ∷ ws) [] f g = Some (scaled g.number f)
product_of (w ∷ ws) (v ∷ vs) f g = None

-- a quotient or remainder of two sums as a sum, where both are numbers; their atoms stand beside them
abbrev pub quotient_of : ArithmeticOperator → List Weighted → List Weighted → Linear → Linear → Option Linear
quotient_of op [] [] f g = Some (constant (computed op f.number g.number))
quotient_of op [] (v ∷ vs) f g = None
quotient_of op (w ∷ ws) vs f g = None

-- what an operator makes of two sums, where it is a sum: products of two sums with atoms are none, nor are quotients and remainders where there is an atom
abbrev pub combined : ArithmeticOperator → Linear → Linear → Option Linear
combined Add f g = Some (added f g)
combined Subtract f g = Some (added f (scaled (neg_ℤ (pos 1)) g))
combined Multiply f g = product_of f.atoms g.atoms f g
combined Divide f g = quotient_of Divide f.atoms g.atoms f g
combined Remainder f g = quotient_of Remainder f.atoms g.atoms f g

-- ---- terms as sums
-- factors and terms in a row, one by one
abbrev pub paired : List ℤ → Terms → List Weighted
paired (k ∷ ks) (and_term t ts) = record { factor = k; atom = t } ∷ paired ks ts
paired _ _ = []

-- a term that is one atom
abbrev pub one_atom : Term → List Weighted
one_atom t = record { factor = pos 1; atom = t } ∷ []

-- the number that a term is, if it is one
abbrev pub number_in : Term → Option ℤ
number_in (term (Number z) ts) = Some z
number_in _ = None

-- the atoms of a sum without a number
abbrev pub atoms_of : Term → List Weighted
atoms_of (term (Sum factors) ts) = paired factors ts
atoms_of t = one_atom t

-- a sum and a number as a linear sum; anything else in its place is one atom
abbrev pub plus_form : Term → Term → Option ℤ → Linear
plus_form q c (Some z) = record { atoms = atoms_of q; number = z }
plus_form q c None = record { atoms = one_atom (term Plus (and_term q (and_term c no_terms))); number = pos 0 }

-- a term in normal form as a linear sum: a number, a sum, a sum and a number, or one atom
abbrev pub form_of : Term → Linear
form_of (term (Number z) ts) = constant z
form_of (term (Sum factors) ts) = record { atoms = paired factors ts; number = pos 0 }
form_of (term Plus (and_term q (and_term c no_terms))) = plus_form q c (number_in c)
form_of t = record { atoms = one_atom t; number = pos 0 }

-- the factors of atoms
abbrev pub factors_of : List Weighted → List ℤ
factors_of [] = []
factors_of (w ∷ ws) = w.factor ∷ factors_of ws

-- the terms of atoms, in a row
abbrev pub row_of : List Weighted → Terms
row_of [] = no_terms
row_of (w ∷ ws) = and_term w.atom (row_of ws)

-- a term of a kind as an integer term: itself where it is one, and else the sum of it alone
abbrev pub integer_by : Kind → Term → Term
integer_by Integer t = t
integer_by Other t = term (Sum (pos 1 ∷ [])) (and_term t no_terms)

-- a term as an integer term
abbrev pub as_integer : Term → Term
as_integer (term h ts) = integer_by (kind_of h) (term h ts)

-- atoms added up: none is 0, and one with factor 1 is that atom itself
abbrev pub sum_of : List Weighted → Term
sum_of [] = number (pos 0)
sum_of (w ∷ []) = cond (int_eq w.factor (pos 1)) (as_integer w.atom) (term (Sum (w.factor ∷ [])) (and_term w.atom no_terms))
sum_of (w ∷ v ∷ ws) = term (Sum (factors_of (w ∷ v ∷ ws))) (row_of (w ∷ v ∷ ws))

-- atoms and a number added up: the number stands last, and is left out where it is 0
abbrev pub total_of : List Weighted → ℤ → Term
total_of [] z = number z
total_of (w ∷ ws) z = cond (int_eq z (pos 0)) (sum_of (w ∷ ws)) (plus (sum_of (w ∷ ws)) z)

-- a linear sum as a term
abbrev pub term_of : Linear → Term
term_of f = total_of f.atoms f.number

-- an operation on two terms that stays as it is
abbrev pub operation : ArithmeticOperator → Term → Term → Term
operation op a b = term (Arithmetic op) (and_term a (and_term b no_terms))

-- a sum that an operation has come to, where its factors and its number fit; else the operation stays an atom
abbrev pub folded : ArithmeticOperator → Term → Term → Option Linear → Term
folded op a b (Some f) = cond (fits f) (term_of f) (operation op a b)
folded op a b None = operation op a b

-- the normal form of an operation on two terms that have theirs
abbrev pub calculated : ArithmeticOperator → Term → Term → Term
calculated op a b = folded op a b (combined op (form_of a) (form_of b))
