-- The order of terms: by variant, then by name, then by parts.
use Rattle.std.specs.Prelude.{ℕ, ℤ, pos, Bool, true, false, List, [], ◌∷◌, map}
use Rattle.std.specs.declared.cmp.Ordering.{Ordering}
use Rattle.std.specs.Ordering.{nat_cmp, int_cmp, ordering_then, then_cmp, on}
use Rattle.std.specs.declared.cmp.Ordering.TheVariants as order
use Rattle.std.specs.Cmp.Lexicographic.{slice_cmp}
use Rattle.vf_tree.specs.Core.{ArithmeticOperator, Add, Subtract, Multiply, Divide, Remainder, Comparison, Equal, NotEqual, Less, LessEqual, Greater, GreaterEqual}
use Rattle.vf_model.specs.Values.{Dyadic, Whole, Odd}
use Rattle.vf_meaning.specs.Ghost.{Name, Numbered, Result, This, CurrentThread}
use Rattle.vf_closure.specs.Terms.{Kind, Integer, Other, Head, Symbol, Number, Truth, Null, Function, Constructor, Fixpoint, Claims, Predicate, Share, Sum, Plus, Arithmetic, Compare, Not, And, Or, Choose, PointerSum, Term, Terms, term, no_terms, and_term, kind_of}

-- the place of a head's variant among all variants: symbols come first
abbrev pub variant : Head → ℕ
variant (Symbol k x) = 0
variant (Number z) = 1
variant (Truth b) = 2
variant Null = 3
variant (Function g) = 4
variant (Constructor c) = 5
variant (Fixpoint k f) = 6
variant (Claims t) = 7
variant (Predicate p) = 8
variant (Share x) = 9
variant (Sum factors) = 10
variant Plus = 11
variant (Arithmetic op) = 12
variant (Compare op) = 13
variant Not = 14
variant And = 15
variant Or = 16
variant (Choose k) = 17
variant PointerSum = 18

-- a symbol's name as numbers: by number, and the three names that contracts have after these
abbrev pub symbol_numbers : Name → List ℤ
symbol_numbers (Numbered i) = pos 0 ∷ pos i ∷ []
symbol_numbers Result = pos 1 ∷ []
symbol_numbers This = pos 2 ∷ []
symbol_numbers CurrentThread = pos 3 ∷ []

-- a fraction as numbers: the whole ones first
abbrev pub fraction_numbers : Dyadic → List ℤ
fraction_numbers (Whole k) = pos 0 ∷ pos k ∷ []
fraction_numbers (Odd j m) = pos 1 ∷ pos m ∷ pos j ∷ []

-- false stands before true
abbrev pub truth_number : Bool → ℤ
truth_number false = pos 0
truth_number true = pos 1

-- the place of an operator among the operators
abbrev pub operator_number : ArithmeticOperator → ℤ
operator_number Add = pos 0
operator_number Subtract = pos 1
operator_number Multiply = pos 2
operator_number Divide = pos 3
operator_number Remainder = pos 4

-- the place of a comparison among the comparisons
abbrev pub comparison_number : Comparison → ℤ
comparison_number Equal = pos 0
comparison_number NotEqual = pos 1
comparison_number Less = pos 2
comparison_number LessEqual = pos 3
comparison_number Greater = pos 4
comparison_number GreaterEqual = pos 5

-- the name or number of a head, as numbers
abbrev pub name_numbers : Head → List ℤ
name_numbers (Symbol k x) = symbol_numbers x
name_numbers (Number z) = z ∷ []
name_numbers (Truth b) = truth_number b ∷ []
name_numbers Null = []
name_numbers (Function g) = map pos g
name_numbers (Constructor c) = map pos c
name_numbers (Fixpoint k f) = map pos f
name_numbers (Claims t) = map pos t
name_numbers (Predicate p) = map pos p
name_numbers (Share x) = fraction_numbers x
name_numbers (Sum factors) = factors
name_numbers Plus = []
name_numbers (Arithmetic op) = operator_number op ∷ []
name_numbers (Compare op) = comparison_number op ∷ []
name_numbers Not = []
name_numbers And = []
name_numbers Or = []
name_numbers (Choose k) = []
name_numbers PointerSum = []

-- integer terms stand before the others of one name
abbrev pub kind_number : Kind → ℕ
kind_number Integer = 0
kind_number Other = 1

-- the kind of a head, as a number
abbrev pub kind_place : Head → ℕ
kind_place h = kind_number (kind_of h)

-- Heads are ordered by variant, then by name or number, as rows of numbers are ordered, and then by kind
abbrev pub compare_heads : Head → Head → Ordering
compare_heads = then_cmp (on variant nat_cmp) (then_cmp (on name_numbers (slice_cmp int_cmp)) (on kind_place nat_cmp))

-- terms are ordered by their heads, and then by their parts
abbrev mutual
  pub compare : Term → Term → Ordering
  compare (term h ts) (term k us) = ordering_then (compare_heads h k) (compare_rows ts us)

  -- rows of terms are ordered by the first place at which they differ; a row that goes on comes later
  pub compare_rows : Terms → Terms → Ordering
  compare_rows no_terms no_terms = order.Equal
  compare_rows no_terms (and_term u us) = order.Less
  compare_rows (and_term t ts) no_terms = order.Greater
  compare_rows (and_term t ts) (and_term u us) = ordering_then (compare t u) (compare_rows ts us)
