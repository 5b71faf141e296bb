-- What is shown of normal forms, of the order of terms and of the literals of comparisons.
use Rattle.std.specs.Prelude.{◌≡◌, ◌↔◌, true}
use Rattle.std.specs.declared.cmp.Ordering.TheVariants as order
use Rattle.std.specs.Cmp.{IsTotalOrder}
use Rattle.vf_tree.specs.Core.{Comparison}
use Rattle.vf_meaning.specs.Valuations.{Valuation}
use Rattle.vf_meaning.specs.GhostValues.{Interpretation, compared}
use Rattle.vf_closure.specs.Terms.{Term}
use Rattle.vf_closure.specs.Values.{value}
use Rattle.vf_closure.specs.Literals.{IsInteger, Holds}
use Rattle.vf_normal.specs.Order.{compare}
use Rattle.vf_normal.specs.Normal.{normal}
use Rattle.vf_normal.specs.NormalForms.{IsNormal}
use Rattle.vf_normal.specs.Comparisons.{literal_of}

-- whatever is declared, in every valuation, a term and its normal form have one value
abbrev pub NormalFormsKeepValues : Type 0
NormalFormsKeepValues = (i : Interpretation) (v : Valuation) (t : Term) → value i v (normal t) ≡ value i v t

-- the order of terms is total: one of two terms is before the other or they are equal, and then they are one term
abbrev pub OrderIsTotal : Type 0
OrderIsTotal = IsTotalOrder compare × ((t u : Term) → compare t u ≡ order.Equal ↔ t ≡ u)

-- a term that looks normal, with all its subterms, is its own normal form
abbrev pub NormalFormsStay : Type 0
NormalFormsStay = (t : Term) → IsNormal t → normal t ≡ t

-- the normal form of each term looks normal, with all its subterms, and so it is its own normal form
abbrev pub NormalFormsLookNormal : Type 0
NormalFormsLookNormal = ((t : Term) → IsNormal (normal t)) × ((t : Term) → normal (normal t) ≡ normal t)

-- whatever is declared, a valuation meets the literal of a comparison of integer terms exactly where the comparison holds of their values
abbrev pub ComparisonLiteralsMeanIt : Type 0
ComparisonLiteralsMeanIt = (i : Interpretation) (v : Valuation) (op : Comparison) (a b : Term) → IsInteger a → IsInteger b → Holds i v (literal_of op a b) ↔ (compared op (value i v a) (value i v b) ≡ true)
