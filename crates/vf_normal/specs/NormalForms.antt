-- What terms in normal form look like.
use Rattle.std.specs.Prelude.{◌≡◌, ◌≢◌, ◌⊎◌, ℤ, pos, Bool, true, false, List, [], ◌∷◌, Option, Some, None}
use Rattle.std.specs.declared.cmp.Ordering.TheVariants as order
use Rattle.std.specs.Ordering.{is_gt}
use Rattle.vf_closure.specs.Terms.{Head, Number, Truth, Share, Sum, Plus, Arithmetic, Compare, Choose, PointerSum, Term, Terms, term, no_terms, and_term, number}
use Rattle.vf_normal.specs.Order.{compare}
use Rattle.vf_normal.specs.Sums.{Weighted, Linear, are_small, fits, combined, form_of, number_in, factors_of, row_of, sum_of, total_of}

-- whether a term with a head is an atom of sums: numbers and sums are none
abbrev pub is_atom : Head → Bool
is_atom (Number z) = false
is_atom (Sum factors) = false
is_atom Plus = false
is_atom h = true

-- a term is an atom of sums
abbrev pub IsAtom : Term → Type 0
IsAtom (term h ts) = is_atom h ≡ true

-- a term stands before each of some atoms
abbrev pub IsBefore : Term → List Weighted → Type 0
IsBefore a [] = Unit {0}
IsBefore a (w ∷ ws) = (compare a w.atom ≡ order.Less) × IsBefore a ws

-- atoms stand in their order, each once, with factors that are not 0
abbrev pub AreAtoms : List Weighted → Type 0
AreAtoms [] = Unit {0}
AreAtoms (w ∷ ws) = (w.factor ≢ pos 0) × IsAtom w.atom × IsBefore w.atom ws × AreAtoms ws

-- an operation has come to no sum, or to one that does not fit
abbrev pub StaysApart : Option Linear → Type 0
StaysApart None = Unit {0}
StaysApart (Some f) = fits f ≡ false

-- a term is no truth value
abbrev pub IsNoTruth : Term → Type 0
IsNoTruth (term (Truth b) ts) = ⊥
IsNoTruth t = Unit {0}

-- a term is no pointer's sum
abbrev pub IsNoPointerSum : Term → Type 0
IsNoPointerSum (term PointerSum ts) = ⊥
IsNoPointerSum t = Unit {0}

-- a term is no share
abbrev pub IsNoShare : Term → Type 0
IsNoShare (term (Share x) ts) = ⊥
IsNoShare t = Unit {0}

-- a term does not come after the first of some terms
abbrev pub IsNotAfter : Term → Terms → Type 0
IsNotAfter t no_terms = Unit {0}
IsNotAfter t (and_term u us) = is_gt (compare t u) ≡ false

-- terms stand in their order, and none is a share
abbrev pub AreFactors : Terms → Type 0
AreFactors no_terms = Unit {0}
AreFactors (and_term t ts) = IsNoShare t × IsNotAfter t ts × AreFactors ts

-- What stands below a head in normal form. A sum has atoms in their order with small factors, and a sum and a number has such a sum and a small number that is not 0. An operation of arithmetic has come to no sum that fits. A comparison is not of two numbers, a conditional is on no truth value, a pointer's sum is of no pointer's sum and has no offset 0, and the factors of a share stand in their order
abbrev pub LooksNormal : Head → Terms → Type 0
LooksNormal (Number z) ts = ts ≡ no_terms
LooksNormal (Sum factors) ts = (ws : List Weighted) × AreAtoms ws × (are_small ws ≡ true) × (factors ≡ factors_of ws) × (ts ≡ row_of ws) × (sum_of ws ≡ term (Sum factors) ts)
LooksNormal Plus ts = (ws : List Weighted) × (c : ℤ) × AreAtoms ws × (fits (record { atoms = ws; number = c }) ≡ true) × (ts ≡ and_term (sum_of ws) (and_term (number c) no_terms)) × (total_of ws c ≡ term Plus ts)
LooksNormal (Arithmetic op) ts = (a : Term) × (b : Term) × (ts ≡ and_term a (and_term b no_terms)) × StaysApart (combined op (form_of a) (form_of b))
LooksNormal (Compare op) ts = (a : Term) × (b : Term) × (ts ≡ and_term a (and_term b no_terms)) × ((number_in a ≡ None) ⊎ (number_in b ≡ None))
LooksNormal (Choose k) ts = (c : Term) × (t : Term) × (u : Term) × (ts ≡ and_term c (and_term t (and_term u no_terms))) × IsNoTruth c
LooksNormal PointerSum ts = (p : Term) × (i : Term) × (ts ≡ and_term p (and_term i no_terms)) × IsNoPointerSum p × (number_in i ≢ Some (pos 0))
LooksNormal (Share x) ts = AreFactors ts
LooksNormal h ts = Unit {0}

-- a term looks normal, and so does each of its subterms
abbrev mutual
  pub IsNormal : Term → Type 0
  IsNormal (term h ts) = LooksNormal h ts × AllNormal ts

  -- each of some terms is in normal form
  pub AllNormal : Terms → Type 0
  AllNormal no_terms = Unit {0}
  AllNormal (and_term t ts) = IsNormal t × AllNormal ts
