-- Products of fractions in terms, and which of them are kept.
use Rattle.vf_model.specs.Values.{Dyadic}
use Rattle.vf_meaning.specs.Fractions.{product}
use Rattle.vf_closure.specs.Terms.{Head, Share, Term, Terms, term, no_terms, and_term}
use Rattle.vf_normal.specs.Normal.{product_with, all_normal}
use Rattle.vf_formula.specs.Fractions.{IsShare}

-- a fraction can be multiplied with a term: where the term is a share the product of both fractions is kept
abbrev pub KeepsTimes : Dyadic → Term → Type 0
KeepsTimes x (term (Share y) ts) = IsShare (product x y)
KeepsTimes x t = Unit {0}

-- a fraction can be multiplied with terms in a row, from the last to the first: each product on the way is kept
abbrev pub KeepsProducts : Dyadic → Terms → Type 0
KeepsProducts x no_terms = Unit {0}
KeepsProducts x (and_term t ts) = KeepsProducts x ts × KeepsTimes (product_with x ts).coefficient t

-- a head can be put over parts in normal form: a share's fraction can be multiplied with them
abbrev pub KeepsOver : Head → Terms → Type 0
KeepsOver (Share x) ts = KeepsProducts x ts
KeepsOver h ts = Unit {0}

-- in a term and its subterms, the products of fractions that normal forms take are all kept
abbrev mutual
  pub KeepsFractions : Term → Type 0
  KeepsFractions (term h ts) = AllKeepFractions ts × KeepsOver h (all_normal ts)

  -- so they are in each of some terms
  pub AllKeepFractions : Terms → Type 0
  AllKeepFractions no_terms = Unit {0}
  AllKeepFractions (and_term t ts) = KeepsFractions t × AllKeepFractions ts
