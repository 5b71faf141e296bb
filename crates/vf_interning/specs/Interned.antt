-- Terms and literals that are kept as numbers of a table, one after the other.
use Rattle.std.specs.Prelude.{◌≡◌, ℕ, ◌≤◌, pos, List, [], ◌∷◌, map, take, length, Contains, All}
use Rattle.vf_table.specs.declared.node.Node.{Node}
use Rattle.vf_refute.specs.declared.steps.Fact.{Fact}
use Rattle.vf_combination.specs.Combined.{Combined, Begun}
use Rattle.vf_closure.specs.Terms.{Head, Term, Terms, term, number, IsAt}
use Rattle.vf_closure.specs.Literals.{Literal, Equal}
use Rattle.vf_reading.specs.Reading.{literal}
use Rattle.vf_question.specs.Numbered.{all_terms}
use Rattle.vf_question.specs.Tabled.{entries, tabled, tabled_fact}
use Rattle.vf_question.specs.Plain.{IsPlainLiteral}
use Rattle.vf_question.specs.Questions.{at}
use Rattle.vf_interning.specs.declared.numbering.TheConstants.{MOST_ARISING}

-- the parts of a term in a row
abbrev pub parts_of : Term → Terms
parts_of (term h ps) = ps

-- a list has each part of a term
abbrev pub HasParts : List Term → Term → Type 0
HasParts terms t = (p : Term) (i : ℕ) → IsAt p i (parts_of t) → Contains terms p

-- with each term a list has its parts
abbrev pub AreClosed : List Term → Type 0
AreClosed terms = (h : Head) (ps : Terms) (p : Term) (i : ℕ) → Contains terms (term h ps) → IsAt p i ps → Contains terms p

-- the table is that of the terms, place by place, which are with their parts and not too many
pub record IsTermTable (nodes : List Node) (terms : List Term) : Type 0 where
  pub tabled : map entries nodes ≡ map (tabled terms) terms
  pub closed : AreClosed terms
  pub few : length terms ≤ MOST_ARISING

-- facts over the numbers of some terms, as literals
abbrev pub meant : List Term → List Fact → List Literal
meant terms facts = map (literal (at terms)) facts

-- a table and facts over it are those of the literals that the facts mean: its terms are theirs, of which 0 is one, since one of them says that 0 is 0
pub record IsInterned (nodes : List Node) (facts : List Fact) (terms : List Term) : Type 0 where
  pub table : IsTermTable nodes terms
  pub gathered : terms ≡ all_terms (meant terms facts)
  pub numbers : facts ≡ map (tabled_fact terms) (meant terms facts)
  pub zero : Contains (meant terms facts) (Equal (number (pos 0)) (number (pos 0)))
  pub plain : All IsPlainLiteral (meant terms facts)

-- What a contract sees: the literals in order, and those that there were at the beginning of each level
pub record Interned : Type 0 where
  pub literals : List Literal
  pub levels : List (List Literal)

-- what the facts mean, those now and those at the beginning of each level
abbrev pub interned : List Fact → List Begun → List Term → Interned
interned facts levels terms = record { literals = meant terms facts; levels = map (λ b. meant terms b.facts) levels }

-- each level began with the terms up to a count, and no later one with fewer
abbrev pub AreLevels : List Begun → List ℕ → List Term → Type 0
AreLevels [] [] terms = Unit {0}
AreLevels [] (n ∷ ns) terms = ⊥
AreLevels (b ∷ bs) [] terms = ⊥
AreLevels (b ∷ bs) (n ∷ ns) terms = (n ≤ length terms) × IsInterned b.nodes b.facts (take n terms) × All (λ m. n ≤ m) ns × AreLevels bs ns terms

-- the terms are those of the facts now, and the counts those of the levels
pub record AreKept (combination : Combined) (terms : List Term) (counts : List ℕ) : Type 0 where
  pub now : IsInterned combination.nodes combination.facts terms
  pub levels : AreLevels combination.levels counts terms
