-- The literals of a question with numbers for their terms.
use Rattle.std.specs.Prelude.{◌≡◌, List, map}
use Rattle.vf_table.specs.declared.node.Node.{Node}
use Rattle.vf_refute.specs.declared.steps.Fact.{Fact}
use Rattle.vf_closure.specs.Terms.{Term}
use Rattle.vf_closure.specs.Literals.{Literal}
use Rattle.vf_question.specs.Numbered.{terms_of, all_terms}
use Rattle.vf_question.specs.Tabled.{tabled_fact}
use Rattle.vf_interning.specs.Interned.{IsTermTable}
use Rattle.vf_recheck.specs.declared.posing.Posed.{Posed}
use Rattle.vf_recheck.specs.Refutations.{facts_over}

-- the table of the terms of some literals, and these literals as facts over it
pub record AreNumbered (literals : List Literal) (nodes : List Node) (terms : List Term) (facts : List Fact) : Type 0 where
  pub table : IsTermTable nodes terms
  pub gathered : terms ≡ terms_of literals
  pub numbers : facts ≡ map (tabled_fact terms) literals

-- a question as it is put to the check: the table of the terms of its literals and 0, and its literals as facts over it
pub record IsPosed (literals : List Literal) (question : Posed) : Type 0 where
  pub table : IsTermTable question.nodes.items question.terms.items
  pub gathered : question.terms.items ≡ all_terms literals
  pub numbers : question.facts.items ≡ facts_over literals
