-- Tables and facts that are questions over terms.
use Rattle.std.specs.Prelude.{◌≡◌, ℕ, ℤ, pos, List, length, map, Contains, slice_index_or}
use Rattle.vf_table.specs.declared.node.Head.{Head}
use Rattle.vf_refute.specs.declared.steps.Fact.{Fact}
use Rattle.vf_closure.specs.Terms as terms
use Rattle.vf_closure.specs.Terms.{Term, Terms, term, no_terms, number}
use Rattle.vf_closure.specs.Literals.{Literal}
use Rattle.vf_closure.specs.Closure.{no_unfoldings, Arises}
use Rattle.vf_reading.specs.Reading.{IsReading, IsTableOf, IsInside, literal}
use Rattle.vf_question.specs.declared.question.Question.{Question}
use Rattle.vf_question.specs.Numbered.{all_terms}

-- numbers that arise of literals have no parts
abbrev pub AreLeaves : List Literal → Type 0
AreLeaves literals = (z : ℤ) (ps : Terms) → Arises no_unfoldings literals 0 (term (terms.Number z) ps) → ps ≡ no_terms

-- the term with a number, and 0 past the last
abbrev pub at : List Term → ℕ → Term
at ts i = slice_index_or ts i (number (pos 0))

-- A table and facts over it are those of some literals: read, the table is the terms of the literals and 0, by their numbers, and the facts are the literals
pub record IsQuestion (literals : List Literal) (question : Question) : Type 0 where
  pub long : length question.nodes.items ≡ length (all_terms literals)
  pub meant : Head → terms.Head
  pub reading : IsReading question.nodes.items meant (at (all_terms literals))
  pub table : IsTableOf question.nodes.items (at (all_terms literals)) literals
  pub facts : map (literal (at (all_terms literals))) question.facts.items ≡ literals
  pub inside : (l : Fact) → Contains question.facts.items l → IsInside (length question.nodes.items) l
