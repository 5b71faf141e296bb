-- The table of some terms, and facts over it.
use Rattle.std.specs.Prelude.{ℕ, ◌+◌, cond, List, [], ◌∷◌}
use Rattle.std.specs.Ordering.{is_eq}
use Rattle.vf_table.specs.declared.node.Head.{Head}
use Rattle.vf_table.specs.declared.node.Head.TheVariants as heads
use Rattle.vf_table.specs.declared.node.Node.{Node}
use Rattle.vf_refute.specs.declared.steps.Fact.{Fact}
use Rattle.vf_refute.specs.declared.steps.Fact.TheVariants as facts_
use Rattle.vf_closure.specs.Terms as terms
use Rattle.vf_closure.specs.Terms.{Kind, Integer, Other, Term, Terms, term, no_terms, and_term, kind_of}
use Rattle.vf_closure.specs.Literals.{Literal, Equal, NotEqual, AtMost, Difference, NotDifference, False}
use Rattle.vf_normal.specs.Order.{compare_heads}
use Rattle.vf_question.specs.Numbered.{place}

-- the place of the first term with a head, counted from 0; where there is none, how long the list is
abbrev pub head_place : terms.Head → List Term → ℕ
head_place h [] = 0
head_place h (term k us ∷ ts) = cond (is_eq (compare_heads k h)) 0 (head_place h ts + 1)

-- the head of a table for the head with a number of which the closure knows only its kind
abbrev pub opaque : Kind → ℕ → Head
opaque Integer n = heads.Integer n
opaque Other n = heads.Other n

-- the head of the table of some terms for a head: what the closure knows of it, and the number of the first term that has it
abbrev pub tabled_head : List Term → terms.Head → Head
tabled_head ts (terms.Number z) = heads.Number z
tabled_head ts (terms.Truth b) = heads.Truth b
tabled_head ts terms.Null = heads.Null
tabled_head ts (terms.Function g) = heads.Function (head_place (terms.Function g) ts)
tabled_head ts (terms.Constructor c) = heads.Constructor (head_place (terms.Constructor c) ts)
tabled_head ts terms.Plus = heads.Plus
tabled_head ts h = opaque (kind_of h) (head_place h ts)

-- the numbers of the terms of a row
abbrev pub places : List Term → Terms → List ℕ
places ts no_terms = []
places ts (and_term p ps) = place p ts ∷ places ts ps

-- the head and the numbers of the parts of a term
abbrev pub tabled : List Term → Term → Head × List ℕ
tabled ts (term h ps) = (tabled_head ts h, places ts ps)

-- those of a node
abbrev pub entries : Node → Head × List ℕ
entries node = (node.head, node.parts.items)

-- a literal as a fact over the table of some terms
abbrev pub tabled_fact : List Term → Literal → Fact
tabled_fact ts (Equal a b) = facts_.Equal (place a ts) (place b ts)
tabled_fact ts (NotEqual a b) = facts_.NotEqual (place a ts) (place b ts)
tabled_fact ts (AtMost p n c) = facts_.AtMost (place p ts) (place n ts) c
tabled_fact ts (Difference p n c) = facts_.Difference (place p ts) (place n ts) c
tabled_fact ts (NotDifference p n c) = facts_.NotDifference (place p ts) (place n ts) c
tabled_fact ts False = facts_.False
