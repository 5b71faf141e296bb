-- The literals of questions as facts of the rules.
use Rattle.std.specs.Prelude.{false}
use Rattle.vf_tree.specs.Core.{Subtract}
use Rattle.vf_tree.specs.Core as comparisons
use Rattle.vf_meaning.specs.Ghost.{GhostExpression}
use Rattle.vf_meaning.specs.Ghost as ghosts
use Rattle.vf_closure.specs.Terms.{Term}
use Rattle.vf_closure.specs.Literals.{Literal, Equal, NotEqual, AtMost, Difference, NotDifference, False}
use Rattle.vf_rules.specs.States.{Fact, Holds}
use Rattle.vf_entailment.specs.Meant.{meant}

-- the first of two terms less the second
abbrev pub less : Term → Term → GhostExpression
less p n = ghosts.Arithmetic Subtract (meant p) (meant n)

-- what a literal says, as an expression
abbrev pub said : Literal → GhostExpression
said (Equal a b) = ghosts.Compare comparisons.Equal (meant a) (meant b)
said (NotEqual a b) = ghosts.Compare comparisons.NotEqual (meant a) (meant b)
said (AtMost p n c) = ghosts.Compare comparisons.LessEqual (less p n) (ghosts.Number c)
said (Difference p n c) = ghosts.Compare comparisons.Equal (less p n) (ghosts.Number c)
said (NotDifference p n c) = ghosts.Compare comparisons.NotEqual (less p n) (ghosts.Number c)
said False = ghosts.Truth false

-- the fact that a literal is
abbrev pub fact_of : Literal → Fact
fact_of l = Holds (said l)
