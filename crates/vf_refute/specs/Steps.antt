-- What the steps of a refutation say.
use Rattle.std.specs.Prelude.{List, All, Contains}
use Rattle.vf_table.specs.declared.node.Node.{Node}
use Rattle.vf_refute.specs.declared.steps.Fact.{Fact}
use Rattle.vf_refute.specs.declared.steps.Fact.TheVariants.{Difference}
use Rattle.vf_refute.specs.declared.steps.Derived.{Derived}
use Rattle.vf_refute.specs.declared.steps.Derived.TheVariants.{AreEqual, AreWithin, HaveDifference}
use Rattle.vf_refute.specs.Closure.{Same, Bound}

-- what a step derived is in the closure, or a fact
abbrev pub Follows : List Node → List Fact → Derived → Type 0
Follows nodes facts (AreEqual a b) = Same nodes facts a b
Follows nodes facts (AreWithin x y c) = Bound nodes facts x y c
Follows nodes facts (HaveDifference x y c) = Contains facts (Difference x y c)

-- what each of several steps derived does
abbrev pub AllFollow : List Node → List Fact → List Derived → Type 0
AllFollow nodes facts known = All (Follows nodes facts) known
