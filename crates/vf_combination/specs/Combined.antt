-- What a contract sees of classes and bounds that grow along a path.
use Rattle.std.specs.Prelude.{List}
use Rattle.vf_table.specs.declared.node.Node.{Node}
use Rattle.vf_refute.specs.declared.steps.Fact.{Fact}

-- the table of terms and the facts at the beginning of a level
pub record Begun : Type 0 where
  pub nodes : List Node
  pub facts : List Fact

-- What a contract sees of a combination: its table of terms, its facts in order, and what there was at the beginning of each level
pub record Combined : Type 0 where
  pub nodes : List Node
  pub facts : List Fact
  pub levels : List Begun
