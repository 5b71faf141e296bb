-- Expressions in which operators stand on their levels, as in text that is read.
use Rattle.std.specs.Prelude.{◌≡◌, true}
use Rattle.vf_syntax.specs.declared.operator.Level.{Level}
use Rattle.vf_syntax.specs.GhostExprTree.{GhostExprTree, GhostExprTrees, GhostLinkTree, GhostLinkTrees, more_ghost_expr, more_ghost_link, no_ghost_expr, no_ghost_link}
use Rattle.vf_syntax.specs.GhostExprTree as tree
use Rattle.vf_syntax.specs.GhostExpressions.{has_ghost_links}
use Rattle.vf_syntax.specs.Written.{level_of}

abbrev mutual
  -- each operator between operands stands on the level of its chain, in which there is one
  pub IsLevelled : GhostExprTree → Type 0
  IsLevelled (tree.application p f xs) = AreLevelled xs
  IsLevelled (tree.parenthesized p a) = IsLevelled a
  IsLevelled (tree.conditional p c a b) = IsLevelled c × IsLevelled a × IsLevelled b
  IsLevelled (tree.unary p o a) = IsLevelled a
  IsLevelled (tree.chain p l a xs) = IsLevelled a × (has_ghost_links xs ≡ true) × JoinOn l xs
  IsLevelled e = Unit {0}

  -- an operator that stands on a level, and its operand
  pub JoinsOn : Level → GhostLinkTree → Type 0
  JoinsOn l (tree.ghost_link q o a) = (level_of o ≡ l) × IsLevelled a

  -- the same of each of some
  pub JoinOn : Level → GhostLinkTrees → Type 0
  JoinOn l no_ghost_link = Unit {0}
  JoinOn l (more_ghost_link x xs) = JoinsOn l x × JoinOn l xs

  -- the same in arguments
  pub AreLevelled : GhostExprTrees → Type 0
  AreLevelled no_ghost_expr = Unit {0}
  AreLevelled (more_ghost_expr x xs) = IsLevelled x × AreLevelled xs
