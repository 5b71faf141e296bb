-- What C text mentions, in the order of the text, where these locals are visible.
use Rattle.std.specs.Prelude.{List, [], ◌++◌}
use Rattle.vf_syntax.specs.declared.simple.Simple.{Simple}
use Rattle.vf_syntax.specs.declared.simple.Simple.TheVariants as simples
use Rattle.vf_syntax.specs.ExprTree.{ExprTree, ExprTrees, no_expr, more_expr, LinkTree, LinkTrees, no_link, more_link, PostfixTree, PostfixTrees, no_postfix, more_postfix}
use Rattle.vf_syntax.specs.ExprTree as tree
use Rattle.vf_mentions.specs.declared.mention.Mention.{Mention}
use Rattle.vf_mentions.specs.Mentioned.{Locals, mentioned_name}

abbrev mutual
  -- what an expression mentions: each name in it that stands as an expression, also as what is called; names of types, tags and fields are none
  pub mentioned_in_expr : Locals → ExprTree → List Mention
  mentioned_in_expr l (tree.number p a b) = []
  mentioned_in_expr l (tree.character p a) = []
  mentioned_in_expr l (tree.true_ p) = []
  mentioned_in_expr l (tree.false_ p) = []
  mentioned_in_expr l (tree.name_ p x) = mentioned_name l x
  mentioned_in_expr l (tree.parenthesized p a) = mentioned_in_expr l a
  mentioned_in_expr l (tree.malloc p t) = []
  mentioned_in_expr l (tree.malloc_ints p a q) = mentioned_in_expr l a
  mentioned_in_expr l (tree.postfix p a xs) = mentioned_in_expr l a ++ mentioned_in_postfixes l xs
  mentioned_in_expr l (tree.unary p o a) = mentioned_in_expr l a
  mentioned_in_expr l (tree.cast p t a) = mentioned_in_expr l a
  mentioned_in_expr l (tree.chain p v a xs) = mentioned_in_expr l a ++ mentioned_in_links l xs
  mentioned_in_expr l (tree.conditional p a b c) = mentioned_in_expr l a ++ (mentioned_in_expr l b ++ mentioned_in_expr l c)

  -- what arguments mention, one after another
  pub mentioned_in_arguments : Locals → ExprTrees → List Mention
  mentioned_in_arguments l no_expr = []
  mentioned_in_arguments l (more_expr x xs) = mentioned_in_expr l x ++ mentioned_in_arguments l xs

  -- what the operand behind an operator mentions
  pub mentioned_in_link : Locals → LinkTree → List Mention
  mentioned_in_link l (tree.link p o a) = mentioned_in_expr l a

  -- what the operands behind some operators mention
  pub mentioned_in_links : Locals → LinkTrees → List Mention
  mentioned_in_links l no_link = []
  mentioned_in_links l (more_link x xs) = mentioned_in_link l x ++ mentioned_in_links l xs

  -- what stands behind an operand mentions: an index or arguments, and no field
  pub mentioned_in_postfix : Locals → PostfixTree → List Mention
  mentioned_in_postfix l (tree.field_ p x) = []
  mentioned_in_postfix l (tree.index_ p a) = mentioned_in_expr l a
  mentioned_in_postfix l (tree.call_ p xs) = mentioned_in_arguments l xs

  -- what all that stands behind an operand mentions
  pub mentioned_in_postfixes : Locals → PostfixTrees → List Mention
  mentioned_in_postfixes l no_postfix = []
  mentioned_in_postfixes l (more_postfix x xs) = mentioned_in_postfix l x ++ mentioned_in_postfixes l xs

-- what an assignment or a call mentions
abbrev pub mentioned_in_simple : Locals → Simple → List Mention
mentioned_in_simple l (simples.Assignment a o p b) = mentioned_in_expr l a ++ mentioned_in_expr l b
mentioned_in_simple l (simples.StepAfter a o p) = mentioned_in_expr l a
mentioned_in_simple l (simples.StepBefore p o a) = mentioned_in_expr l a
mentioned_in_simple l (simples.Call a) = mentioned_in_expr l a
