-- A spelled sort or expression of ghost text takes a token at least.
use Rattle.vf_syntax.specs.declared.operator.Level.{Level}
use Rattle.vf_syntax.specs.SortTree.{SortTree, SortTrees, no_sort, more_sort}
use Rattle.vf_syntax.specs.SortTree as sorts
use Rattle.vf_syntax.specs.GhostExprTree.{GhostExprTree, GhostExprTrees, GhostLinkTree, GhostLinkTrees, no_ghost_expr, more_ghost_expr, no_ghost_link, more_ghost_link}
use Rattle.vf_syntax.specs.GhostExprTree as tree
use Rattle.vf_syntax.specs.GhostExpressions.{sort, sort_arguments, sorts_separated, more_sorts, ghost_expr, ghost_link, ghost_links, ghost_arguments, more_ghost_arguments}
use Rattle.vf_grammar_read.proofs.expressions.Eaten.{Keeps, Eats, keeps, keep_then, eat_then, then_eat, nothing_keeps, provided_keeps, at_keeps, mark_eats, word_eats, identifier_eats, number_eats, ctype_eats}

mutual
  pub sort_eats : (x : SortTree) → Eats (sort x)
  sort_eats (sorts.real_ p) = then_eat (at_keeps p) (word_eats _ _)
  sort_eats (sorts.any_ p) = then_eat (at_keeps p) (word_eats _ _)
  sort_eats (sorts.type_ p t) = then_eat (at_keeps p) (ctype_eats _ t)
  sort_eats (sorts.name_ p x xs) = then_eat (at_keeps p) (eat_then (identifier_eats _ x) (sort_arguments_keep xs))
  sort_eats (sorts.predicate_ p xs) = then_eat (at_keeps p) (eat_then (word_eats _ _) (keeps (eat_then (mark_eats _ _) (keep_then (sorts_separated_keep xs) (keeps (mark_eats _ _))))))

  pub sort_arguments_keep : (xs : SortTrees) → Keeps (sort_arguments xs)
  sort_arguments_keep no_sort = nothing_keeps
  sort_arguments_keep (more_sort x xs) = keep_then (keeps (mark_eats _ _)) (keep_then (keeps (sort_eats x)) (keep_then (more_sorts_keep xs) (keeps (mark_eats _ _))))

  pub sorts_separated_keep : (xs : SortTrees) → Keeps (sorts_separated xs)
  sorts_separated_keep no_sort = nothing_keeps
  sorts_separated_keep (more_sort x xs) = keep_then (keeps (sort_eats x)) (more_sorts_keep xs)

  more_sorts_keep : (xs : SortTrees) → Keeps (more_sorts xs)
  more_sorts_keep no_sort = nothing_keeps
  more_sorts_keep (more_sort x xs) = keep_then (keeps (mark_eats _ _)) (keep_then (keeps (sort_eats x)) (more_sorts_keep xs))

mutual
  pub term_eats : (x : GhostExprTree) → Eats (ghost_expr x)
  term_eats (tree.number p n ty) = then_eat (at_keeps p) (number_eats _ n ty)
  term_eats (tree.true_ p) = then_eat (at_keeps p) (word_eats _ _)
  term_eats (tree.false_ p) = then_eat (at_keeps p) (word_eats _ _)
  term_eats (tree.result p) = then_eat (at_keeps p) (word_eats _ _)
  term_eats (tree.this_ p) = then_eat (at_keeps p) (word_eats _ _)
  term_eats (tree.current_thread p) = then_eat (at_keeps p) (word_eats _ _)
  term_eats (tree.name_ p x) = then_eat (at_keeps p) (identifier_eats _ x)
  term_eats (tree.application p f xs) = then_eat (at_keeps p) (eat_then (identifier_eats _ f) (keeps (eat_then (mark_eats _ _) (keep_then (ghost_arguments_keep xs) (keeps (mark_eats _ _))))))
  term_eats (tree.parenthesized p a) = then_eat (at_keeps p) (eat_then (mark_eats _ _) (keeps (eat_then (term_eats a) (keeps (mark_eats _ _)))))
  term_eats (tree.conditional p c a b) = then_eat (at_keeps p) (eat_then (mark_eats _ _) (keeps (eat_then (term_eats c) (keeps (eat_then (mark_eats _ _) (keeps (eat_then (term_eats a) (keeps (eat_then (mark_eats _ _) (keeps (eat_then (term_eats b) (keeps (mark_eats _ _)))))))))))))
  term_eats (tree.unary p o a) = then_eat (at_keeps p) (eat_then (mark_eats _ _) (keep_then (provided_keeps _) (keeps (term_eats a))))
  term_eats (tree.chain p l a xs) = then_eat (at_keeps p) (then_eat (provided_keeps _) (eat_then (term_eats a) (ghost_links_keep l xs)))

  pub ghost_link_eats : (l : Level) (x : GhostLinkTree) → Eats (ghost_link l x)
  ghost_link_eats l (tree.ghost_link p o a) = then_eat (at_keeps p) (then_eat (provided_keeps _) (eat_then (mark_eats _ _) (keeps (term_eats a))))

  ghost_links_keep : (l : Level) (xs : GhostLinkTrees) → Keeps (ghost_links l xs)
  ghost_links_keep l no_ghost_link = nothing_keeps
  ghost_links_keep l (more_ghost_link x xs) = keep_then (keeps (ghost_link_eats l x)) (ghost_links_keep l xs)

  pub ghost_arguments_keep : (xs : GhostExprTrees) → Keeps (ghost_arguments xs)
  ghost_arguments_keep no_ghost_expr = nothing_keeps
  ghost_arguments_keep (more_ghost_expr x xs) = keep_then (keeps (term_eats x)) (more_ghost_arguments_keep xs)

  more_ghost_arguments_keep : (xs : GhostExprTrees) → Keeps (more_ghost_arguments xs)
  more_ghost_arguments_keep no_ghost_expr = nothing_keeps
  more_ghost_arguments_keep (more_ghost_expr x xs) = keep_then (keeps (mark_eats _ _)) (keep_then (keeps (term_eats x)) (more_ghost_arguments_keep xs))
