-- What parts of annotations leave stood there before.
use Rattle.std.proofs.Common.{List}
use Rattle.vf_syntax.specs.declared.side.Side.TheVariants.{Ghost}
use Rattle.vf_syntax.specs.declared.operator.Level.{Level}
use Rattle.vf_syntax.specs.declared.written.Name.{Name}
use Rattle.vf_syntax.specs.declared.pattern.Pattern.{Pattern}
use Rattle.vf_syntax.specs.declared.pattern.Pattern.TheVariants as patterns
use Rattle.vf_syntax.specs.declared.pattern.Share.{Share}
use Rattle.vf_syntax.specs.declared.pattern.Amount.{Amount}
use Rattle.vf_syntax.specs.declared.pattern.Amount.TheVariants as amounts
use Rattle.vf_syntax.specs.declared.pattern.Factor.{Factor}
use Rattle.vf_syntax.specs.declared.pattern.Factor.TheVariants as factors
use Rattle.vf_syntax.specs.declared.pattern.FactorLink.{FactorLink}
use Rattle.vf_syntax.specs.declared.pattern.CasePattern.{CasePattern}
use Rattle.vf_syntax.specs.declared.contract.Contract.{Contract}
use Rattle.vf_syntax.specs.declared.contract.Claim.{Claim}
use Rattle.vf_syntax.specs.declared.contract.Invariant.{Invariant}
use Rattle.vf_syntax.specs.SortTree.{SortTree, SortTrees, no_sort, more_sort}
use Rattle.vf_syntax.specs.SortTree as sorts
use Rattle.vf_syntax.specs.GhostExprTree.{GhostExprTree, GhostExprTrees, GhostLinkTree, GhostLinkTrees, no_ghost_expr, more_ghost_expr, no_ghost_link, more_ghost_link, ghost_expr_list}
use Rattle.vf_syntax.specs.GhostExprTree as exprs
use Rattle.vf_syntax.specs.AssertionTree.{PartTree, PartTrees, AssertionCaseTree, AssertionCaseTrees, no_part, more_part, no_assertion_case, more_assertion_case, part_list}
use Rattle.vf_syntax.specs.AssertionTree as parts
use Rattle.vf_syntax.specs.GhostCommandTree.{GhostCommandTree, GhostCommandTrees, CommandCaseTree, CommandCaseTrees, no_ghost_command, more_ghost_command, no_command_case, more_command_case}
use Rattle.vf_syntax.specs.GhostCommandTree as tree
use Rattle.vf_syntax.specs.Written.{name}
use Rattle.vf_syntax.specs.GhostExpressions.{sort, sort_arguments, sorts_separated, more_sorts, ghost_expr, ghost_link, ghost_links, ghost_arguments, more_ghost_arguments}
use Rattle.vf_syntax.specs.Assertions.{factor, factor_link, amount, share, pattern, pattern_list, name_list, case_pattern, part, assertion, more_parts, assertion_case, assertion_cases}
use Rattle.vf_syntax.specs.Commands.{command, commands, command_case, command_cases}
use Rattle.vf_syntax.specs.Statements.{claim, contract, invariant_walk}
use Rattle.vf_fixpoint_laws.proofs.identifiers.Keeps.{Keeps, keep_then, nothing_keeps, never_keeps, provided_keeps, at_keeps, mark_keeps, word_keeps, identifier_keeps, number_keeps, wild_keeps, name_keeps, optional_keeps, each_keeps, separated_keep}
use Rattle.vf_fixpoint_laws.proofs.identifiers.RealKept.{ctype_keeps}

mutual
  pub sort_keeps : (x : SortTree) → Keeps (sort x)
  sort_keeps (sorts.real_ p) = keep_then (at_keeps p) (word_keeps _ _)
  sort_keeps (sorts.any_ p) = keep_then (at_keeps p) (word_keeps _ _)
  sort_keeps (sorts.type_ p t) = keep_then (at_keeps p) (ctype_keeps _ t)
  sort_keeps (sorts.name_ p x xs) = keep_then (at_keeps p) (keep_then (identifier_keeps _ x) (sort_arguments_keeps xs))
  sort_keeps (sorts.predicate_ p xs) = keep_then (at_keeps p) (keep_then (word_keeps _ _) (keep_then (mark_keeps _ _) (keep_then (sorts_separated_keep xs) (mark_keeps _ _))))

  sort_arguments_keeps : (xs : SortTrees) → Keeps (sort_arguments xs)
  sort_arguments_keeps no_sort = nothing_keeps
  sort_arguments_keeps (more_sort x xs) = keep_then (mark_keeps _ _) (keep_then (sort_keeps x) (keep_then (more_sorts_keeps xs) (mark_keeps _ _)))

  sorts_separated_keep : (xs : SortTrees) → Keeps (sorts_separated xs)
  sorts_separated_keep no_sort = nothing_keeps
  sorts_separated_keep (more_sort x xs) = keep_then (sort_keeps x) (more_sorts_keeps xs)

  more_sorts_keeps : (xs : SortTrees) → Keeps (more_sorts xs)
  more_sorts_keeps no_sort = nothing_keeps
  more_sorts_keeps (more_sort x xs) = keep_then (mark_keeps _ _) (keep_then (sort_keeps x) (more_sorts_keeps xs))

mutual
  pub ghost_expr_keeps : (x : GhostExprTree) → Keeps (ghost_expr x)
  ghost_expr_keeps (exprs.number p n ty) = keep_then (at_keeps p) (number_keeps _ n ty)
  ghost_expr_keeps (exprs.true_ p) = keep_then (at_keeps p) (word_keeps _ _)
  ghost_expr_keeps (exprs.false_ p) = keep_then (at_keeps p) (word_keeps _ _)
  ghost_expr_keeps (exprs.result p) = keep_then (at_keeps p) (word_keeps _ _)
  ghost_expr_keeps (exprs.this_ p) = keep_then (at_keeps p) (word_keeps _ _)
  ghost_expr_keeps (exprs.current_thread p) = keep_then (at_keeps p) (word_keeps _ _)
  ghost_expr_keeps (exprs.name_ p x) = keep_then (at_keeps p) (identifier_keeps _ x)
  ghost_expr_keeps (exprs.application p f xs) = keep_then (at_keeps p) (keep_then (identifier_keeps _ f) (keep_then (mark_keeps _ _) (keep_then (ghost_arguments_keeps xs) (mark_keeps _ _))))
  ghost_expr_keeps (exprs.parenthesized p a) = keep_then (at_keeps p) (keep_then (mark_keeps _ _) (keep_then (ghost_expr_keeps a) (mark_keeps _ _)))
  ghost_expr_keeps (exprs.conditional p c a b) = keep_then (at_keeps p) (keep_then (mark_keeps _ _) (keep_then (ghost_expr_keeps c) (keep_then (mark_keeps _ _) (keep_then (ghost_expr_keeps a) (keep_then (mark_keeps _ _) (keep_then (ghost_expr_keeps b) (mark_keeps _ _)))))))
  ghost_expr_keeps (exprs.unary p o a) = keep_then (at_keeps p) (keep_then (mark_keeps _ _) (keep_then (provided_keeps _) (ghost_expr_keeps a)))
  ghost_expr_keeps (exprs.chain p l a xs) = keep_then (at_keeps p) (keep_then (provided_keeps _) (keep_then (ghost_expr_keeps a) (ghost_links_keeps l xs)))

  ghost_link_keeps : (l : Level) (x : GhostLinkTree) → Keeps (ghost_link l x)
  ghost_link_keeps l (exprs.ghost_link p o a) = keep_then (at_keeps p) (keep_then (provided_keeps _) (keep_then (mark_keeps _ _) (ghost_expr_keeps a)))

  ghost_links_keeps : (l : Level) (xs : GhostLinkTrees) → Keeps (ghost_links l xs)
  ghost_links_keeps l no_ghost_link = nothing_keeps
  ghost_links_keeps l (more_ghost_link x xs) = keep_then (ghost_link_keeps l x) (ghost_links_keeps l xs)

  pub ghost_arguments_keeps : (xs : GhostExprTrees) → Keeps (ghost_arguments xs)
  ghost_arguments_keeps no_ghost_expr = nothing_keeps
  ghost_arguments_keeps (more_ghost_expr x xs) = keep_then (ghost_expr_keeps x) (more_ghost_arguments_keeps xs)

  more_ghost_arguments_keeps : (xs : GhostExprTrees) → Keeps (more_ghost_arguments xs)
  more_ghost_arguments_keeps no_ghost_expr = nothing_keeps
  more_ghost_arguments_keeps (more_ghost_expr x xs) = keep_then (mark_keeps _ _) (keep_then (ghost_expr_keeps x) (more_ghost_arguments_keeps xs))

factor_keeps : (x : Factor) → Keeps (factor x)
factor_keeps (factors.Number n ty p) = keep_then (at_keeps p) (number_keeps _ n ty)
factor_keeps (factors.Name n) = name_keeps _ n

factor_link_keeps : (x : FactorLink) → Keeps (factor_link x)
unfolding factor_link
factor_link_keeps x = keep_then (mark_keeps _ _) (factor_keeps x.factor)

amount_keeps : (x : Amount) → Keeps (amount x)
amount_keeps (amounts.Binds p n) = keep_then (at_keeps p) (keep_then (mark_keeps _ _) (name_keeps _ n))
amount_keeps (amounts.Product f links) = keep_then (factor_keeps f) (each_keeps factor_link factor_link_keeps links)

pub share_keeps : (x : Share) → Keeps (share x)
unfolding share
share_keeps x = keep_then (at_keeps x.place) (keep_then (mark_keeps _ _) (keep_then (amount_keeps x.amount) (mark_keeps _ _)))

pattern_keeps : (x : Pattern) → Keeps (pattern x)
unfolding pattern
pattern_keeps (patterns.Is e) = ghost_expr_keeps e
pattern_keeps (patterns.Binds p n) = keep_then (at_keeps p) (keep_then (mark_keeps _ _) (name_keeps _ n))
pattern_keeps (patterns.Wild p) = keep_then (at_keeps p) wild_keeps

pattern_list_keeps : (xs : List Pattern) → Keeps (pattern_list xs)
unfolding pattern_list
pattern_list_keeps xs = keep_then (mark_keeps _ _) (keep_then (separated_keep _ pattern pattern_keeps xs) (mark_keeps _ _))

name_list_keeps : (xs : List Name) → Keeps (name_list xs)
unfolding name_list
name_list_keeps xs = keep_then (mark_keeps _ _) (keep_then (separated_keep _ (name Ghost) (λ n. name_keeps _ n) xs) (mark_keeps _ _))

pub case_pattern_keeps : (x : CasePattern) → Keeps (case_pattern x)
unfolding case_pattern
case_pattern_keeps x = keep_then (name_keeps _ x.constructor) (optional_keeps name_list name_list_keeps x.names)

mutual
  part_keeps : (x : PartTree) → Keeps (part x)
  part_keeps (parts.conditional p c a b) = keep_then (at_keeps p) (keep_then (ghost_expr_keeps c) (keep_then (mark_keeps _ _) (keep_then (assertion_keeps a) (keep_then (mark_keeps _ _) (assertion_keeps b)))))
  part_keeps (parts.switch_ p e cs) = keep_then (at_keeps p) (keep_then (word_keeps _ _) (keep_then (mark_keeps _ _) (keep_then (ghost_expr_keeps e) (keep_then (mark_keeps _ _) (keep_then (mark_keeps _ _) (keep_then (assertion_cases_keeps cs) (mark_keeps _ _)))))))
  part_keeps (parts.cell p s e f v) = keep_then (at_keeps p) (keep_then (optional_keeps share share_keeps s) (keep_then (ghost_expr_keeps e) (keep_then (mark_keeps _ _) (keep_then (name_keeps _ f) (keep_then (mark_keeps _ _) (pattern_keeps v))))))
  part_keeps (parts.chunk p s n first second) = keep_then (at_keeps p) (keep_then (optional_keeps share share_keeps s) (keep_then (name_keeps _ n) (keep_then (pattern_list_keeps first) (optional_keeps pattern_list pattern_list_keeps second))))
  part_keeps (parts.empty_ p) = keep_then (at_keeps p) (word_keeps _ _)
  part_keeps (parts.pure p e) = keep_then (at_keeps p) (keep_then (provided_keeps _) (ghost_expr_keeps e))
  part_keeps (parts.group p a) = keep_then (at_keeps p) (keep_then (provided_keeps _) (keep_then (mark_keeps _ _) (keep_then (assertion_keeps a) (mark_keeps _ _))))

  pub assertion_keeps : (xs : PartTrees) → Keeps (assertion xs)
  assertion_keeps no_part = never_keeps
  assertion_keeps (more_part x xs) = keep_then (provided_keeps _) (keep_then (part_keeps x) (more_parts_keeps xs))

  more_parts_keeps : (xs : PartTrees) → Keeps (more_parts xs)
  more_parts_keeps no_part = nothing_keeps
  more_parts_keeps (more_part x xs) = keep_then (mark_keeps _ _) (keep_then (part_keeps x) (more_parts_keeps xs))

  assertion_case_keeps : (x : AssertionCaseTree) → Keeps (assertion_case x)
  assertion_case_keeps (parts.assertion_case p c a) = keep_then (at_keeps p) (keep_then (word_keeps _ _) (keep_then (case_pattern_keeps c) (keep_then (mark_keeps _ _) (keep_then (word_keeps _ _) (keep_then (assertion_keeps a) (mark_keeps _ _))))))

  assertion_cases_keeps : (xs : AssertionCaseTrees) → Keeps (assertion_cases xs)
  assertion_cases_keeps no_assertion_case = nothing_keeps
  assertion_cases_keeps (more_assertion_case x xs) = keep_then (assertion_case_keeps x) (assertion_cases_keeps xs)

mutual
  pub command_keeps : (x : GhostCommandTree) → Keeps (command x)
  command_keeps (tree.open_ p s n first second) = keep_then (at_keeps p) (keep_then (word_keeps _ _) (keep_then (optional_keeps share share_keeps s) (keep_then (name_keeps _ n) (keep_then (pattern_list_keeps first) (keep_then (optional_keeps pattern_list pattern_list_keeps second) (mark_keeps _ _))))))
  command_keeps (tree.close_ p s n first second) = keep_then (at_keeps p) (keep_then (word_keeps _ _) (keep_then (optional_keeps share share_keeps s) (keep_then (name_keeps _ n) (keep_then (pattern_list_keeps first) (keep_then (optional_keeps pattern_list pattern_list_keeps second) (mark_keeps _ _))))))
  command_keeps (tree.leak_ p a) = keep_then (at_keeps p) (keep_then (word_keeps _ _) (keep_then (assertion_keeps (part_list a)) (mark_keeps _ _)))
  command_keeps (tree.assert_ p a) = keep_then (at_keeps p) (keep_then (word_keeps _ _) (keep_then (assertion_keeps (part_list a)) (mark_keeps _ _)))
  command_keeps (tree.declaration p s n e) = keep_then (at_keeps p) (keep_then (sort_keeps s) (keep_then (name_keeps _ n) (keep_then (mark_keeps _ _) (keep_then (ghost_expr_keeps e) (mark_keeps _ _)))))
  command_keeps (tree.assignment p x e) = keep_then (at_keeps p) (keep_then (identifier_keeps _ x) (keep_then (mark_keeps _ _) (keep_then (ghost_expr_keeps e) (mark_keeps _ _))))
  command_keeps (tree.call_ p f xs) = keep_then (at_keeps p) (keep_then (identifier_keeps _ f) (keep_then (mark_keeps _ _) (keep_then (ghost_arguments_keeps (ghost_expr_list xs)) (keep_then (mark_keeps _ _) (mark_keeps _ _)))))
  command_keeps (tree.if_ p e xs) = keep_then (at_keeps p) (keep_then (word_keeps _ _) (keep_then (mark_keeps _ _) (keep_then (ghost_expr_keeps e) (keep_then (mark_keeps _ _) (keep_then (mark_keeps _ _) (keep_then (commands_keeps xs) (mark_keeps _ _)))))))
  command_keeps (tree.if_else p e xs ys) = keep_then (at_keeps p) (keep_then (word_keeps _ _) (keep_then (mark_keeps _ _) (keep_then (ghost_expr_keeps e) (keep_then (mark_keeps _ _) (keep_then (mark_keeps _ _) (keep_then (commands_keeps xs) (keep_then (mark_keeps _ _) (keep_then (word_keeps _ _) (keep_then (mark_keeps _ _) (keep_then (commands_keeps ys) (mark_keeps _ _)))))))))))
  command_keeps (tree.switch_ p e cs) = keep_then (at_keeps p) (keep_then (word_keeps _ _) (keep_then (mark_keeps _ _) (keep_then (ghost_expr_keeps e) (keep_then (mark_keeps _ _) (keep_then (mark_keeps _ _) (keep_then (command_cases_keeps cs) (mark_keeps _ _)))))))
  command_keeps (tree.block p xs) = keep_then (at_keeps p) (keep_then (mark_keeps _ _) (keep_then (commands_keeps xs) (mark_keeps _ _)))

  pub commands_keeps : (xs : GhostCommandTrees) → Keeps (commands xs)
  commands_keeps no_ghost_command = nothing_keeps
  commands_keeps (more_ghost_command x xs) = keep_then (command_keeps x) (commands_keeps xs)

  command_case_keeps : (x : CommandCaseTree) → Keeps (command_case x)
  command_case_keeps (tree.command_case p c xs) = keep_then (at_keeps p) (keep_then (word_keeps _ _) (keep_then (case_pattern_keeps c) (keep_then (mark_keeps _ _) (commands_keeps xs))))

  command_cases_keeps : (xs : CommandCaseTrees) → Keeps (command_cases xs)
  command_cases_keeps no_command_case = nothing_keeps
  command_cases_keeps (more_command_case x xs) = keep_then (command_case_keeps x) (command_cases_keeps xs)

pub invariant_keeps : (i : Invariant) → Keeps (invariant_walk i)
unfolding invariant_walk
invariant_keeps i = keep_then (at_keeps i.place) (keep_then (word_keeps _ _) (keep_then (assertion_keeps (part_list i.assertion)) (mark_keeps _ _)))

pub contract_keeps : (c : Contract) → Keeps (contract c)
unfolding contract
contract_keeps c = keep_then (at_keeps c.place) (keep_then (word_keeps _ _) (keep_then (assertion_keeps (part_list c.precondition)) (keep_then (mark_keeps _ _) (keep_then (word_keeps _ _) (keep_then (assertion_keeps (part_list c.postcondition)) (mark_keeps _ _))))))

pub claim_keeps : (c : Claim) → Keeps (claim c)
unfolding claim
claim_keeps c = keep_then (at_keeps c.place) (keep_then (mark_keeps _ _) (name_keeps _ c.name))
