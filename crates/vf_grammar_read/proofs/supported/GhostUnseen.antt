-- What is spelled in annotations takes no token of real text.
use Rattle.std.proofs.Common.{List}
use Rattle.vf_syntax.specs.declared.side.Side.TheVariants.{Ghost}
use Rattle.vf_syntax.specs.declared.operator.Level.{Level}
use Rattle.vf_syntax.specs.declared.written.Name.{Name}
use Rattle.vf_syntax.specs.declared.pattern.Pattern.{Pattern}
use Rattle.vf_syntax.specs.declared.pattern.Pattern.TheVariants as patterns
use Rattle.vf_syntax.specs.declared.pattern.Share.{Share}
use Rattle.vf_syntax.specs.declared.pattern.Amount.{Amount}
use Rattle.vf_syntax.specs.declared.pattern.Amount.TheVariants as amounts
use Rattle.vf_syntax.specs.declared.pattern.Factor.{Factor}
use Rattle.vf_syntax.specs.declared.pattern.Factor.TheVariants as factors
use Rattle.vf_syntax.specs.declared.pattern.FactorLink.{FactorLink}
use Rattle.vf_syntax.specs.declared.pattern.CasePattern.{CasePattern}
use Rattle.vf_syntax.specs.declared.contract.Contract.{Contract}
use Rattle.vf_syntax.specs.declared.contract.Claim.{Claim}
use Rattle.vf_syntax.specs.declared.contract.Invariant.{Invariant}
use Rattle.vf_syntax.specs.SortTree.{SortTree, SortTrees, no_sort, more_sort}
use Rattle.vf_syntax.specs.SortTree as sorts
use Rattle.vf_syntax.specs.GhostExprTree.{GhostExprTree, GhostExprTrees, GhostLinkTree, GhostLinkTrees, no_ghost_expr, more_ghost_expr, no_ghost_link, more_ghost_link, ghost_expr_list}
use Rattle.vf_syntax.specs.GhostExprTree as exprs
use Rattle.vf_syntax.specs.AssertionTree.{PartTree, PartTrees, AssertionCaseTree, AssertionCaseTrees, no_part, more_part, no_assertion_case, more_assertion_case, part_list}
use Rattle.vf_syntax.specs.AssertionTree as parts
use Rattle.vf_syntax.specs.GhostCommandTree.{GhostCommandTree, GhostCommandTrees, CommandCaseTree, CommandCaseTrees, no_ghost_command, more_ghost_command, no_command_case, more_command_case}
use Rattle.vf_syntax.specs.GhostCommandTree as tree
use Rattle.vf_syntax.specs.Written.{name}
use Rattle.vf_syntax.specs.GhostExpressions.{sort, sort_arguments, sorts_separated, more_sorts, ghost_expr, ghost_link, ghost_links, ghost_arguments, more_ghost_arguments}
use Rattle.vf_syntax.specs.Assertions.{factor, factor_link, amount, share, pattern, pattern_list, name_list, case_pattern, part, assertion, more_parts, assertion_case, assertion_cases}
use Rattle.vf_syntax.specs.Commands.{command, commands, command_case, command_cases}
use Rattle.vf_syntax.specs.Statements.{claim, contract, invariant_walk}
use Rattle.vf_grammar_read.proofs.supported.Unseen.{Unseen, unseen_then, nothing_unseen, never_unseen, provided_unseen, at_unseen, ghost_mark, ghost_word, identifier_unseen, number_unseen, wild_unseen, name_unseen, ctype_unseen, optional_unseen, each_unseen, separated_unseen}

mutual
  pub sort_unseen : (x : SortTree) → Unseen (sort x)
  sort_unseen (sorts.real_ p) = unseen_then (at_unseen p) (ghost_word _)
  sort_unseen (sorts.any_ p) = unseen_then (at_unseen p) (ghost_word _)
  sort_unseen (sorts.type_ p t) = unseen_then (at_unseen p) (ctype_unseen t)
  sort_unseen (sorts.name_ p x xs) = unseen_then (at_unseen p) (unseen_then (identifier_unseen x) (sort_arguments_unseen xs))
  sort_unseen (sorts.predicate_ p xs) = unseen_then (at_unseen p) (unseen_then (ghost_word _) (unseen_then (ghost_mark _) (unseen_then (sorts_separated_unseen xs) (ghost_mark _))))

  sort_arguments_unseen : (xs : SortTrees) → Unseen (sort_arguments xs)
  sort_arguments_unseen no_sort = nothing_unseen
  sort_arguments_unseen (more_sort x xs) = unseen_then (ghost_mark _) (unseen_then (sort_unseen x) (unseen_then (more_sorts_unseen xs) (ghost_mark _)))

  sorts_separated_unseen : (xs : SortTrees) → Unseen (sorts_separated xs)
  sorts_separated_unseen no_sort = nothing_unseen
  sorts_separated_unseen (more_sort x xs) = unseen_then (sort_unseen x) (more_sorts_unseen xs)

  more_sorts_unseen : (xs : SortTrees) → Unseen (more_sorts xs)
  more_sorts_unseen no_sort = nothing_unseen
  more_sorts_unseen (more_sort x xs) = unseen_then (ghost_mark _) (unseen_then (sort_unseen x) (more_sorts_unseen xs))

mutual
  pub ghost_expr_unseen : (x : GhostExprTree) → Unseen (ghost_expr x)
  ghost_expr_unseen (exprs.number p n ty) = unseen_then (at_unseen p) (number_unseen n ty)
  ghost_expr_unseen (exprs.true_ p) = unseen_then (at_unseen p) (ghost_word _)
  ghost_expr_unseen (exprs.false_ p) = unseen_then (at_unseen p) (ghost_word _)
  ghost_expr_unseen (exprs.result p) = unseen_then (at_unseen p) (ghost_word _)
  ghost_expr_unseen (exprs.this_ p) = unseen_then (at_unseen p) (ghost_word _)
  ghost_expr_unseen (exprs.current_thread p) = unseen_then (at_unseen p) (ghost_word _)
  ghost_expr_unseen (exprs.name_ p x) = unseen_then (at_unseen p) (identifier_unseen x)
  ghost_expr_unseen (exprs.application p f xs) = unseen_then (at_unseen p) (unseen_then (identifier_unseen f) (unseen_then (ghost_mark _) (unseen_then (ghost_arguments_unseen xs) (ghost_mark _))))
  ghost_expr_unseen (exprs.parenthesized p a) = unseen_then (at_unseen p) (unseen_then (ghost_mark _) (unseen_then (ghost_expr_unseen a) (ghost_mark _)))
  ghost_expr_unseen (exprs.conditional p c a b) = unseen_then (at_unseen p) (unseen_then (ghost_mark _) (unseen_then (ghost_expr_unseen c) (unseen_then (ghost_mark _) (unseen_then (ghost_expr_unseen a) (unseen_then (ghost_mark _) (unseen_then (ghost_expr_unseen b) (ghost_mark _)))))))
  ghost_expr_unseen (exprs.unary p o a) = unseen_then (at_unseen p) (unseen_then (ghost_mark _) (unseen_then (provided_unseen _) (ghost_expr_unseen a)))
  ghost_expr_unseen (exprs.chain p l a xs) = unseen_then (at_unseen p) (unseen_then (provided_unseen _) (unseen_then (ghost_expr_unseen a) (ghost_links_unseen l xs)))

  ghost_link_unseen : (l : Level) (x : GhostLinkTree) → Unseen (ghost_link l x)
  ghost_link_unseen l (exprs.ghost_link p o a) = unseen_then (at_unseen p) (unseen_then (provided_unseen _) (unseen_then (ghost_mark _) (ghost_expr_unseen a)))

  ghost_links_unseen : (l : Level) (xs : GhostLinkTrees) → Unseen (ghost_links l xs)
  ghost_links_unseen l no_ghost_link = nothing_unseen
  ghost_links_unseen l (more_ghost_link x xs) = unseen_then (ghost_link_unseen l x) (ghost_links_unseen l xs)

  pub ghost_arguments_unseen : (xs : GhostExprTrees) → Unseen (ghost_arguments xs)
  ghost_arguments_unseen no_ghost_expr = nothing_unseen
  ghost_arguments_unseen (more_ghost_expr x xs) = unseen_then (ghost_expr_unseen x) (more_ghost_arguments_unseen xs)

  more_ghost_arguments_unseen : (xs : GhostExprTrees) → Unseen (more_ghost_arguments xs)
  more_ghost_arguments_unseen no_ghost_expr = nothing_unseen
  more_ghost_arguments_unseen (more_ghost_expr x xs) = unseen_then (ghost_mark _) (unseen_then (ghost_expr_unseen x) (more_ghost_arguments_unseen xs))

factor_unseen : (x : Factor) → Unseen (factor x)
factor_unseen (factors.Number n ty p) = unseen_then (at_unseen p) (number_unseen n ty)
factor_unseen (factors.Name n) = (name_unseen n)

factor_link_unseen : (x : FactorLink) → Unseen (factor_link x)
unfolding factor_link
factor_link_unseen x = unseen_then (ghost_mark _) (factor_unseen x.factor)

amount_unseen : (x : Amount) → Unseen (amount x)
amount_unseen (amounts.Binds p n) = unseen_then (at_unseen p) (unseen_then (ghost_mark _) (name_unseen n))
amount_unseen (amounts.Product f links) = unseen_then (factor_unseen f) (each_unseen factor_link factor_link_unseen links)

pub share_unseen : (x : Share) → Unseen (share x)
unfolding share
share_unseen x = unseen_then (at_unseen x.place) (unseen_then (ghost_mark _) (unseen_then (amount_unseen x.amount) (ghost_mark _)))

pattern_unseen : (x : Pattern) → Unseen (pattern x)
unfolding pattern
pattern_unseen (patterns.Is e) = (ghost_expr_unseen e)
pattern_unseen (patterns.Binds p n) = unseen_then (at_unseen p) (unseen_then (ghost_mark _) (name_unseen n))
pattern_unseen (patterns.Wild p) = unseen_then (at_unseen p) wild_unseen

pattern_list_unseen : (xs : List Pattern) → Unseen (pattern_list xs)
unfolding pattern_list
pattern_list_unseen xs = unseen_then (ghost_mark _) (unseen_then (separated_unseen pattern pattern_unseen xs) (ghost_mark _))

name_list_unseen : (xs : List Name) → Unseen (name_list xs)
unfolding name_list
name_list_unseen xs = unseen_then (ghost_mark _) (unseen_then (separated_unseen (name Ghost) (λ n. (name_unseen n)) xs) (ghost_mark _))

pub case_pattern_unseen : (x : CasePattern) → Unseen (case_pattern x)
unfolding case_pattern
case_pattern_unseen x = unseen_then (name_unseen x.constructor) (optional_unseen name_list name_list_unseen x.names)

mutual
  part_unseen : (x : PartTree) → Unseen (part x)
  part_unseen (parts.conditional p c a b) = unseen_then (at_unseen p) (unseen_then (ghost_expr_unseen c) (unseen_then (ghost_mark _) (unseen_then (assertion_unseen a) (unseen_then (ghost_mark _) (assertion_unseen b)))))
  part_unseen (parts.switch_ p e cs) = unseen_then (at_unseen p) (unseen_then (ghost_word _) (unseen_then (ghost_mark _) (unseen_then (ghost_expr_unseen e) (unseen_then (ghost_mark _) (unseen_then (ghost_mark _) (unseen_then (assertion_cases_unseen cs) (ghost_mark _)))))))
  part_unseen (parts.cell p s e f v) = unseen_then (at_unseen p) (unseen_then (optional_unseen share share_unseen s) (unseen_then (ghost_expr_unseen e) (unseen_then (ghost_mark _) (unseen_then (name_unseen f) (unseen_then (ghost_mark _) (pattern_unseen v))))))
  part_unseen (parts.chunk p s n first second) = unseen_then (at_unseen p) (unseen_then (optional_unseen share share_unseen s) (unseen_then (name_unseen n) (unseen_then (pattern_list_unseen first) (optional_unseen pattern_list pattern_list_unseen second))))
  part_unseen (parts.empty_ p) = unseen_then (at_unseen p) (ghost_word _)
  part_unseen (parts.pure p e) = unseen_then (at_unseen p) (unseen_then (provided_unseen _) (ghost_expr_unseen e))
  part_unseen (parts.group p a) = unseen_then (at_unseen p) (unseen_then (provided_unseen _) (unseen_then (ghost_mark _) (unseen_then (assertion_unseen a) (ghost_mark _))))

  pub assertion_unseen : (xs : PartTrees) → Unseen (assertion xs)
  assertion_unseen no_part = never_unseen
  assertion_unseen (more_part x xs) = unseen_then (provided_unseen _) (unseen_then (part_unseen x) (more_parts_unseen xs))

  more_parts_unseen : (xs : PartTrees) → Unseen (more_parts xs)
  more_parts_unseen no_part = nothing_unseen
  more_parts_unseen (more_part x xs) = unseen_then (ghost_mark _) (unseen_then (part_unseen x) (more_parts_unseen xs))

  assertion_case_unseen : (x : AssertionCaseTree) → Unseen (assertion_case x)
  assertion_case_unseen (parts.assertion_case p c a) = unseen_then (at_unseen p) (unseen_then (ghost_word _) (unseen_then (case_pattern_unseen c) (unseen_then (ghost_mark _) (unseen_then (ghost_word _) (unseen_then (assertion_unseen a) (ghost_mark _))))))

  assertion_cases_unseen : (xs : AssertionCaseTrees) → Unseen (assertion_cases xs)
  assertion_cases_unseen no_assertion_case = nothing_unseen
  assertion_cases_unseen (more_assertion_case x xs) = unseen_then (assertion_case_unseen x) (assertion_cases_unseen xs)

mutual
  pub command_unseen : (x : GhostCommandTree) → Unseen (command x)
  command_unseen (tree.open_ p s n first second) = unseen_then (at_unseen p) (unseen_then (ghost_word _) (unseen_then (optional_unseen share share_unseen s) (unseen_then (name_unseen n) (unseen_then (pattern_list_unseen first) (unseen_then (optional_unseen pattern_list pattern_list_unseen second) (ghost_mark _))))))
  command_unseen (tree.close_ p s n first second) = unseen_then (at_unseen p) (unseen_then (ghost_word _) (unseen_then (optional_unseen share share_unseen s) (unseen_then (name_unseen n) (unseen_then (pattern_list_unseen first) (unseen_then (optional_unseen pattern_list pattern_list_unseen second) (ghost_mark _))))))
  command_unseen (tree.leak_ p a) = unseen_then (at_unseen p) (unseen_then (ghost_word _) (unseen_then (assertion_unseen (part_list a)) (ghost_mark _)))
  command_unseen (tree.assert_ p a) = unseen_then (at_unseen p) (unseen_then (ghost_word _) (unseen_then (assertion_unseen (part_list a)) (ghost_mark _)))
  command_unseen (tree.declaration p s n e) = unseen_then (at_unseen p) (unseen_then (sort_unseen s) (unseen_then (name_unseen n) (unseen_then (ghost_mark _) (unseen_then (ghost_expr_unseen e) (ghost_mark _)))))
  command_unseen (tree.assignment p x e) = unseen_then (at_unseen p) (unseen_then (identifier_unseen x) (unseen_then (ghost_mark _) (unseen_then (ghost_expr_unseen e) (ghost_mark _))))
  command_unseen (tree.call_ p f xs) = unseen_then (at_unseen p) (unseen_then (identifier_unseen f) (unseen_then (ghost_mark _) (unseen_then (ghost_arguments_unseen (ghost_expr_list xs)) (unseen_then (ghost_mark _) (ghost_mark _)))))
  command_unseen (tree.if_ p e xs) = unseen_then (at_unseen p) (unseen_then (ghost_word _) (unseen_then (ghost_mark _) (unseen_then (ghost_expr_unseen e) (unseen_then (ghost_mark _) (unseen_then (ghost_mark _) (unseen_then (commands_unseen xs) (ghost_mark _)))))))
  command_unseen (tree.if_else p e xs ys) = unseen_then (at_unseen p) (unseen_then (ghost_word _) (unseen_then (ghost_mark _) (unseen_then (ghost_expr_unseen e) (unseen_then (ghost_mark _) (unseen_then (ghost_mark _) (unseen_then (commands_unseen xs) (unseen_then (ghost_mark _) (unseen_then (ghost_word _) (unseen_then (ghost_mark _) (unseen_then (commands_unseen ys) (ghost_mark _)))))))))))
  command_unseen (tree.switch_ p e cs) = unseen_then (at_unseen p) (unseen_then (ghost_word _) (unseen_then (ghost_mark _) (unseen_then (ghost_expr_unseen e) (unseen_then (ghost_mark _) (unseen_then (ghost_mark _) (unseen_then (command_cases_unseen cs) (ghost_mark _)))))))
  command_unseen (tree.block p xs) = unseen_then (at_unseen p) (unseen_then (ghost_mark _) (unseen_then (commands_unseen xs) (ghost_mark _)))

  pub commands_unseen : (xs : GhostCommandTrees) → Unseen (commands xs)
  commands_unseen no_ghost_command = nothing_unseen
  commands_unseen (more_ghost_command x xs) = unseen_then (command_unseen x) (commands_unseen xs)

  command_case_unseen : (x : CommandCaseTree) → Unseen (command_case x)
  command_case_unseen (tree.command_case p c xs) = unseen_then (at_unseen p) (unseen_then (ghost_word _) (unseen_then (case_pattern_unseen c) (unseen_then (ghost_mark _) (commands_unseen xs))))

  command_cases_unseen : (xs : CommandCaseTrees) → Unseen (command_cases xs)
  command_cases_unseen no_command_case = nothing_unseen
  command_cases_unseen (more_command_case x xs) = unseen_then (command_case_unseen x) (command_cases_unseen xs)

pub invariant_unseen : (i : Invariant) → Unseen (invariant_walk i)
unfolding invariant_walk
invariant_unseen i = unseen_then (at_unseen i.place) (unseen_then (ghost_word _) (unseen_then (assertion_unseen (part_list i.assertion)) (ghost_mark _)))

pub contract_unseen : (c : Contract) → Unseen (contract c)
unfolding contract
contract_unseen c = unseen_then (at_unseen c.place) (unseen_then (ghost_word _) (unseen_then (assertion_unseen (part_list c.precondition)) (unseen_then (ghost_mark _) (unseen_then (ghost_word _) (unseen_then (assertion_unseen (part_list c.postcondition)) (ghost_mark _))))))

pub claim_unseen : (c : Claim) → Unseen (claim c)
unfolding claim
claim_unseen c = unseen_then (at_unseen c.place) (unseen_then (ghost_mark _) (name_unseen c.name))
