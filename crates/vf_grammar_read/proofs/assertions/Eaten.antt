-- A spelled part, assertion or case takes a token at least.
use Rattle.std.proofs.Common.{List, Option, Some, None}
use Rattle.vf_syntax.specs.declared.side.Side.TheVariants.{Ghost}
use Rattle.vf_syntax.specs.declared.written.Name.{Name}
use Rattle.vf_syntax.specs.declared.pattern.Pattern.{Pattern}
use Rattle.vf_syntax.specs.declared.pattern.Share.{Share}
use Rattle.vf_syntax.specs.declared.pattern.Amount.{Amount}
use Rattle.vf_syntax.specs.declared.pattern.Amount.TheVariants as amounts
use Rattle.vf_syntax.specs.declared.pattern.FactorLink.{FactorLink}
use Rattle.vf_syntax.specs.declared.pattern.CasePattern.{CasePattern}
use Rattle.vf_syntax.specs.AssertionTree.{PartTree, PartTrees, no_part, more_part, AssertionCaseTree, AssertionCaseTrees, no_assertion_case, more_assertion_case}
use Rattle.vf_syntax.specs.AssertionTree as tree
use Rattle.vf_syntax.specs.Written.{name}
use Rattle.vf_syntax.specs.Lists.{optional}
use Rattle.vf_syntax.specs.Assertions.{factor_link, amount, share, pattern, pattern_list, name_list, case_pattern, part, assertion, more_parts, assertion_case, assertion_cases}
use Rattle.vf_grammar_read.proofs.expressions.Eaten.{Keeps, Eats, keeps, keep_then, eat_then, then_eat, nothing_keeps, provided_keeps, at_keeps, mark_eats, word_eats, name_eats}
use Rattle.vf_grammar_read.proofs.terms.Eaten.{term_eats}
use Rattle.vf_grammar_read.proofs.terms.Lists.{separated_keep, each_keep}
use Rattle.vf_grammar_read.proofs.patterns.SharesFull.{factor_eats}
use Rattle.vf_grammar_read.proofs.patterns.PatternsFull.{pattern_eats}

link_eats : (x : FactorLink) → Eats (factor_link x)
unfolding factor_link
link_eats x = eat_then (mark_eats _ _) (keeps (factor_eats x.factor))

amount_keeps : (x : Amount) → Keeps (amount x)
amount_keeps (amounts.Binds p n) = keep_then (at_keeps p) (keep_then (keeps (mark_eats _ _)) (keeps (name_eats _ n)))
amount_keeps (amounts.Product f links) = keep_then (keeps (factor_eats f)) (each_keep factor_link link_eats links)

pub share_eats : (x : Share) → Eats (share x)
unfolding share
share_eats x = then_eat (at_keeps x.place) (eat_then (mark_eats _ _) (keep_then (amount_keeps x.amount) (keeps (mark_eats _ _))))

pub any_share_keeps : (x : Option Share) → Keeps (optional share x)
any_share_keeps None = nothing_keeps
any_share_keeps (Some x) = keeps (share_eats x)

pub list_eats : (xs : List Pattern) → Eats (pattern_list xs)
unfolding pattern_list
list_eats xs = eat_then (mark_eats _ _) (keep_then (separated_keep pattern pattern_eats xs) (keeps (mark_eats _ _)))

pub any_list_keeps : (x : Option (List Pattern)) → Keeps (optional pattern_list x)
any_list_keeps None = nothing_keeps
any_list_keeps (Some xs) = keeps (list_eats xs)

names_eat : (xs : List Name) → Eats (name_list xs)
unfolding name_list
names_eat xs = eat_then (mark_eats _ _) (keep_then (separated_keep (name Ghost) (name_eats Ghost) xs) (keeps (mark_eats _ _)))

any_names_keep : (x : Option (List Name)) → Keeps (optional name_list x)
any_names_keep None = nothing_keeps
any_names_keep (Some xs) = keeps (names_eat xs)

pub case_pattern_eats : (x : CasePattern) → Eats (case_pattern x)
unfolding case_pattern
case_pattern_eats x = eat_then (name_eats _ x.constructor) (any_names_keep x.names)

mutual
  pub part_eats : (x : PartTree) → Eats (part x)
  part_eats (tree.conditional p c a b) = then_eat (at_keeps p) (eat_then (term_eats c) (keeps (eat_then (mark_eats _ _) (keep_then (assertion_keeps a) (keeps (eat_then (mark_eats _ _) (assertion_keeps b)))))))
  part_eats (tree.switch_ p e cs) = then_eat (at_keeps p) (eat_then (word_eats _ _) (keeps (eat_then (mark_eats _ _) (keeps (eat_then (term_eats e) (keeps (eat_then (mark_eats _ _) (keeps (eat_then (mark_eats _ _) (keep_then (cases_keep cs) (keeps (mark_eats _ _))))))))))))
  part_eats (tree.cell p s e f v) = then_eat (at_keeps p) (then_eat (any_share_keeps s) (eat_then (term_eats e) (keeps (eat_then (mark_eats _ _) (keeps (eat_then (name_eats _ f) (keeps (eat_then (mark_eats _ _) (keeps (pattern_eats v))))))))))
  part_eats (tree.chunk p s n xs ys) = then_eat (at_keeps p) (then_eat (any_share_keeps s) (eat_then (name_eats _ n) (keeps (eat_then (list_eats xs) (any_list_keeps ys)))))
  part_eats (tree.empty_ p) = then_eat (at_keeps p) (word_eats _ _)
  part_eats (tree.pure p e) = then_eat (at_keeps p) (then_eat (provided_keeps _) (term_eats e))
  part_eats (tree.group p a) = then_eat (at_keeps p) (then_eat (provided_keeps _) (eat_then (mark_eats _ _) (keep_then (assertion_keeps a) (keeps (mark_eats _ _)))))

  pub assertion_keeps : (xs : PartTrees) → Keeps (assertion xs)
  assertion_keeps no_part = record { keep = λ ts rest h. absurd cc }
  assertion_keeps (more_part x xs) = keep_then (provided_keeps _) (keep_then (keeps (part_eats x)) (more_parts_keep xs))

  more_parts_keep : (xs : PartTrees) → Keeps (more_parts xs)
  more_parts_keep no_part = nothing_keeps
  more_parts_keep (more_part x xs) = keep_then (keeps (mark_eats _ _)) (keep_then (keeps (part_eats x)) (more_parts_keep xs))

  pub case_eats : (x : AssertionCaseTree) → Eats (assertion_case x)
  case_eats (tree.assertion_case p c a) = then_eat (at_keeps p) (eat_then (word_eats _ _) (keeps (eat_then (case_pattern_eats c) (keeps (eat_then (mark_eats _ _) (keeps (eat_then (word_eats _ _) (keep_then (assertion_keeps a) (keeps (mark_eats _ _))))))))))

  cases_keep : (xs : AssertionCaseTrees) → Keeps (assertion_cases xs)
  cases_keep no_assertion_case = nothing_keeps
  cases_keep (more_assertion_case x xs) = keep_then (keeps (case_eats x)) (cases_keep xs)
