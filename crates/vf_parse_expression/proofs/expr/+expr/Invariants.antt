use Rattle.std.proofs.Common.{◌≡◌, ◌+◌, ◌-◌, ◌*◌}
use Rattle.vf_lexer.specs.declared.punctuator.Punctuator.TheVariants.{Comma}
use Rattle.vf_syntax.specs.declared.side.Side.TheVariants.{Real}
use Rattle.vf_syntax.specs.Walks.{is_mark}
use Rattle.vf_cursor.specs.Parsing.{many_at, item_step}
use Rattle.vf_parse_expression.specs.Operands.{joins, is_part, nth_level}
use Rattle.vf_parse_expression.specs.Parsers.{expr_at, link_at, links_at, tier_at, operand_at, part_at, parts_at, next_argument_at, more_arguments_at}
use Rattle.vf_parse_expression.proofs.expr.+expr.Given as goal

abbrev pub decreases-expr : goal.decreases-expr
decreases-expr l = 40 * l.depth + 1

abbrev pub decreases-conditional : goal.decreases-conditional
decreases-conditional l = 40 * l.depth + 38

abbrev pub decreases-choice : goal.decreases-choice
decreases-choice l = 40 * l.depth + 37

abbrev pub decreases-tier : goal.decreases-tier
decreases-tier l = 40 * l.depth + 10 + 4 * l.levels

abbrev pub decreases-chain : goal.decreases-chain
decreases-chain l = 40 * l.depth + 13 + 4 * l.below

abbrev pub decreases-links : goal.decreases-links
decreases-links l = 40 * l.depth + 12 + 4 * l.below

abbrev pub decreases-link : goal.decreases-link
decreases-link l = 40 * l.depth + 11 + 4 * l.below

abbrev pub decreases-unary : goal.decreases-unary
decreases-unary l = 40 * l.depth + 1

abbrev pub decreases-operand : goal.decreases-operand
decreases-operand l = 40 * l.depth + 9

abbrev pub decreases-signed : goal.decreases-signed
decreases-signed l = 40 * l.depth + 2

abbrev pub decreases-cast : goal.decreases-cast
decreases-cast l = 40 * l.depth + 2

abbrev pub decreases-postfix : goal.decreases-postfix
decreases-postfix l = 40 * l.depth + 8

abbrev pub decreases-parts : goal.decreases-parts
decreases-parts l = 40 * l.depth + 7

abbrev pub decreases-part : goal.decreases-part
decreases-part l = 40 * l.depth + 6

abbrev pub decreases-index : goal.decreases-index
decreases-index l = 40 * l.depth + 2

abbrev pub decreases-call : goal.decreases-call
decreases-call l = 40 * l.depth + 5

abbrev pub decreases-arguments : goal.decreases-arguments
decreases-arguments l = 40 * l.depth + 4

abbrev pub decreases-more_arguments : goal.decreases-more_arguments
decreases-more_arguments l = 40 * l.depth + 3

abbrev pub decreases-next_argument : goal.decreases-next_argument
decreases-next_argument l = 40 * l.depth + 2

abbrev pub decreases-primary : goal.decreases-primary
decreases-primary l = 40 * l.depth + 6

abbrev pub decreases-word_primary : goal.decreases-word_primary
decreases-word_primary l = 40 * l.depth + 5

abbrev pub decreases-parenthesized : goal.decreases-parenthesized
decreases-parenthesized l = 40 * l.depth + 4

abbrev pub decreases-malloc : goal.decreases-malloc
decreases-malloc l = 40 * l.depth + 4

abbrev pub decreases-malloc_ints : goal.decreases-malloc_ints
decreases-malloc_ints l = 40 * l.depth + 3

abbrev pub decreases-factor : goal.decreases-factor
decreases-factor l = 40 * l.depth + 1

abbrev pub invariant-links-loop-i : goal.invariant-links-loop-i
invariant-links-loop-i l = many_at (l.most - l.i) (joins (nth_level l.below)) (item_step (link_at (nth_level l.below) (tier_at (operand_at l.depth) l.below))) l.links l.cursor.left.now ≡ links_at (nth_level l.below) (tier_at (operand_at l.depth) l.below) l.fn.cursor.left.now

abbrev pub invariant-parts-loop-i : goal.invariant-parts-loop-i
invariant-parts-loop-i l = many_at (l.most - l.i) is_part (item_step (part_at (expr_at l.depth))) l.parts l.cursor.left.now ≡ parts_at (expr_at l.depth) l.fn.cursor.left.now

abbrev pub invariant-more_arguments-loop-i : goal.invariant-more_arguments-loop-i
invariant-more_arguments-loop-i l = many_at (l.most - l.i) (is_mark Real Comma) (item_step (next_argument_at (expr_at l.depth))) l.given l.cursor.left.now ≡ more_arguments_at (expr_at l.depth) l.fn.first l.fn.cursor.left.now
