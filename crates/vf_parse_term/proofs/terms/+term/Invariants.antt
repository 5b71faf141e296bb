use Rattle.std.proofs.Common.{◌≡◌, ◌+◌, ◌-◌, ◌*◌}
use Rattle.vf_lexer.specs.declared.punctuator.Punctuator.TheVariants.{Comma}
use Rattle.vf_syntax.specs.declared.side.Side.TheVariants.{Ghost}
use Rattle.vf_syntax.specs.Walks.{is_mark}
use Rattle.vf_cursor.specs.Parsing.{many_at, many}
use Rattle.vf_parse_term.specs.Pieces.{comma_step}
use Rattle.vf_parse_term.specs.Terms.{term_at, joins, link_step, joined_at, operand_at}
use Rattle.vf_parse_term.proofs.terms.+term.Given as goal

abbrev pub decreases-term : goal.decreases-term
decreases-term l = 60 * l.depth

abbrev pub decreases-branch : goal.decreases-branch
decreases-branch l = 60 * l.depth

abbrev pub decreases-unary : goal.decreases-unary
decreases-unary l = 60 * l.depth + 1

abbrev pub decreases-operand : goal.decreases-operand
decreases-operand l = 60 * l.depth + 11

abbrev pub decreases-primary : goal.decreases-primary
decreases-primary l = 60 * l.depth + 10

abbrev pub decreases-primary_form : goal.decreases-primary_form
decreases-primary_form l = 60 * l.depth + 9

abbrev pub decreases-parenthesized : goal.decreases-parenthesized
decreases-parenthesized l = 60 * l.depth + 8

abbrev pub decreases-branches : goal.decreases-branches
decreases-branches l = 60 * l.depth + 7

abbrev pub decreases-named : goal.decreases-named
decreases-named l = 60 * l.depth + 8

abbrev pub decreases-arguments : goal.decreases-arguments
decreases-arguments l = 60 * l.depth + 7

abbrev pub decreases-any_terms : goal.decreases-any_terms
decreases-any_terms l = 60 * l.depth + 6

abbrev pub decreases-some_terms : goal.decreases-some_terms
decreases-some_terms l = 60 * l.depth + 5

abbrev pub decreases-more_terms : goal.decreases-more_terms
decreases-more_terms l = 60 * l.depth + 4

abbrev pub decreases-one_more_term : goal.decreases-one_more_term
decreases-one_more_term l = 60 * l.depth + 3

abbrev pub decreases-joined : goal.decreases-joined
decreases-joined l = 60 * l.depth + 12 + 6 * l.levels

abbrev pub decreases-rest : goal.decreases-rest
decreases-rest l = 60 * l.depth + 11 + 6 * l.levels

abbrev pub decreases-chain : goal.decreases-chain
decreases-chain l = 60 * l.depth + 16 + 6 * l.below

abbrev pub decreases-more_links : goal.decreases-more_links
decreases-more_links l = 60 * l.depth + 15 + 6 * l.below

abbrev pub decreases-one_more_link : goal.decreases-one_more_link
decreases-one_more_link l = 60 * l.depth + 14 + 6 * l.below

abbrev pub decreases-link : goal.decreases-link
decreases-link l = 60 * l.depth + 13 + 6 * l.below

abbrev pub invariant-more_terms-loop-i : goal.invariant-more_terms-loop-i
invariant-more_terms-loop-i l = many_at (l.most - l.i) (is_mark Ghost Comma) (comma_step (term_at l.depth)) l.terms l.cursor.left.now ≡ many (is_mark Ghost Comma) (comma_step (term_at l.depth)) l.fn.first l.fn.cursor.left.now

abbrev pub invariant-more_links-loop-i : goal.invariant-more_links-loop-i
invariant-more_links-loop-i l = many_at (l.most - l.i) (joins l.level) (link_step l.level (joined_at (operand_at l.depth) l.below)) l.links l.cursor.left.now ≡ many (joins l.level) (link_step l.level (joined_at (operand_at l.depth) l.below)) l.fn.first l.fn.cursor.left.now

abbrev pub decreases-second_branch : goal.decreases-second_branch
decreases-second_branch l = 60 * l.depth + 6
