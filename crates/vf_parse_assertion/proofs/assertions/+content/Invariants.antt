use Rattle.std.proofs.Common.{◌≡◌, [], ◌+◌, ◌-◌, ◌*◌}
use Rattle.vf_lexer.specs.declared.punctuator.Punctuator.TheVariants.{SeparatingAnd}
use Rattle.vf_syntax.specs.declared.keyword.Keyword.TheVariants.{Case}
use Rattle.vf_syntax.specs.declared.side.Side.TheVariants.{Ghost}
use Rattle.vf_syntax.specs.Walks.{is_mark, is_word}
use Rattle.vf_cursor.specs.Parsing.{many_at}
use Rattle.vf_parse_assertion.specs.Parsers.{case_step, cases_at, part_step, more_parts_at, content_at}
use Rattle.vf_parse_assertion.proofs.assertions.+content.Given as goal

abbrev pub decreases-content : goal.decreases-content
decreases-content l = 16 * l.depth

abbrev pub decreases-several : goal.decreases-several
decreases-several l = 16 * l.depth + 13

abbrev pub decreases-more_parts : goal.decreases-more_parts
decreases-more_parts l = 16 * l.depth + 12

abbrev pub decreases-one_more_part : goal.decreases-one_more_part
decreases-one_more_part l = 16 * l.depth + 11

abbrev pub decreases-piece : goal.decreases-piece
decreases-piece l = 16 * l.depth + 10

abbrev pub decreases-opening : goal.decreases-opening
decreases-opening l = 16 * l.depth + 9

abbrev pub decreases-further : goal.decreases-further
decreases-further l = 16 * l.depth + 9

abbrev pub decreases-conditional : goal.decreases-conditional
decreases-conditional l = 16 * l.depth + 8

abbrev pub decreases-second_branch : goal.decreases-second_branch
decreases-second_branch l = 16 * l.depth + 7

abbrev pub decreases-switch : goal.decreases-switch
decreases-switch l = 16 * l.depth + 8

abbrev pub decreases-cases : goal.decreases-cases
decreases-cases l = 16 * l.depth + 7

abbrev pub decreases-one_more_case : goal.decreases-one_more_case
decreases-one_more_case l = 16 * l.depth + 6

abbrev pub invariant-more_parts-loop-i : goal.invariant-more_parts-loop-i
invariant-more_parts-loop-i l = many_at (l.most - l.i) (is_mark Ghost SeparatingAnd) (part_step l.depth (content_at l.depth)) l.parts l.cursor.left.now ≡ more_parts_at l.depth (content_at l.depth) l.fn.first l.fn.cursor.left.now

abbrev pub invariant-cases-loop-i : goal.invariant-cases-loop-i
invariant-cases-loop-i l = many_at (l.most - l.i) (is_word Ghost Case) (case_step (content_at l.depth)) l.cases l.cursor.left.now ≡ cases_at (content_at l.depth) l.fn.cursor.left.now
