use Rattle.std.proofs.Common.{◌≡◌, ◌+◌, ◌-◌, ◌*◌}
use Rattle.vf_lexer.specs.declared.punctuator.Punctuator.TheVariants.{Comma}
use Rattle.vf_syntax.specs.declared.side.Side.TheVariants.{Ghost}
use Rattle.vf_syntax.specs.Walks.{is_mark}
use Rattle.vf_cursor.specs.Parsing.{many_at, many}
use Rattle.vf_parse_term.specs.Pieces.{comma_step}
use Rattle.vf_parse_term.specs.Sorts.{sort_at}
use Rattle.vf_parse_term.proofs.sorts.+sort.Given as goal

abbrev pub decreases-sort : goal.decreases-sort
decreases-sort l = 10 * l.depth

abbrev pub decreases-sort_form : goal.decreases-sort_form
decreases-sort_form l = 10 * l.depth + 7

abbrev pub decreases-predicate_sort : goal.decreases-predicate_sort
decreases-predicate_sort l = 10 * l.depth + 6

abbrev pub decreases-named_sort : goal.decreases-named_sort
decreases-named_sort l = 10 * l.depth + 6

abbrev pub decreases-applied_sort : goal.decreases-applied_sort
decreases-applied_sort l = 10 * l.depth + 5

abbrev pub decreases-any_sorts : goal.decreases-any_sorts
decreases-any_sorts l = 10 * l.depth + 4

abbrev pub decreases-some_sorts : goal.decreases-some_sorts
decreases-some_sorts l = 10 * l.depth + 3

abbrev pub decreases-more_sorts : goal.decreases-more_sorts
decreases-more_sorts l = 10 * l.depth + 2

abbrev pub decreases-one_more_sort : goal.decreases-one_more_sort
decreases-one_more_sort l = 10 * l.depth + 1

abbrev pub invariant-more_sorts-loop-i : goal.invariant-more_sorts-loop-i
invariant-more_sorts-loop-i l = many_at (l.most - l.i) (is_mark Ghost Comma) (comma_step (sort_at l.depth)) l.sorts l.cursor.left.now ≡ many (is_mark Ghost Comma) (comma_step (sort_at l.depth)) l.fn.first l.fn.cursor.left.now
