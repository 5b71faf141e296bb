use Rattle.std.proofs.Common.{◌≡◌, [], ◌-◌}
use Rattle.vf_syntax.specs.declared.keyword.Keyword.TheVariants.{Case}
use Rattle.vf_syntax.specs.declared.side.Side.TheVariants.{Ghost}
use Rattle.vf_syntax.specs.Walks.{is_word}
use Rattle.vf_cursor.specs.Parsing.{many_at}
use Rattle.vf_parse_ghost.specs.Fixpoints.{case_step, cases_at}
use Rattle.vf_parse_ghost.proofs.fixpoints.cases.Given as goal

abbrev pub invariant-loop-i : goal.invariant-loop-i
invariant-loop-i l = many_at (l.most - l.i) (is_word Ghost Case) (case_step l.depth) l.cases l.cursor.left.now ≡ cases_at l.depth l.fn.cursor.left.now
