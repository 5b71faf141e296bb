use Rattle.std.proofs.Common.{◌≡◌, ◌-◌}
use Rattle.vf_cursor.specs.Parsing.{many_at}
use Rattle.vf_parse_ghost.specs.Parameters.{is_separator, parameter_step, more_parameters_at}
use Rattle.vf_parse_ghost.proofs.parameters.more_parameters.Given as goal

abbrev pub invariant-loop-i : goal.invariant-loop-i
invariant-loop-i l = many_at (l.most - l.i) is_separator (parameter_step l.depth) l.parameters l.cursor.left.now ≡ more_parameters_at l.depth l.fn.first l.fn.cursor.left.now
