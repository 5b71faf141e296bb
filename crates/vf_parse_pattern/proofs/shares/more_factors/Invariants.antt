use Rattle.std.proofs.Common.{◌≡◌, ◌-◌}
use Rattle.vf_cursor.specs.Parsing.{many_at, many}
use Rattle.vf_parse_pattern.specs.Shares.{is_factor_mark, factor_step}
use Rattle.vf_parse_pattern.proofs.shares.more_factors.Given as goal

abbrev pub invariant-loop-i : goal.invariant-loop-i
invariant-loop-i l = many_at (l.most - l.i) is_factor_mark factor_step l.links l.cursor.left.now ≡ many is_factor_mark factor_step l.fn.first l.fn.cursor.left.now
