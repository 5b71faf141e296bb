use Rattle.std.proofs.Common.{◌≡◌, map, take}
use Rattle.vf_formula.specs.Literals.{shown_literal}
use Rattle.vf_recheck.proofs.tables.Tables.follow.Given as goal

abbrev pub invariant-loop-at : goal.invariant-loop-at
invariant-loop-at l = l.self ≡ map shown_literal (take l.at l.literals)
