use Rattle.std.proofs.Common.{◌≡◌, ◌++◌, drop}
use Rattle.vf_mentions.specs.GhostText.{mentioned_in_patterns}
use Rattle.vf_mentions.proofs.ghost_expr.find_in_patterns.Given as goal

-- what was found and what the patterns mention that are left
abbrev pub invariant-loop-at : goal.invariant-loop-at
invariant-loop-at l = l.found ++ mentioned_in_patterns l.fn.locals (drop l.at l.fn.patterns) ≡ l.initial.found ++ mentioned_in_patterns l.fn.locals l.fn.patterns
