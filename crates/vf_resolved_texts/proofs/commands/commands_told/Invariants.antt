use Rattle.std.proofs.Common.{drop}
use Rattle.vf_resolving.specs.Standings.{standing_of}
use Rattle.vf_resolved_texts.proofs.Steps.{GoOn}
use Rattle.vf_resolved_texts.proofs.commands.commands_told.Given as goal

-- the commands that are left go on behind those that were resolved
abbrev pub invariant-loop-at : goal.invariant-loop-at
invariant-loop-at l = GoOn l.around l.paths l.commands (drop l.at l.commands) (standing_of l.fn.standing) (standing_of l.standing) l.all
