use Rattle.std.proofs.Common.{◌≡◌, replicate, None}
use Rattle.vf_exec.specs.Small.{AreSmall}
use Rattle.vf_exec.proofs.body.unset_locals.Given as goal

-- as many as the turns so far
abbrev pub invariant-loop : goal.invariant-loop
invariant-loop l = record { unset : l.locals ≡ replicate l.counter None; small : AreSmall l.locals }
