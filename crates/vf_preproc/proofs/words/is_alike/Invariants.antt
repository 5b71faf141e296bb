-- The lists look alike where their rests do.
use Rattle.std.proofs.Common.{◌≡◌, drop}
use Rattle.vf_preproc.specs.Directives.{is_alike}
use Rattle.vf_preproc.proofs.words.is_alike.Given as goal

abbrev pub invariant-loop-at : goal.invariant-loop-at
invariant-loop-at l = is_alike l.first l.second ≡ is_alike (drop l.at l.first) (drop l.at l.second)
