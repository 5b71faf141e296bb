use Rattle.std.proofs.Common.{rules, ◌≡◌, [], List, subst}
use Rattle.vf_definitions.specs.Unfolded.{unfoldings_of}
use Rattle.vf_unfolding.specs.Walked.{Walked}
use Rattle.vf_prover.specs.Along.{StandBy}
use Rattle.vf_prover.proofs.Stepping.{at_root}
use Rattle.vf_prover.proofs.along.take_path.Goals as goal

pub returns-in_ok-path-in-None-clause-along : goal.returns-in_ok-path-in-None-clause-along
returns-in_ok-path-in-None-clause-along c = λ facts nodes h.
    let none : c.args.paths.now.items ≡ [] = search rules in
    let e : nodes ≡ [] = subst (λ (ps : List Walked). StandBy (unfoldings_of c.args.definitions.now) facts ps nodes) none h in
    at_root (unfoldings_of c.args.definitions.now) facts nodes c.in_ok-path-in-None.path e c.in_ok-path-in-None.ensures.facts c.in_ok-path-in-None.ensures.levels c.in_ok-path-in-None.ensures.enough
