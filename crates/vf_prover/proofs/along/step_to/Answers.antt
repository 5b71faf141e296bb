use Rattle.std.proofs.Common.{rules, ◌≡◌, ◌++◌, ◌∷◌, []}
use Rattle.vf_definitions.specs.Unfolded.{unfoldings_of}
use Rattle.vf_prover.proofs.Stepping.{stands_here, goes_on, fact_plain}
use Rattle.vf_prover.proofs.along.step_to.Goals as goal

pub push-requires-clause-turn : goal.push-requires-clause-turn
push-requires-clause-turn c = (stands_here (unfoldings_of c.args.definitions.now) c.args.trail.now.facts c.args.nodes.now.items c.args.path.now c.requires.along).enough.turn

pub push-requires-clause-plain : goal.push-requires-clause-plain
push-requires-clause-plain c = fact_plain c.args.trail.now.facts _ c.get.result.now c.requires.plain c.get.ensures

pub returns-clause-along : goal.returns-clause-along
returns-clause-along c =
    let now : c.push_reserved.new.self.items ≡ c.args.nodes.now.items ++ c.args.node ∷ [] = search rules in
    goes_on (unfoldings_of c.args.definitions.now) c.args.trail.now.facts c.args.nodes.now.items c.push_reserved.new.self.items c.args.node c.get.result.now c.args.path.now c.push.new.self now c.requires.along c.requires.child.there
    (c.requires.child.path c.get.result.now c.get.ensures) c.in_ok-push.ensures.levels c.in_ok-push.ensures.facts c.in_ok-push.ensures.enough
