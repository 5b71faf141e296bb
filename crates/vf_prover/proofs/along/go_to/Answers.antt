use Rattle.std.proofs.Common.{List, refl, subst}
use Rattle.vf_trail.specs.declared.node.Node.{Node}
use Rattle.vf_definitions.specs.Unfolded.{unfoldings_of}
use Rattle.vf_prover.specs.Along.{HasCome}
use Rattle.vf_prover.proofs.Stepping.{as_many_levels, stands_here, few_at_end, facts_where_few}
use Rattle.vf_prover.proofs.along.go_to.Goals as goal

pub step_back-requires-clause-long : goal.step_back-requires-clause-long
step_back-requires-clause-long c = as_many_levels (unfoldings_of c.args.definitions.now) c.args.trail.now.facts c.args.nodes.now.items c.args.path.now c.requires.along

pub descend-requires-clause-along : goal.descend-requires-clause-along
descend-requires-clause-along c = c.step_back.ensures.along (unfoldings_of c.args.definitions.now) c.args.trail.now.facts c.requires.along

pub returns-clause-few : goal.returns-clause-few
returns-clause-few c =
    let line = c.in_ok-line.line.items in
    let now = c.descend.new in
    let come = subst (λ (ns : List Node). HasCome ns now.nodes.items now.path) c.deref-3.ensures.value c.in_ok-descend.ensures.come in
    few_at_end (unfoldings_of c.args.definitions.now) c.args.trail.now.facts line now.nodes.items c.args.at.number now.path c.in_ok-line.ensures c.descend.ensures.along come _ c.count.result refl c.count.ensures

pub returns-clause-facts : goal.returns-clause-facts
returns-clause-facts c =
    let line = c.in_ok-line.line.items in
    let now = c.descend.new in
    let come = subst (λ (ns : List Node). HasCome ns now.nodes.items now.path) c.deref-3.ensures.value c.in_ok-descend.ensures.come in
    facts_where_few (unfoldings_of c.args.definitions.now) c.args.trail.now.facts line now.nodes.items c.args.at.number now.path c.in_ok-line.ensures c.descend.ensures.along come _ c.count.result refl c.count.ensures

pub returns-clause-enough : goal.returns-clause-enough
returns-clause-enough c =
    let s = stands_here (unfoldings_of c.args.definitions.now) c.args.trail.now.facts c.descend.new.nodes.items c.descend.new.path c.descend.ensures.along in
    s.enough
