use Rattle.std.proofs.Common.{◌≡◌, true, false, subst}
use Rattle.std.proofs.lemmas.List.Elements.{All-contains}
use Rattle.vf_refute.specs.declared.steps.Fact.{Fact}
use Rattle.vf_ground.specs.Held.{IsFine, IsContradicted}
use Rattle.vf_refuting.proofs.Ending.{contains_got, none_ends}
use Rattle.vf_refuting.proofs.verdict.end.Goals as goal

pub end_at_fact-requires-clause-fine : goal.end_at_fact-requires-clause-fine
end_at_fact-requires-clause-fine c = All-contains (IsFine c.args.run.now.classes.nodes) c.args.run.now.log.facts c.fact_at-fact.result c.requires.fine (contains_got c.args.run.now.log.facts c.in-Some-find_contradicted.i c.fact_at-fact.result c.fact_at-fact.ensures)

pub end_at_fact-requires-clause-contradicted : goal.end_at_fact-requires-clause-contradicted
end_at_fact-requires-clause-contradicted c =
    let s = c.in-Some-find_contradicted.ensures in
    let a = s.1 in
    let b = c.fact_at-fact.ensures in
    let e : s.0 ≡ c.fact_at-fact.result = cc in
    subst (λ (f : Fact). IsContradicted c.args.run.now.classes.nodes c.args.run.now.classes.merged c.args.run.now.bounds.edges f) e s.2

pub returns-in-None-clause-ends : goal.returns-in-None-clause-ends
returns-in-None-clause-ends c =
    none_ends c.args.run.now.classes.nodes c.args.run.now.log.facts c.args.run.now.classes.merged c.args.run.now.bounds.edges
    (c.requires.complete (λ h. let e : false ≡ true = c.if-conflict.ensures.1 h in cc))
    (λ h. let e : false ≡ true = c.if-conflict.ensures.1 h in cc)
    c.in_default.ensures c.in-None.ensures
