use Rattle.std.proofs.Common.{sym, ◌∙◌, subst, length, List}
use Rattle.std.specs.Prelude.{All}
use Rattle.vf_table.specs.declared.node.Node.{Node}
use Rattle.vf_table.specs.Tables.{PartsAreBelow}
use Rattle.vf_refute.specs.declared.steps.Fact.{Fact}
use Rattle.vf_refute.specs.Closure.{Conflict}
use Rattle.vf_ground.specs.Held.{IsFine, HasSmallNumber}
use Rattle.vf_refuting.proofs.Copied.{reversed, all_fine}
use Rattle.vf_refuting.proofs.Ending.{none_at_all, told_none}
use Rattle.vf_refuting.proofs.verdict.refutation.Goals as goal

pub close-requires-clause-fine : goal.close-requires-clause-fine
close-requires-clause-fine c =
    subst (λ (ns : List Node). All (IsFine ns) c.in_ok-run.run'.log.facts) (sym c.in_ok-run.ensures.nodes)
    (subst (λ (fs : List Fact). All (IsFine c.args.nodes.items) fs) (sym c.in_ok-run.ensures.facts) c.requires.fine)

pub close-requires-clause-small : goal.close-requires-clause-small
close-requires-clause-small c = subst (λ (ns : List Node). All HasSmallNumber ns) (sym c.in_ok-run.ensures.nodes) c.requires.small

pub close-requires-clause-parts : goal.close-requires-clause-parts
close-requires-clause-parts c = subst (λ (ns : List Node). PartsAreBelow ns (length ns)) (sym c.in_ok-run.ensures.nodes) c.requires.parts

pub end-requires-clause-fine : goal.end-requires-clause-fine
end-requires-clause-fine c =
    let g = c.in_ok-close.ensures.goes in
    all_fine c.close.new.run.log.nodes c.close.new.run.classes.nodes c.close.new.run.log.facts (reversed c.close.new.run.classes.nodes c.close.new.run.log.nodes g.is.terms)
    (subst (λ (ns : List Node). All (IsFine ns) c.close.new.run.log.facts) (sym (g.log.nodes ∙ c.in_ok-run.ensures.nodes))
    (subst (λ (fs : List Fact). All (IsFine c.args.nodes.items) fs) (sym (g.log.facts ∙ c.in_ok-run.ensures.facts)) c.requires.fine))

pub returns-in-None : goal.returns-in-None
returns-in-None c = none_at_all c.in_ok-run.run' c.close.new.run c.args.nodes.items c.args.facts.items c.in_ok-close.ensures.goes c.in_ok-run.ensures.nodes c.in_ok-run.ensures.facts (told_none c.in_ok-step.field-0 (Conflict c.close.new.run.classes.nodes c.close.new.run.log.facts → ⊥) _ c.in-None.is c.in_ok-step.ensures.ends)
