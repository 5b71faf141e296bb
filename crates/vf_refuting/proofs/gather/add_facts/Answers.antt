use Rattle.std.proofs.Common.{◌∙◌, ap, sym, subst, below_more, slice_get, slice_index_or, List}
use Rattle.std.proofs.lemmas.Option.{get_or_from_slice_get}
use Rattle.vf_refute.specs.declared.steps.Fact.{Fact}
use Rattle.vf_ground.specs.Held.{HasFact}
use Rattle.vf_ground.proofs.Gained.{fact_kept}
use Rattle.vf_refuting.proofs.Running.{goes_more}
use Rattle.vf_refuting.proofs.gather.add_facts.Goals as goal

pub loop-i-preserved : goal.loop-i-preserved
loop-i-preserved c =
    let g = c.in_ok-add_fact.ensures.goes in
    let inv = c.loop-i.invariant in
    record {
      goes = goes_more inv.goes g;
      has = λ k d l. below_more (λ j. HasFact c.add_fact.new.run.classes.merged c.add_fact.new.run.bounds.edges (slice_index_or c.args.run.now.log.facts j d)) c.loop-i.i
          (λ j m. fact_kept c.loop-i.run.classes.merged c.loop-i.run.bounds.edges c.add_fact.new.run.classes.merged c.add_fact.new.run.bounds.edges g.merged g.edges (slice_index_or c.args.run.now.log.facts j d) (inv.has j d m))
          (subst (λ (f : Fact). HasFact c.add_fact.new.run.classes.merged c.add_fact.new.run.bounds.edges f)
          (sym (get_or_from_slice_get c.args.run.now.log.facts c.loop-i.i c.fact_at-fact.result d (ap (λ (fs : List Fact). slice_get fs c.loop-i.i) (sym inv.goes.log.facts) ∙ c.fact_at-fact.ensures)))
          c.in_ok-add_fact.ensures.has) k l;
    }
