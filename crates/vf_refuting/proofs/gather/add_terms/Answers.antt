use Rattle.std.proofs.Common.{sym, subst, below_more, length, List}
use Rattle.vf_table.specs.declared.node.Node.{Node}
use Rattle.vf_table.specs.Tables.{PartsAreBelow}
use Rattle.vf_ground.specs.Held.{HasTerm}
use Rattle.vf_ground.proofs.Gained.{term_kept}
use Rattle.vf_refuting.proofs.Running.{goes_more}
use Rattle.vf_refuting.proofs.gather.add_terms.Goals as goal

pub add_term-requires-clause-parts : goal.add_term-requires-clause-parts
add_term-requires-clause-parts c = subst (λ (ns : List Node). PartsAreBelow ns (length ns)) (sym c.loop-a.invariant.goes.log.nodes) c.requires.parts

pub loop-a-preserved : goal.loop-a-preserved
loop-a-preserved c =
    let g = c.in_ok-add_term.ensures.goes in
    let inv = c.loop-a.invariant in
    record {
      goes = goes_more inv.goes g;
      has = below_more (λ k. HasTerm c.args.run.now.log.nodes c.add_term.new.run.bounds.edges k) c.loop-a.a
          (λ k l. term_kept c.args.run.now.log.nodes c.loop-a.run.bounds.edges c.add_term.new.run.bounds.edges g.edges k (inv.has k l))
          (subst (λ (ns : List Node). HasTerm ns c.add_term.new.run.bounds.edges c.loop-a.a) inv.goes.log.nodes c.in_ok-add_term.ensures.has);
    }
