use Rattle.std.proofs.Common.{sym, subst, length, List}
use Rattle.std.specs.Prelude.{All}
use Rattle.vf_table.specs.declared.node.Node.{Node}
use Rattle.vf_table.specs.Tables.{PartsAreBelow}
use Rattle.vf_ground.specs.Held.{HasSmallNumber}
use Rattle.vf_refuting.proofs.Ending.{all_complete}
use Rattle.vf_refuting.proofs.Running.{goes_more}
use Rattle.vf_refuting.proofs.verdict.close.Goals as goal

pub add_terms-requires-clause-small : goal.add_terms-requires-clause-small
add_terms-requires-clause-small c = subst (λ (ns : List Node). All HasSmallNumber ns) (sym c.in_ok-add_facts.ensures.goes.log.nodes) c.requires.small

pub add_terms-requires-clause-parts : goal.add_terms-requires-clause-parts
add_terms-requires-clause-parts c = subst (λ (ns : List Node). PartsAreBelow ns (length ns)) (sym c.in_ok-add_facts.ensures.goes.log.nodes) c.requires.parts

pub returns-clause-goes : goal.returns-clause-goes
returns-clause-goes c = goes_more (goes_more c.in_ok-add_facts.ensures.goes c.in_ok-add_terms.ensures.goes) c.in_ok-exchange.ensures.goes

pub returns-clause-complete : goal.returns-clause-complete
returns-clause-complete c = λ fine. all_complete c.args.run.now c.add_facts.new.run c.add_terms.new.run c.exchange.new.run c.in_ok-add_facts.ensures.goes c.in_ok-add_terms.ensures.goes c.in_ok-exchange.ensures.goes
    c.in_ok-add_facts.ensures.has c.in_ok-add_terms.ensures.has (c.in_ok-exchange.ensures.settled fine)
