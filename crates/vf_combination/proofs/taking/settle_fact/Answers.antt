use Rattle.std.proofs.Common.{subst, List}
use Rattle.vf_table.specs.declared.node.Node.{Node}
use Rattle.vf_ground.specs.Held.{HaveGrown}
use Rattle.vf_combination.proofs.Onward.{on_join, fitting_on}
use Rattle.vf_combination.proofs.Marked.{clash_more}
use Rattle.vf_combination.proofs.Standing.{gained_join, elsewhere_kept}
use Rattle.vf_combination.proofs.taking.settle_fact.Goals as goal

pub settle-requires-clause-fitting : goal.settle-requires-clause-fitting
settle-requires-clause-fitting c = fitting_on c.args.classes.now c.args.bounds.now c.add_fact.new.classes c.add_fact.new.bounds c.requires.fitting c.in_ok-add_fact.ensures.on

pub settle-requires-clause-elsewhere : goal.settle-requires-clause-elsewhere
settle-requires-clause-elsewhere c = elsewhere_kept c.args.classes.now c.args.bounds.now c.args.clashed.now c.args.marks.now c.add_fact.new.classes c.add_fact.new.bounds c.args.clashed.now c.add_fact.new.marks c.requires.long
    c.in_ok-add_fact.ensures.gained.edges_kept (c.in_ok-add_fact.ensures.marked c.args.clashed.now) c.requires.quiet

pub returns-clause-on : goal.returns-clause-on
returns-clause-on c = on_join c.args.classes.now c.args.bounds.now c.add_fact.new.classes c.add_fact.new.bounds c.settle.new.classes c.settle.new.bounds c.in_ok-add_fact.ensures.on c.in_ok-settle.ensures.on

pub returns-clause-gained : goal.returns-clause-gained
returns-clause-gained c = gained_join c.args.classes.now.nodes c.args.fact c.args.classes.now.merged c.args.bounds.now.edges c.add_fact.new.classes.merged c.add_fact.new.bounds.edges c.settle.new.classes.merged c.settle.new.bounds.edges c.in_ok-add_fact.ensures.gained
    (subst (λ (ns : List Node). HaveGrown ns c.add_fact.new.classes.merged c.add_fact.new.bounds.edges c.settle.new.classes.merged c.settle.new.bounds.edges) c.in_ok-add_fact.ensures.on.classes.nodes c.in_ok-settle.ensures.followed.grown)

pub returns-clause-clash : goal.returns-clause-clash
returns-clause-clash c = λ f. c.in_ok-settle.ensures.followed.clash (λ t. clash_more c.args.classes.now c.add_fact.new.classes c.in_ok-add_fact.ensures.on.classes.nodes c.in_ok-add_fact.ensures.gained.merged_kept (f t))
