use Rattle.std.proofs.Common.{subst, List, refl}
use Rattle.vf_table.specs.declared.node.Node.{Node}
use Rattle.vf_ground.specs.Held.{HaveBoundsGrown, HasTerm}
use Rattle.vf_ground.proofs.Gained.{both_kept, term_kept}
use Rattle.vf_combination.proofs.Onward.{on_join, on_bounds}
use Rattle.vf_combination.proofs.Marked.{followed_of, followed_join, unmarked_below}
use Rattle.vf_combination.proofs.Standing.{elsewhere_new, elsewhere_bound}
use Rattle.std.proofs.Common.{arith}
use Rattle.vf_combination.proofs.taking.settle_term.Goals as goal

pub settle-requires-clause-elsewhere : goal.settle-requires-clause-elsewhere
settle-requires-clause-elsewhere c = elsewhere_bound c.args.classes.now c.args.bounds.now c.args.clashed.now c.mark.new.marks c.add_term.new.bounds c.add_term.new.marks c.in_ok-add_term.ensures.marked
    (elsewhere_new c.args.classes.now c.args.bounds.now c.args.clashed.now c.args.term c.moved.result.now c.mark.new.marks c.requires.new c.moved.ensures
    (λ x u. let n = c.mark.ensures x u in let m = c.mark_moved.ensures x n.0 in (let l = unmarked_below c.args.marks.now x m.0 in let e = c.requires.long in omega arith, n.1, m.1)))

pub returns-clause-on : goal.returns-clause-on
returns-clause-on c = on_join c.args.classes.now c.args.bounds.now c.args.classes.now c.add_term.new.bounds c.settle.new.classes c.settle.new.bounds (on_bounds c.args.classes.now c.args.bounds.now c.add_term.new.bounds c.requires.fitting c.in_ok-add_term.ensures.on) c.in_ok-settle.ensures.on

pub returns-clause-followed : goal.returns-clause-followed
returns-clause-followed c = followed_join c.args.classes.now c.args.bounds.now c.args.clashed.now c.args.classes.now c.add_term.new.bounds c.args.clashed.now c.settle.new.classes c.settle.new.bounds c.settle.new.clashed refl
    (followed_of c.args.classes.now c.args.bounds.now c.args.clashed.now c.args.classes.now c.add_term.new.bounds refl
    (subst (λ (ns : List Node). HaveBoundsGrown ns c.args.bounds.now.edges c.add_term.new.bounds.edges) c.nodes.ensures c.in_ok-add_term.ensures.added c.args.classes.now.merged))
    c.in_ok-settle.ensures.followed

pub returns-clause-has : goal.returns-clause-has
returns-clause-has c = term_kept c.args.classes.now.nodes c.add_term.new.bounds.edges c.settle.new.bounds.edges c.in_ok-settle.ensures.followed.grown.edges_kept c.args.term
    (subst (λ (ns : List Node). HasTerm ns c.add_term.new.bounds.edges c.args.term) c.nodes.ensures c.in_ok-add_term.ensures.has)

pub returns-clause-zero : goal.returns-clause-zero
returns-clause-zero c = λ k a p z. both_kept c.add_term.new.bounds.edges c.settle.new.bounds.edges c.in_ok-settle.ensures.followed.grown.edges_kept a c.args.term k ((rw c.nodes.ensures at c.in_ok-add_term.ensures.zero) k a p z)
