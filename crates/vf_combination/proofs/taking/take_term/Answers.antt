use Rattle.std.proofs.Common.{ℕ, length, ap, sym, ◌∙◌, arith, subst, All, List}
use Rattle.std.proofs.lemmas.List.{length_push}
use Rattle.std.proofs.lemmas.List.Elements.{All-push}
use Rattle.vf_table.specs.declared.node.Node.{Node}
use Rattle.vf_table.specs.Tables.{PartsAreBelow}
use Rattle.vf_ground.specs.Held.{HasSmallNumber}
use Rattle.vf_growing.specs.Steps.{IsTermOf}
use Rattle.vf_arith.specs.declared.bounds.Step.TheVariants.{Point}
use Rattle.vf_combination.proofs.Onward.{onward_same, onward_push}
use Rattle.vf_combination.proofs.Larger.{parts_grown}
use Rattle.vf_combination.proofs.Standing.{new_of, fitting_grown, term_settled, onward_term, onward_all}
use Rattle.vf_combination.proofs.taking.take_term.Goals as goal

pub returns-in_err-grow-clause-onward : goal.returns-in_err-grow-clause-onward
returns-in_err-grow-clause-onward c = let o = c.size-size.ensures in let p = c.size.ensures in let f = c.if-size.false in
    let none : (k : ℕ) → IsTermOf c.args.classes.now.nodes k c.args.node → ⊥ = (λ k t. let e = ap length (c.in_ok-term.ensures.present k t).0 in omega arith) in
    let w = c.in_ok-term.ensures.absent none in
    onward_term c.args.classes.now c.add.new.self c.args.bounds.now c.grow.new.self c.args.node w.1 w.2 (onward_same c.args.bounds.now.steps c.grow.new.self.steps c.in_err-grow.ensures.same_steps)

pub take_new-requires-clause-fitting : goal.take_new-requires-clause-fitting
take_new-requires-clause-fitting c = let o = c.size-size.ensures in let p = c.size.ensures in let f = c.if-size.false in
    let none : (k : ℕ) → IsTermOf c.args.classes.now.nodes k c.args.node → ⊥ = (λ k t. let e = ap length (c.in_ok-term.ensures.present k t).0 in omega arith) in
    let w = c.in_ok-term.ensures.absent none in
    fitting_grown c.args.classes.now c.add.new.self c.args.bounds.now c.grow.new.self c.args.node c.requires.fitting w.1 w.2 c.in_ok-term.ensures.merged c.in_ok-grow.ensures.size c.in_ok-grow.ensures.steps c.in_ok-grow.ensures.edges

pub take_new-requires-clause-few : goal.take_new-requires-clause-few
take_new-requires-clause-few c = let o = c.size-size.ensures in let p = c.size.ensures in let f = c.if-size.false in
    let none : (k : ℕ) → IsTermOf c.args.classes.now.nodes k c.args.node → ⊥ = (λ k t. let e = ap length (c.in_ok-term.ensures.present k t).0 in omega arith) in
    let w = c.in_ok-term.ensures.absent none in
    let e = ap length w.1 in let n = length_push c.args.classes.now.nodes c.args.node in omega arith

pub take_new-requires-clause-parts : goal.take_new-requires-clause-parts
take_new-requires-clause-parts c = let o = c.size-size.ensures in let p = c.size.ensures in let f = c.if-size.false in
    let none : (k : ℕ) → IsTermOf c.args.classes.now.nodes k c.args.node → ⊥ = (λ k t. let e = ap length (c.in_ok-term.ensures.present k t).0 in omega arith) in
    let w = c.in_ok-term.ensures.absent none in
    subst (λ (ns : List Node). PartsAreBelow ns (length ns)) (sym w.1) (parts_grown c.args.classes.now.nodes c.args.node c.requires.all_parts c.requires.parts)

pub take_new-requires-clause-small : goal.take_new-requires-clause-small
take_new-requires-clause-small c = let o = c.size-size.ensures in let p = c.size.ensures in let f = c.if-size.false in
    let none : (k : ℕ) → IsTermOf c.args.classes.now.nodes k c.args.node → ⊥ = (λ k t. let e = ap length (c.in_ok-term.ensures.present k t).0 in omega arith) in
    let w = c.in_ok-term.ensures.absent none in
    subst (λ (ns : List Node). All HasSmallNumber ns) (sym w.1) (All-push HasSmallNumber c.args.classes.now.nodes c.args.node c.requires.all_small c.requires.small)

pub take_new-requires-clause-new : goal.take_new-requires-clause-new
take_new-requires-clause-new c = let o = c.size-size.ensures in let p = c.size.ensures in let f = c.if-size.false in
    let none : (k : ℕ) → IsTermOf c.args.classes.now.nodes k c.args.node → ⊥ = (λ k t. let e = ap length (c.in_ok-term.ensures.present k t).0 in omega arith) in
    let w = c.in_ok-term.ensures.absent none in
    new_of c.args.classes.now c.add.new.self c.args.bounds.now c.grow.new.self c.args.clashed.now c.args.node c.in_ok-term.term c.requires.fitting.classes w.1 w.2 c.in_ok-term.ensures.merged w.0 c.in_ok-grow.ensures.edges c.requires.quiet

pub returns-in_err-take_new-clause-onward : goal.returns-in_err-take_new-clause-onward
returns-in_err-take_new-clause-onward c = let o = c.size-size.ensures in let p = c.size.ensures in let f = c.if-size.false in
    let none : (k : ℕ) → IsTermOf c.args.classes.now.nodes k c.args.node → ⊥ = (λ k t. let e = ap length (c.in_ok-term.ensures.present k t).0 in omega arith) in
    let w = c.in_ok-term.ensures.absent none in
    onward_all c.args.classes.now c.args.bounds.now c.add.new.self c.grow.new.self c.take_new.new.classes c.take_new.new.bounds
    (onward_term c.args.classes.now c.add.new.self c.args.bounds.now c.grow.new.self c.args.node w.1 w.2 (onward_push c.args.bounds.now.steps c.grow.new.self.steps Point c.in_ok-grow.ensures.steps)) c.in_err-take_new.ensures.on

pub returns-clause-onward : goal.returns-clause-onward
returns-clause-onward c = let o = c.size-size.ensures in let p = c.size.ensures in let f = c.if-size.false in
    let none : (k : ℕ) → IsTermOf c.args.classes.now.nodes k c.args.node → ⊥ = (λ k t. let e = ap length (c.in_ok-term.ensures.present k t).0 in omega arith) in
    let w = c.in_ok-term.ensures.absent none in
    onward_all c.args.classes.now c.args.bounds.now c.add.new.self c.grow.new.self c.take_new.new.classes c.take_new.new.bounds
    (onward_term c.args.classes.now c.add.new.self c.args.bounds.now c.grow.new.self c.args.node w.1 w.2 (onward_push c.args.bounds.now.steps c.grow.new.self.steps Point c.in_ok-grow.ensures.steps)) c.in_ok-take_new.ensures.on

pub returns-clause-present : goal.returns-clause-present
returns-clause-present c = let o = c.size-size.ensures in let p = c.size.ensures in let f = c.if-size.false in
    let none : (k : ℕ) → IsTermOf c.args.classes.now.nodes k c.args.node → ⊥ = (λ k t. let e = ap length (c.in_ok-term.ensures.present k t).0 in omega arith) in
    let w = c.in_ok-term.ensures.absent none in
    λ term t. absurd (none term t)

pub returns-clause-absent : goal.returns-clause-absent
returns-clause-absent c = let o = c.size-size.ensures in let p = c.size.ensures in let f = c.if-size.false in
    let none : (k : ℕ) → IsTermOf c.args.classes.now.nodes k c.args.node → ⊥ = (λ k t. let e = ap length (c.in_ok-term.ensures.present k t).0 in omega arith) in
    let w = c.in_ok-term.ensures.absent none in
    λ n. (w.0, c.in_ok-take_new.ensures.on.classes.nodes ∙ w.1)

pub returns-clause-size : goal.returns-clause-size
returns-clause-size c = let o = c.size-size.ensures in let p = c.size.ensures in let f = c.if-size.false in
    let none : (k : ℕ) → IsTermOf c.args.classes.now.nodes k c.args.node → ⊥ = (λ k t. let e = ap length (c.in_ok-term.ensures.present k t).0 in omega arith) in
    let w = c.in_ok-term.ensures.absent none in
    let e = ap length w.1 in let n = length_push c.args.classes.now.nodes c.args.node in let q = ap length c.in_ok-take_new.ensures.on.classes.nodes in let r = c.in_ok-take_new.ensures.on.bounds.size in let s = c.in_ok-grow.ensures.size in let u = c.requires.fitting.size in omega arith

pub returns-clause-settled : goal.returns-clause-settled
returns-clause-settled c = let o = c.size-size.ensures in let p = c.size.ensures in let f = c.if-size.false in
    let none : (k : ℕ) → IsTermOf c.args.classes.now.nodes k c.args.node → ⊥ = (λ k t. let e = ap length (c.in_ok-term.ensures.present k t).0 in omega arith) in
    let w = c.in_ok-term.ensures.absent none in
    λ facts s. term_settled c.args.classes.now c.args.bounds.now c.args.clashed.now c.add.new.self c.grow.new.self c.take_new.new.classes c.take_new.new.bounds c.take_new.new.clashed c.args.node c.in_ok-term.term facts
    w.1 c.in_ok-term.ensures.merged c.in_ok-grow.ensures.edges c.in_ok-take_new.ensures.on.classes.nodes w.0 c.in_ok-take_new.ensures.followed c.in_ok-take_new.ensures.has c.in_ok-take_new.ensures.zero c.in_ok-take_new.ensures.quiet
    c.requires.small c.requires.parts (omega arith) s
