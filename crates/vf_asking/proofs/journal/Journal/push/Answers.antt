use Rattle.std.proofs.Common.{subst, sym}
use Rattle.vf_formula.specs.Literals.{shown_literal}
use Rattle.vf_formula.specs.declared.literal.Literal.{Literal}
use Rattle.vf_question.specs.Plain.{IsPlainLiteral}
use Rattle.vf_asking.specs.Journal.{HasNode}
use Rattle.vf_asking.specs.Whole.{ArePlaced, ArePlainFacts}
use Rattle.vf_asking.proofs.Kept.{either_way, placed_pushed, plain_pushed}
use Rattle.vf_asking.proofs.journal.Journal.push.Goals as goal

pub push-requires : goal.push-requires
unfolding HasNode
push-requires c = c.requires.there

pub invariant_of-self-clause-placed : goal.invariant_of-self-clause-placed
invariant_of-self-clause-placed c =
    let j = c.args.self.now in
    either_way c.push.result c.push.ensures.pushed c.push.ensures.unchanged (λ e. placed_pushed j.trail.facts _ _ j.entries e j.placed) (λ e. subst (λ facts. ArePlaced facts j.entries) (sym e) j.placed)

pub invariant_of-self-clause-plain : goal.invariant_of-self-clause-plain
invariant_of-self-clause-plain c =
    let j = c.args.self.now in
    let one = subst (λ (l : Literal). IsPlainLiteral (shown_literal l)) (sym (c.in_ok-fact.ensures)) c.requires.plain in
    either_way c.push.result c.push.ensures.pushed c.push.ensures.unchanged (λ e. plain_pushed j.trail.facts _ _ _ e j.plain one) (λ e. subst ArePlainFacts (sym e) j.plain)
