use Rattle.std.proofs.Common.{◌++◌, ◌∷◌, [], List, length, refl, ap, ◌∙◌}
use Rattle.vf_refute.specs.declared.steps.Derived.{Derived}
use Rattle.vf_refute.specs.declared.steps.Derived.TheVariants.{AreEqual}
use Rattle.vf_refute.specs.declared.steps.Step.TheVariants as refute_
use Rattle.vf_recheck.specs.declared.steps.Step.{Step}
use Rattle.vf_recheck.specs.declared.steps.Step.TheVariants as steps_
use Rattle.vf_reasons.proofs.Based.{draft_more}
use Rattle.vf_reasons.proofs.adding.add_unfolding.Goals as goal

pub returns : goal.returns
returns c = λ u ls made is next does.
    let n = c.args.number in
    let e = c.in_ok-equal.equal in
    draft_more u ls made c.args.unfolding.now c.args.basis.now
    (record { nodes = c.number_term.new.nodes; terms = c.number_term.new.terms; facts = c.push-2.new.self; asked = c.args.basis.now.asked; equations = c.push.new.self })
    c.args.draft.now c.write-2.new.draft c.args.step n e c.in_ok-first.first c.in_ok-second.second is next does
    c.in_ok-equal.ensures.table c.in_ok-equal.ensures.terms c.in_ok-equal.ensures.number c.in_ok-push-2.ensures.items refl c.in_ok-first.ensures.number
    (c.in_ok-second.ensures.number ∙ ap length c.in_ok-first.ensures.known) c.in_ok-push.ensures.items
    (c.in_ok-second.ensures.steps ∙ ap (λ (ss : List Step). ss ++ steps_.Plain (refute_.Symmetric c.in_ok-first.first) ∷ []) c.in_ok-first.ensures.steps)
    (c.in_ok-second.ensures.known ∙ ap (λ (ks : List Derived). ks ++ AreEqual e n ∷ []) c.in_ok-first.ensures.known)
