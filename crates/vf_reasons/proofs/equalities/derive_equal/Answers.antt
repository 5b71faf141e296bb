use Rattle.std.proofs.Common.{◌≡◌, ◌++◌, ◌∷◌, [], ◌∙◌}
use Rattle.vf_closure.specs.Literals.{NotEqual}
use Rattle.vf_question.specs.Questions.{at}
use Rattle.vf_refute.specs.declared.steps.Fact.TheVariants as facts_
use Rattle.vf_reasons.specs.Drafts.{with_equations}
use Rattle.vf_reasons.proofs.Asking.{one_denial, denial_over, denial_conflicts, found_is}
use Rattle.vf_reasons.proofs.equalities.derive_equal.Goals as goal

pub refutation_over-requires : goal.refutation_over-requires
refutation_over-requires c =
    let r = c.requires.basis in
    let b = c.args.basis.now in
    let e : c.deref.result.now ≡ b.facts.items ++ facts_.NotEqual c.args.x c.args.y ∷ [] = c.deref.ensures.value ∙ c.in_ok-facts.ensures in
    (with_equations r.0 r.1 ++ NotEqual (at b.terms.items c.args.x) (at b.terms.items c.args.y) ∷ [], denial_over r.0 r.1 b r.2 c.args.x c.args.y c.requires.left c.requires.right c.deref.result.now e)

pub returns-in-Some-clause-stays : goal.returns-in-Some-clause-stays
returns-in-Some-clause-stays c = λ u ls made d.
    let b = c.args.basis.now in
    let e : c.deref-in-Some.result.now ≡ b.facts.items ++ facts_.NotEqual c.args.x c.args.y ∷ [] = c.deref-in-Some.ensures.value ∙ c.in_ok-facts.ensures in
    let f = c.in_ok-last-in-Some.ensures.drafts u ls made (facts_.NotEqual c.args.x c.args.y ∷ []) d (one_denial c.args.x c.args.y) e in
    (f.0, found_is ls b c.follow.new.draft c.args.x c.args.y c.in_ok-last-in-Some.last c.found_by.result f.1 c.found_by.ensures)

pub returns-clause-none : goal.returns-clause-none
returns-clause-none c = λ ls made is s.
    let b = c.args.basis.now in
    let e : c.deref.result.now ≡ b.facts.items ++ facts_.NotEqual c.args.x c.args.y ∷ [] = c.deref.ensures.value ∙ c.in_ok-facts.ensures in
    let none = rw c.in-None.is at c.in_ok-steps.ensures in
    none (with_equations ls made ++ NotEqual (at b.terms.items c.args.x) (at b.terms.items c.args.y) ∷ []) (denial_over ls made b is c.args.x c.args.y c.requires.left c.requires.right c.deref.result.now e) (denial_conflicts ls made b is c.args.x c.args.y c.requires.left c.requires.right s)
