use Rattle.std.proofs.Common.{◌≡◌, sym, ◌∙◌, ap, subst}
use Rattle.std.specs.Prelude.{pos, neg_ℤ}
use Rattle.std.proofs.lemmas.Bool.{false≢true}
use Rattle.vf_normal.specs.Sums.{are_small, times_each}
use Rattle.vf_normal.specs.NormalForms.{AreAtoms}
use Rattle.vf_formula.proofs.Calculating.{negated_sum}
use Rattle.vf_formula.proofs.calculation.subtracted.Goals as goal

pub together-requires-clause-right_atoms : goal.together-requires-clause-right_atoms
together-requires-clause-right_atoms c =
    let e = rw c.in-Some.is at c.in_ok-negated.ensures in
    let f : c.deref.result.now ≡ c.args.right.now.atoms = c.deref.ensures.value ∙ ap (λ g. g.atoms) c.right.view_is in
    let g : c.deref-in-Some-checked_sub-2.result.now ≡ times_each (neg_ℤ (pos 1)) c.args.right.now.atoms = c.deref-in-Some-checked_sub-2.ensures.value ∙ e ∙ ap (times_each (neg_ℤ (pos 1))) f in
    let s = negated_sum c.args.right.now.atoms c.requires.right_sum in
    subst AreAtoms (sym g) s.atoms

pub together-requires-clause-right_small : goal.together-requires-clause-right_small
together-requires-clause-right_small c =
    let e = rw c.in-Some.is at c.in_ok-negated.ensures in
    let f : c.deref.result.now ≡ c.args.right.now.atoms = c.deref.ensures.value ∙ ap (λ g. g.atoms) c.right.view_is in
    let g : c.deref-in-Some-checked_sub-2.result.now ≡ times_each (neg_ℤ (pos 1)) c.args.right.now.atoms = c.deref-in-Some-checked_sub-2.ensures.value ∙ e ∙ ap (times_each (neg_ℤ (pos 1))) f in
    let s = negated_sum c.args.right.now.atoms c.requires.right_sum in
    ap are_small g ∙ s.small

pub returns : goal.returns
returns c =
    let e = rw c.in-None.is at c.in_ok-negated.ensures in
    let f : c.deref.result.now ≡ c.args.right.now.atoms = c.deref.ensures.value ∙ ap (λ g. g.atoms) c.right.view_is in
    let s = negated_sum c.args.right.now.atoms c.requires.right_sum in
    absurd (false≢true (sym e ∙ ap (λ ws. are_small (times_each (neg_ℤ (pos 1)) ws)) f ∙ s.small))
