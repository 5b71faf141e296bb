use Rattle.std.proofs.Common.{◌≡◌, ◌∙◌, sym, ap, ap₂, subst, rules}
use Rattle.std.specs.Prelude.{pos, neg_ℤ, ◌-ℤ◌, FitsSigned}
use Rattle.std.proofs.lemmas.Int.{to_z-of_z}
use mir.Syntax.{w128}
use mir.Val.{to_z, of_z}
use Rattle.vf_normal.specs.Sums.{together, times_each}
use Rattle.vf_formula.specs.Linears.{IsWide}
use Rattle.vf_formula.proofs.Splitting.{difference_is, difference_wide}
use Rattle.vf_formula.proofs.comparison.difference.Goals as goal

pub returns-clause-value : goal.returns-clause-value
returns-clause-value c =
    let l : FitsSigned w128 c.left.inside.number = search rules in
    let r : FitsSigned w128 c.right.inside.number = search rules in
    let s : FitsSigned w128 c.less.result = search rules in
    let a : c.deref-2.result.now ≡ c.args.left.now.atoms = c.deref-2.ensures.value ∙ ap (λ g. g.atoms) c.left.view_is in
    let f : c.deref.result.now ≡ c.args.right.now.atoms = c.deref.ensures.value ∙ ap (λ g. g.atoms) c.right.view_is in
    let b : c.deref-3.result.now ≡ times_each (neg_ℤ (pos 1)) c.args.right.now.atoms = c.deref-3.ensures.value ∙ c.in_ok-negated.ensures.value ∙ ap (times_each (neg_ℤ (pos 1))) f in
    let x = to_z-of_z w128 c.left.inside.number l ∙ ap (λ g. g.number) c.left.view_is in
    let y = to_z-of_z w128 c.right.inside.number r ∙ ap (λ g. g.number) c.right.view_is in
    difference_is c.args.left.now c.args.right.now c.in_ok-together.field-0.items (to_z w128 (of_z w128 c.less.result)) (c.in_ok-together.ensures ∙ ap₂ together a b) (to_z-of_z w128 c.less.result s ∙ c.less.ensures.value ∙ ap₂ (λ m n. m -ℤ n) x y)

pub returns-clause-wide : goal.returns-clause-wide
returns-clause-wide c =
    let s : FitsSigned w128 c.less.result = search rules in
    let a : c.deref-2.result.now ≡ c.args.left.now.atoms = c.deref-2.ensures.value ∙ ap (λ g. g.atoms) c.left.view_is in
    let f : c.deref.result.now ≡ c.args.right.now.atoms = c.deref.ensures.value ∙ ap (λ g. g.atoms) c.right.view_is in
    let b : c.deref-3.result.now ≡ times_each (neg_ℤ (pos 1)) c.args.right.now.atoms = c.deref-3.ensures.value ∙ c.in_ok-negated.ensures.value ∙ ap (times_each (neg_ℤ (pos 1))) f in
    record {
      factors = difference_wide c.args.left.now c.args.right.now c.in_ok-together.field-0.items c.requires.left_sum c.requires.right_sum (c.in_ok-together.ensures ∙ ap₂ together a b);
      number = subst IsWide (sym (to_z-of_z w128 c.less.result s)) c.less.ensures.wide;
    }
