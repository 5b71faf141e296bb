use Rattle.std.proofs.Common.{rules, ◌≡◌, ◌∙◌, length, sym, arith}
use Rattle.vf_tree.specs.Core.{Equal, NotEqual}
use Rattle.vf_closure.specs.Terms.{Compare, Not, term}
use Rattle.vf_formula.specs.Rows.{row}
use Rattle.vf_truths.proofs.Bared.{denies_nothing, equals_nothing, differs_from_nothing}
use Rattle.vf_truths.proofs.bare.+bare.Goals as goal

pub bare-returns-then-len-ne1 : goal.bare-returns-then-len-ne1
bare-returns-then-len-ne1 t c =
    let w : term Not (row c.term.inside.parts) ≡ c.args.term.now = search rules in
    let n : length c.term.inside.parts ≡ 1 → ⊥ = λ e. omega (arith, c.if-len-ne1.true, c.len.ensures) in
    c.itself.ensures ∙ sym (denies_nothing c.args.term.now c.term.inside.parts w n)

pub bare-returns-then-len-ne2 : goal.bare-returns-then-len-ne2
bare-returns-then-len-ne2 t c =
    let w : term (Compare Equal) (row c.term.inside.parts) ≡ c.args.term.now = search rules in
    let n : length c.term.inside.parts ≡ 2 → ⊥ = λ e. omega (arith, c.if-len-ne2.true, c.len-in-Compare-Equal.ensures) in
    c.itself-then-len-ne2.ensures ∙ sym (equals_nothing c.args.term.now c.term.inside.parts w n)

pub bare-returns-then-len-ne2-2 : goal.bare-returns-then-len-ne2-2
bare-returns-then-len-ne2-2 t c =
    let w : term (Compare NotEqual) (row c.term.inside.parts) ≡ c.args.term.now = search rules in
    let n : length c.term.inside.parts ≡ 2 → ⊥ = λ e. omega (arith, c.if-len-ne2-2.true, c.len-in-Compare-NotEqual.ensures) in
    c.itself-then-len-ne2-2.ensures ∙ sym (differs_from_nothing c.args.term.now c.term.inside.parts w n)
