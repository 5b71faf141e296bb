use Rattle.std.proofs.Common.{◌≡◌, ◌∙◌, arith, subst, ap, sym, inr, length, Some}
use Rattle.std.specs.Prelude.{ℤ, pos, Contains, ◌⊎◌, IfOk}
use mir.Val.{to_z, of_z}
use mir.Syntax.{w128}
use Rattle.std.proofs.lemmas.Int.{ints}
use Rattle.vf_arith.specs.declared.journal.Saved.{Saved}
use Rattle.vf_arith.specs.Matrices.{distance, entry, lesser, over_edge}
use Rattle.vf_arith.specs.Histories.{IsShortened}
use Rattle.vf_arith.proofs.Journals.{no_shorter}
use Rattle.vf_arith.proofs.journal.save_row_if_shorter.Goals as goal

pub way_over-way-requires-clause-before : goal.way_over-way-requires-clause-before
way_over-way-requires-clause-before c = c.requires.before c.args.x

pub returns-then-is_shorter-clause-only : goal.returns-then-is_shorter-clause-only
returns-then-is_shorter-clause-only c =
    let most : to_z w128 (of_z w128 c.args.most) ≡ c.args.most = (let h = c.requires.most.low in let u = c.requires.most.high in omega (arith, ints)) in
    subst (λ (z : ℤ). IfOk c.save_row.result (λ _. (s : Saved) → Contains c.save_row.new.saved.items s → Contains c.args.saved.now.items s ⊎ IsShortened (length c.args.before.now) c.args.matrix.now c.args.before.now z c.args.after.now s)) most c.save_row.ensures.only

pub returns-clause-looked : goal.returns-clause-looked
returns-clause-looked c =
    let most : to_z w128 (of_z w128 c.args.most) ≡ c.args.most = (let h = c.requires.most.low in let u = c.requires.most.high in omega (arith, ints)) in
    λ y iny. inr (no_shorter (length c.args.before.now) (distance (length c.args.before.now) c.args.matrix.now) (entry c.args.before.now c.args.x) c.args.most c.args.x c.args.to y (entry c.args.after.now y)
    c.requires.triangles c.requires.point c.requires.end iny (c.requires.from_end y iny)
    (ap (λ o. lesser (distance (length c.args.before.now) c.args.matrix.now c.args.x c.args.to) o)
    (ap (λ (z : ℤ). over_edge (entry c.args.before.now c.args.x) z (Some (pos 0))) (sym most) ∙ sym c.way_over-way.ensures) ∙ c.if-is_shorter.ensures))
