use Rattle.std.proofs.Common.{refl, rules}
use Rattle.std.proofs.lemmas.Int.{to_z-of_z}
use Rattle.vf_refute.proofs.rows.number_over.Goals as goal

pub returns-in_err-number : goal.returns-in_err-number
returns-in_err-number c = rw c.from_residual.ensures (λ e h z. c.in_err-number.ensures e h)

pub returns-then-is_zero : goal.returns-then-is_zero
returns-then-is_zero c = let n : mir.Val.SFits mir.Syntax.w128 c.in_ok-number.number = search rules in simp to_z-of_z (refl, c.in_ok-number.ensures, c.is_zero.ensures.0 c.if-is_zero.true)
