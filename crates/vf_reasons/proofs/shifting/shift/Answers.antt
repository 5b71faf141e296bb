use Rattle.std.proofs.Common.{◌+◌, map, refl, sym, ap, ◌∙◌, subst}
use Rattle.vf_refute.specs.declared.steps.Step.{Step}
use Rattle.vf_refute.specs.declared.steps.Step.TheVariants as steps_
use Rattle.vf_reasons.specs.Shifts.{IsShifted}
use Rattle.vf_reasons.proofs.shifting.shift.Goals as goal

pub returns-in_ok-numbers-in-Congruent : goal.returns-in_ok-numbers-in-Congruent
returns-in_ok-numbers-in-Congruent c =
    subst (λ (s : Step). IsShifted c.args.basis.now c.args.base s (steps_.Congruent c.in-Congruent.a c.in-Congruent.b (record { numbers = c.in_ok-numbers-in-Congruent.numbers }))) (sym c.in-Congruent.is)
    (record { shifted = record { numbers = c.in_ok-numbers-in-Congruent.numbers }; is = refl; numbers_are = c.in_ok-numbers-in-Congruent.ensures ∙ ap (map (λ n. c.args.base + n)) c.deref.ensures.value })
