use Rattle.std.proofs.Common.{sym, ap, ◌∙◌}
use Rattle.vf_machine.specs.Machine.{values_of}
use Rattle.vf_machine.proofs.Turns.{next_is}
use Rattle.vf_machine.proofs.machine.Machine.next_effect.Goals as goal

pub returns-clause-act : goal.returns-clause-act
returns-clause-act c =
    next_is c.args.self.now c.in_ok-frame.frame.now c.in_ok-function.function.now c.effect_of.result
    (sym c.in_ok-frame.ensures.value)
    (sym c.in_ok-function.ensures)
    (λ p turn e. c.effect_of.ensures p turn (e ∙ ap values_of (sym c.as_slice.ensures.value)))
