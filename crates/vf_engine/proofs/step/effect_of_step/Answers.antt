use Rattle.std.proofs.Common.{arith}
use Rattle.std.proofs.lemmas.Grind.{common_steps}
use Rattle.vf_engine.proofs.step.effect_of_step.Goals as goal

pub returns-in-Err : goal.returns-in-Err
returns-in-Err c = λ callers.
    let h = c.in-Err.ensures c.args.program.now.unit.names in
    grind (arith, common_steps)

pub returns-in-Err-arguments : goal.returns-in-Err-arguments
returns-in-Err-arguments c = λ callers.
    let h = c.in-Err-arguments.ensures c.args.program.now.unit.names in
    let k = c.in_ok-pointer-in-CallPointer.ensures c.args.program.now.unit.names in
    grind (arith, common_steps)
