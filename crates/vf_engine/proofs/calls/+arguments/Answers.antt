use Rattle.std.proofs.Common.{arith}
use Rattle.std.proofs.lemmas.Grind.{common_steps}
use Rattle.vf_engine.proofs.calls.+arguments.Goals as goal

pub returns-in-Err : goal.returns-in-Err
returns-in-Err t c = λ names.
    let h1 = c.evaluate.ensures names in
    let h2 = c.in-Err.ensures names in
    let h3 = c.in_ok-first-in-len1-up.ensures names in
    grind (arith, common_steps)
