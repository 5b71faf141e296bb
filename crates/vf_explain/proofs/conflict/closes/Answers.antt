use Rattle.std.proofs.Common.{arith}
use Rattle.std.proofs.lemmas.Int.{ints}
use Rattle.vf_explain.proofs.Closing.{by_least}
use Rattle.vf_explain.proofs.conflict.closes.Goals as goal

pub returns-in-Some : goal.returns-in-Some
returns-in-Some c =
    let lo = c.in-Some.ensures.small.low in let hi = c.in-Some.ensures.small.high in
    let m = c.requires.small.low in let n = c.requires.small.high in
    by_least c.args.edge c.are_below.result c.in-Some.back c.in-Some.ensures.least
    (λ e. let h = c.are_below.ensures.0 e in omega (arith, ints))
    (λ l. c.are_below.ensures.1 (omega (arith, ints)))
