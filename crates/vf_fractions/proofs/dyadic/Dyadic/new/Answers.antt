use Rattle.std.proofs.Common.{arith}
use Rattle.vf_fractions.specs.Kept.{IsKept}
use Rattle.vf_fractions.proofs.Lowest.{none_kept}
use Rattle.vf_fractions.proofs.dyadic.Dyadic.new.Goals as goal

pub returns-clause-none : goal.returns-clause-none
returns-clause-none c =
    let s : IsKept c.args.k c.args.m = record { positive = omega arith; numerator = omega arith; exponent = omega arith } in
    (λ n _. none_kept c.kept.result c.args.k c.args.m c.kept.ensures s n, λ past. absurd (past s))
