use Rattle.std.proofs.Common.{◌≡◌, ◌+◌, map, take}
use Rattle.vf_reasons.proofs.shifting.shifted_all.Given as goal

abbrev pub invariant-loop-number : goal.invariant-loop-number
invariant-loop-number l = l.all.items ≡ map (λ n. l.base + n) (take l.number-index l.numbers)
