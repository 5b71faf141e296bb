use Rattle.std.proofs.Common.{◌≡◌, ◌+◌, drop}
use Rattle.vf_resolving.specs.Cases.{place_among}
use Rattle.vf_resolving.proofs.cases.place_among.Given as goal

-- none of the numbers in front is it
abbrev pub invariant-loop-at : goal.invariant-loop-at
invariant-loop-at l = place_among l.numbers l.number ≡ l.at + place_among (drop l.at l.numbers) l.number
