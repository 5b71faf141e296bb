-- The numbers so far are there.
use Rattle.std.proofs.Common.{◌≡◌, ◌∷◌, take}
use Rattle.vf_expand.proofs.includes.numbers_of.Given as goal

abbrev pub invariant-loop-header : goal.invariant-loop-header
invariant-loop-header l = l.numbers ≡ l.own ∷ take l.header-index l.headers
