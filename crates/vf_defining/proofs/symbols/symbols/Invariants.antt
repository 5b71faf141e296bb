use Rattle.std.proofs.Common.{◌≡◌, ◌++◌, drop}
use Rattle.vf_defining.specs.Symbols.{symbols_from}
use Rattle.vf_defining.proofs.symbols.symbols.Given as goal

-- the symbols that were made, with those that are left, are all
abbrev pub invariant-loop-at : goal.invariant-loop-at
invariant-loop-at l = l.all.items ++ symbols_from l.unknowns l.at (drop l.at l.locals) ≡ symbols_from l.unknowns 0 l.locals
