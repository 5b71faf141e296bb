-- The headers so far are there.
use Rattle.std.proofs.Common.{◌≡◌, ◌∷◌, map, take}
use Rattle.std.specs.Option.{option_map}
use Rattle.vf_preproc.specs.Scopes.{header_of}
use Rattle.vf_expand.specs.Wholes.{includes_of}
use Rattle.vf_expand.proofs.includes.includes_of.Given as goal

abbrev pub invariant-loop-header : goal.invariant-loop-header
invariant-loop-header l = l.includes ≡ includes_of (l.own ∷ l.unit.headers) (map (option_map header_of) (take l.header-index l.unit.complete.items))
