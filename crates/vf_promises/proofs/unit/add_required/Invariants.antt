use Rattle.std.proofs.Common.{◌≡◌, ◌++◌, take}
use Rattle.std.specs.Prelude.{map}
use Rattle.vf_promises.specs.Lines.{required_line}
use Rattle.vf_promises.proofs.unit.add_required.Given as goal

-- there is a line for each name so far
abbrev pub invariant-loop-name : goal.invariant-loop-name
invariant-loop-name l = l.all ≡ l.fn.all ++ map (required_line l.snapshot l.scope l.names) (take l.name-index l.required)
