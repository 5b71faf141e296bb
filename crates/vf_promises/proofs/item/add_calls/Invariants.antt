use Rattle.std.proofs.Common.{◌≡◌, ◌++◌, take}
use Rattle.std.specs.Prelude.{map}
use Rattle.vf_promises.specs.Lines.{call_line}
use Rattle.vf_promises.proofs.item.add_calls.Given as goal

-- there is a line for each name so far
abbrev pub invariant-loop-name : goal.invariant-loop-name
invariant-loop-name l = l.all ≡ l.fn.all ++ map (call_line l.snapshot l.scope l.own) (take l.name-index l.name-items)
