use Rattle.std.proofs.Common.{◌≡◌, drop}
use Rattle.vf_datatypes.specs.Arguments.{sorts_of}
use Rattle.vf_datatypes.proofs.Spelled.{behind}
use Rattle.vf_datatypes.proofs.arguments.sorts_of.Given as goal

-- the sorts that are made and those that are left come to all
abbrev pub invariant-loop-at : goal.invariant-loop-at
invariant-loop-at l = sorts_of l.fn.scope l.fn.stated l.fn.own l.fn.written ≡ behind l.all (sorts_of l.fn.scope l.fn.stated l.fn.own (drop l.at l.fn.written))
