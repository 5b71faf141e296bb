-- The names so far are added to the index.
use Rattle.std.proofs.Common.{take}
use Rattle.vf_preproc.proofs.Naming.{IsAdded}
use Rattle.vf_preproc.proofs.name_table.NameTable.with.Given as goal

abbrev pub invariant-loop-name : goal.invariant-loop-name
invariant-loop-name l = IsAdded l.own.items (take l.name-index l.fn.names) l.file l.index
