use Rattle.std.proofs.Common.{◌≡◌, drop}
use Rattle.vf_gathering.specs.Named.{datatypes_in}
use Rattle.vf_gathering.specs.Standing.{no_names, with_names}
use Rattle.vf_gathering.proofs.items.datatypes_of.Given as goal

-- with the names that are left the table is that of all names
abbrev pub invariant-loop-item : goal.invariant-loop-item
invariant-loop-item l = with_names l.stated (datatypes_in (drop l.item-index l.fn.items)) ≡ with_names no_names (datatypes_in l.fn.items)
