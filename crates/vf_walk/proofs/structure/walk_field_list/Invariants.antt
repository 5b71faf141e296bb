use Rattle.std.proofs.Common.{◌≡◌, drop}
use Rattle.vf_walk.specs.Items.{fields_behind}
use Rattle.vf_walk.proofs.structure.walk_field_list.Given as goal

-- the fields that are left come to the same as all of them
abbrev pub invariant-loop-at : goal.invariant-loop-at
invariant-loop-at l = fields_behind l.fn.scope (drop l.at l.fn.list) l.fields ≡ fields_behind l.fn.scope l.fn.list l.initial.fields
