use Rattle.std.proofs.Common.{◌≡◌, []}
use Rattle.vf_promises.specs.declared.type_names.Named.TheVariants as kinds
use Rattle.vf_promises.specs.TypeNames.{names_behind}
use Rattle.vf_promises.proofs.type_names.empty_names.Given as goal

-- there is one for each number so far
abbrev pub invariant-loop-number : goal.invariant-loop-number
invariant-loop-number l = l.names ≡ names_behind l.scope kinds.Datatype [] [] l._number
