use Rattle.std.proofs.Common.{◌≡◌, take}
use Rattle.vf_program.specs.Indexes.{function_identities}
use Rattle.vf_program.proofs.index.index_functions.Given as goal

-- those so far are the first
abbrev pub invariant-loop-function : goal.invariant-loop-function
invariant-loop-function l = l.index ≡ function_identities l.names (take l.function-index l.function-items)
