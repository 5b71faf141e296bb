use Rattle.std.proofs.Common.{◌≡◌, ◌++◌, drop}
use Rattle.std.specs.Prelude.{map}
use Rattle.std.specs.List.{join_with_byte}
use Rattle.vf_promises.specs.Signatures.{type_text}
use Rattle.vf_promises.proofs.Commas.{left_texts}
use Rattle.vf_promises.proofs.signature.push_types.Given as goal

-- what is written and what is left come to all
abbrev pub invariant-loop-at : goal.invariant-loop-at
invariant-loop-at l = l.out ++ left_texts l.at (map (type_text l.names) (drop l.at l.types)) ≡ l.fn.out ++ join_with_byte 44 (map (type_text l.names) l.types)
