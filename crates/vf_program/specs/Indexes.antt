-- Identities in order.
use Rattle.std.specs.Prelude.{ℕ, List, length, map, unwrap_or}
use Rattle.std.specs.List.{flat_map}
use Rattle.vf_tree.specs.Core.{Identity}
use Rattle.vf_names.specs.Names.{number_of}
use Rattle.vf_core.specs.Shown.{identity_of}
use Rattle.vf_core.specs.declared.step.Function.{Function}
use Rattle.vf_core.specs.declared.step.StructBody.{StructBody}
use Rattle.vf_program.specs.declared.unit.PlainUnit.{PlainUnit}

-- the identities of functions, in order
abbrev pub function_identities : List Identity → List Function → List Identity
function_identities names fs = map (λ (f : Function). identity_of names f.identity) fs

-- the identities of structs, in order
abbrev pub struct_identities : List Identity → List StructBody → List Identity
struct_identities names ss = map (λ (s : StructBody). identity_of names s.identity) ss

-- the number of an identity among others, and how many these are where it is none of them
abbrev pub number_or_end : List Identity → Identity → ℕ
number_or_end gs g = unwrap_or (number_of gs g) (length gs)

-- the names of units, in order
abbrev pub names_of : List PlainUnit → List Identity
names_of us = flat_map (λ (u : PlainUnit). u.names) us
