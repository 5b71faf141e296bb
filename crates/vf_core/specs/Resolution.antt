-- What a name calls.
use Rattle.std.specs.Prelude.{◌≡◌, ℕ, List, Some, slice_get}
use Rattle.std.specs.Option.{option_map}
use Rattle.vf_tree.specs.Core.{Identity, ProgramTree}
use Rattle.vf_model.specs.PreludeFunctions.{prelude_named}
use Rattle.vf_model.specs.State.{function_named}
use Rattle.vf_model.specs.Accesses.{field_count}
use Rattle.vf_core.specs.Shown.{text_or_empty, prelude_of, program_of}
use Rattle.vf_core.specs.declared.step.Unit as code
use Rattle.vf_core.specs.declared.resolve.Resolved.{Resolved}

-- what an identity calls in a program: the prelude function of that name, if one is, and the number of the program's function of that name, if it has one; and how many fields the struct of that name has
pub record IsResolved (p : ProgramTree) (g : Identity) (r : Resolved) : Type 0 where
  pub prelude : prelude_named g ≡ option_map prelude_of r.prelude
  pub body : function_named p g ≡ r.body
  pub fields : field_count p g ≡ r.fields

-- what is kept for each name of the table is what it calls
abbrev pub AreResolved : code.Unit → List Resolved → Type 0
AreResolved u table = (n : ℕ) (r : Resolved) → slice_get table n ≡ Some r → IsResolved (program_of u) (text_or_empty (slice_get u.names n)) r
