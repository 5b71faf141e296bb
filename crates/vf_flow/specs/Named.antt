-- What the types of the code stand for.
use Rattle.std.specs.Prelude.{List, map}
use Rattle.vf_tree.specs.Core.{Identity}
use Rattle.vf_core.specs.Shown.{identity_of}
use Rattle.vf_core.specs.declared.words.Name.{Name}
use Rattle.vf_steps.specs.Core.{Identities}
use Rattle.vf_flow.specs.declared.naming.Naming.{Naming}

-- the identities that names stand for by a table
abbrev pub identities : List Identity → List Name → List Identity
identities names ns = map (identity_of names) ns

-- what a unit's functions, structs and function types are called
abbrev pub naming_of : Naming → Identities
naming_of n = record {
  functions = identities n.names.now n.functions;
  structures = identities n.names.now n.structures;
  function_types = identities n.names.now n.function_types;
  signatures = n.signatures.now;
}
