-- What the code of calls has found.
use Rattle.std.specs.Prelude.{◌≡◌, ℕ, List, Option, Some, None, Result, Ok, Err, slice_get}
use Rattle.vf_tree.specs.Core.{Identity, FunctionTree, ProgramTree}
use Rattle.vf_model.specs.Values as values
use Rattle.vf_model.specs.Evaluation.{Evaluated, Gives, Fails}
use Rattle.vf_model.specs.Calls.{argument}
use Rattle.vf_engine.specs.Values.{value_of}
use Rattle.vf_engine.specs.Effects.{values_or_none}
use Rattle.vf_engine.specs.declared.value.Value.{Value}
use Rattle.vf_engine.specs.declared.expressions.Trouble.{Trouble}

-- the first fault of arguments, or else the first two of their values, and null for each that there is none
abbrev pub AreFirstTwo : List Identity → Evaluated (List values.Value) → Result (Value × Value) Trouble → Type 0
AreFirstTwo names r (Err t) = r ≡ Fails t.kind t.place
AreFirstTwo names r (Ok pair) =
    (r ≡ Gives (values_or_none r)) × (argument (values_or_none r) 0 ≡ value_of names pair.0) × (argument (values_or_none r) 1 ≡ value_of names pair.1)

-- a function of the program with its number, where there is one
abbrev pub paired : ℕ → Option FunctionTree → Option (ℕ × FunctionTree)
paired number None = None
paired number (Some f) = Some (number, f)

-- the same for a number that may be none
abbrev pub found_in : ProgramTree → Option ℕ → Option (ℕ × FunctionTree)
found_in p None = None
found_in p (Some number) = paired number (slice_get p.functions number)
