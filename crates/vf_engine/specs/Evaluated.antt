-- What the results of the code's evaluation stand for.
use Rattle.std.specs.Prelude.{List, ℤ, Option, Some, None, Result, Ok, Err}
use Rattle.vf_base.specs.declared.place.Place.{Place}
use Rattle.vf_base.specs.declared.int_type.IntType.{IntType}
use Rattle.vf_tree.specs.Core.{Identity}
use Rattle.vf_model.specs.declared.words.FaultKind.TheVariants as faults
use Rattle.vf_model.specs.Values as model
use Rattle.vf_model.specs.Evaluation.{Evaluated, Gives, Fails, ranged}
use Rattle.vf_engine.specs.Values.{value_of}
use Rattle.vf_engine.specs.declared.value.Value.{Value}
use Rattle.vf_engine.specs.declared.expressions.Trouble.{Trouble}

-- a value, or the first fault
abbrev pub evaluated : List Identity → Result Value Trouble → Evaluated model.Value
evaluated names (Ok v) = Gives (value_of names v)
evaluated names (Err trouble) = Fails trouble.kind trouble.place

-- a number that may have passed what the code holds: it is one of the type, or the fault is range
abbrev pub ranged_or_fault : IntType → Place → Option ℤ → Evaluated model.Value
ranged_or_fault t place None = Fails faults.Range place
ranged_or_fault t place (Some z) = ranged t place z
