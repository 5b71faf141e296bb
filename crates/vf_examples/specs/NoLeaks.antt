-- In two of the programs no leak stands, so nothing is leaked in them.
use Rattle.std.specs.Prelude.{List}
use Rattle.vf_model.specs.declared.words.Event.{Event}
use Rattle.vf_safety.specs.LeakLaws.{KeptUnleaked}
use Rattle.vf_examples.specs.BoxProgram.{box_program, box_environment}
use Rattle.vf_examples.specs.Counting.{counting_program, counting_environment}

-- in these examples no leak stands: so nothing is leaked in them
pub record ExamplesLeakNothing : Type 0 where
  pub box : (events : List Event) → KeptUnleaked box_environment box_program events
  pub counting : (events : List Event) → KeptUnleaked counting_environment counting_program events
