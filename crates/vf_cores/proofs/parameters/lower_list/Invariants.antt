use Rattle.std.proofs.Common.{drop}
use Rattle.vf_lower.specs.declared.draft.Draft.{Draft}
use Rattle.vf_lower.specs.Settings.{Setting}
use Rattle.vf_lower.specs.Did.{Did}
use Rattle.vf_bodies.specs.Standing.{standing_of}
use Rattle.vf_functions.specs.Definitions.{parameters}
use Rattle.vf_cores.proofs.parameters.lower_list.Given as goal

-- what the parameters that are left become is what is left of all of them
abbrev pub invariant-loop-at : goal.invariant-loop-at
invariant-loop-at l = (e : Draft) (a : Setting) → Did (parameters (standing_of l.around) (drop l.at l.fn.list)) l.draft e a → Did (parameters (standing_of l.initial.around) l.fn.list) l.initial.draft e a
