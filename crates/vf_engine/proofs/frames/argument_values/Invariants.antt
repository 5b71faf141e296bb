use Rattle.std.proofs.Common.{◌≡◌, List, [], drop}
use Rattle.vf_tree.specs.Core.{Identity}
use Rattle.vf_model.specs.Evaluation.{evaluate_all}
use Rattle.vf_core.specs.Shown.{expressions_of}
use Rattle.vf_engine.specs.Values.{cells_of}
use Rattle.vf_engine.proofs.Arguments.{after_cells}
use Rattle.vf_engine.proofs.frames.argument_values.Given as goal

-- the values so far, before those of the other arguments
abbrev pub invariant-loop-argument : goal.invariant-loop-argument
invariant-loop-argument l =
    (names : List Identity) → after_cells [] (evaluate_all (cells_of names l.locals) (expressions_of names l.arguments))
    ≡ after_cells (cells_of names l.values.items) (evaluate_all (cells_of names l.locals) (expressions_of names (drop l.argument-index l.arguments)))
