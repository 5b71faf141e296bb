use Rattle.std.proofs.Common.{ap, ◌∙◌, rules}
use Rattle.vf_engine.specs.Values.{cells_of}
use Rattle.vf_engine.proofs.Arguments.{no_cells}
use Rattle.vf_effects.proofs.allocations.unset.Goals as goal

pub returns : goal.returns
returns c = λ names. ap (cells_of names) (c.in_ok-cells.ensures.items_if_clones_equal (λ y h. search rules)) ∙ no_cells names c.args.count
