use Rattle.std.proofs.Common.{ap}
use Rattle.std.specs.Prelude.{option_map}
use Rattle.vf_trail.proofs.Paths.{path_parent}
use Rattle.vf_trail.proofs.trail.Trail.parent.Goals as goal

pub returns-clause-path : goal.returns-clause-path
returns-clause-path g c =
    λ fact q. path_parent _ c.args.node.number _ fact c.requires.other_than_root c.row.ensures.parents_fall (ap (option_map (λ row. row.0)) c.row.ensures.row) q
