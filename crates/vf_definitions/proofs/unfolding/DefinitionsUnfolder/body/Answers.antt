use Rattle.vf_formula.specs.Rows.{row}
use Rattle.vf_definitions.specs.Unfolded.{returned}
use Rattle.vf_definitions.proofs.Given.{plain_by, returned_plain}
use Rattle.vf_definitions.proofs.unfolding.DefinitionsUnfolder.body.Goals as goal

pub returns-in-Some-clause-plain : goal.returns-in-Some-clause-plain
returns-in-Some-clause-plain c =
    let ts = row c.application.inside.parts in
    plain_by c.returned.result (returned ts c.in-Some.body.now) c.returned.ensures (returned_plain ts c.in-Some.body.now)
