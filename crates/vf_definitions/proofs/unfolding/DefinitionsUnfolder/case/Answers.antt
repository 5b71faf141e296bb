use Rattle.vf_formula.specs.Rows.{row}
use Rattle.vf_definitions.specs.Unfolded.{case_returned}
use Rattle.vf_definitions.proofs.Given.{plain_by, case_of}
use Rattle.vf_definitions.proofs.unfolding.DefinitionsUnfolder.case.Goals as goal

pub returns-in-Some-clause-plain : goal.returns-in-Some-clause-plain
returns-in-Some-clause-plain c =
    let ts = row c.application.inside.parts in
    plain_by c.case_returned.result (case_returned ts c.args.by.now c.in-Some.body.now) c.case_returned.ensures (case_of ts c.args.by.now c.in-Some.body.now)
