use Rattle.std.proofs.Common.{ap, ◌∙◌, subst}
use Rattle.vf_lower.specs.Did.{Did}
use Rattle.vf_lower.specs.Statements.{type_in}
use Rattle.vf_lower.proofs.Parts.{did_then}
use Rattle.vf_bodies.specs.Standing.{standing_of}
use Rattle.vf_bodies.proofs.Parts.{did_gives}
use Rattle.vf_functions.specs.Definitions.{variable}
use Rattle.vf_cores.proofs.parameters.lower_parameter.Goals as goal

pub returns : goal.returns
returns c =
    let s = standing_of c.args.around.now in
    let one : Did (variable s c.args.typed.now.name.text c.type_in-ctype.result) c.args.draft.now c.take.new.self (standing_of c.declare.new.self) = did_then _ _ _ _ _ _ _ c.in_ok-local.ensures (did_gives _ _ _ c.in_ok-declare.ensures) in
    subst (λ t. Did (variable s c.args.typed.now.name.text t) c.args.draft.now c.take.new.self (standing_of c.declare.new.self)) (c.type_in-ctype.ensures ∙ ap type_in c.written_type.ensures) one
