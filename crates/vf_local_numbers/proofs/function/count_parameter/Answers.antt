use Rattle.std.proofs.Common.{ap, ◌∙◌}
use Rattle.vf_lower.specs.Statements.{type_in}
use Rattle.vf_functions.specs.Definitions.{parameter}
use Rattle.vf_bodies.specs.Standing.{standing_of}
use Rattle.vf_local_numbers.specs.Counting.{Counting, taking}
use Rattle.vf_local_numbers.proofs.Taking.{parameter_took}
use Rattle.vf_local_numbers.proofs.function.count_parameter.Goals as goal

pub returns : goal.returns
returns c =
    parameter_took _ c.args.typed.now _ _ _ _ _ _ (c.type_in-ctype.ensures ∙ ap type_in c.written_type.ensures) c.in_ok-local.ensures c.in_ok-declare.ensures
    ∙ ap (λ (v : Counting). taking (λ d. d) (parameter v.setting c.args.typed.now) v) c.in_ok-note.ensures
