-- What the parser answers is what the unit's items are.
use Rattle.std.proofs.Common.{Ok, Err, refl}
use Rattle.vf_expand.specs.Wholes.{text_of}
use Rattle.vf_module.proofs.Parses.{parsed_by, answers_ok, answers_err}
use Rattle.vf_module.proofs.parsing.parse_unit.Goals as goal

pub returns-in-Ok : goal.returns-in-Ok
returns-in-Ok c =
    answers_ok (text_of c.args.tokens.now) c.in-Ok.unit
    (parsed_by c.args.tokens.now.tokens (Ok c.in-Ok.unit) (text_of c.args.tokens.now) refl c.in-Ok.ensures.unsupported c.in-Ok.ensures.read)
