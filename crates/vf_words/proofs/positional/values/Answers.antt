-- The values that were found.
use Rattle.std.proofs.Common.{sym, ap, ◌∙◌}
use Rattle.vf_words.specs.Positionals.{texts}
use Rattle.clap.specs.Matches.{found_of}
use Rattle.vf_words.proofs.Shapes.{given, values_none, values_some}
use Rattle.vf_words.proofs.positional.values.Goals as goal

pub returns-in-Some : goal.returns-in-Some
returns-in-Some c = given _ _ c.from_slice.result (λ v items. ap texts items ∙ sym (values_some (found_of c.args.matches.now) c.get_strs.result c.in-Some.values c.in-Some.is c.get_strs.ensures)) c.from_slice.ensures.items

pub returns-in-None : goal.returns-in-None
returns-in-None c = ap texts c.new.ensures.items ∙ sym (values_none (found_of c.args.matches.now) c.get_strs.result c.in-None.is c.get_strs.ensures)
