use Rattle.std.proofs.Common.{◌≡◌, sym, ap, subst, ◌∙◌, rules}
use Rattle.vf_core.specs.Shown.{program_of, identity_of}
use Rattle.vf_core.specs.Resolution.{IsResolved}
use Rattle.vf_core.proofs.program.resolved.Goals as goal

pub returns-in-Some : goal.returns-in-Some
returns-in-Some c = c.args.program.now.right c.args.name.number c.in-Some.resolved.now (sym c.in-Some.ensures)

pub returns-in-None : goal.returns-in-None
returns-in-None c = rw c.text_of.ensures at c.resolve_text.ensures
