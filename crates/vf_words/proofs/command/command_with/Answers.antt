-- No command has these positional words.
use Rattle.std.proofs.Common.{subst, sym}
use Rattle.vf_words.specs.Positionals.{texts}
use Rattle.vf_words.specs.Given.{FitsNone, OneFile, OneManifest}
use Rattle.vf_words.proofs.command.command_with.Goals as goal

pub returns-in-Run-clause-none : goal.returns-in-Run-clause-none
returns-in-Run-clause-none c = subst (λ n. FitsNone n (texts c.args.given.items)) (sym c.in-Run.is)
    (λ schedule word h. c.in-None.ensures.none schedule word (subst (λ l. OneFile (texts l) schedule word) (sym c.as_slice.ensures.value) h))

pub returns-clause-none : goal.returns-clause-none
returns-clause-none c = subst (λ n. FitsNone n (texts c.args.given.items)) (sym c.in-Upgrade.is)
    (λ manifest h. c.in-None-upgrade_of.ensures.none manifest (subst (λ l. OneManifest (texts l) manifest) (sym c.as_slice-in-Upgrade.ensures.value) h))
