-- The words of a command with a schedule.
use Rattle.std.proofs.Common.{refl, subst, sym}
use Rattle.vf_words.specs.Given.{SomeFiles}
use Rattle.vf_words.specs.Positionals.{texts}
use Rattle.vf_words.proofs.Suiting.{files_found, no_sources}
use Rattle.vf_words.proofs.command.scheduled_of.Goals as goal

pub returns-then-not-are_source_paths-clause-none :
    goal.returns-then-not-are_source_paths-clause-none
returns-then-not-are_source_paths-clause-none c =
    no_sources c.args.given.now c.in-Some.files.now c.in-Some.schedule.now c.in-Some.ensures.cases.0 (λ all. let no_paths = c.if-not-are_source_paths.ensures.1 all in absurd (cc no_paths))

pub returns-clause-found : goal.returns-clause-found
returns-clause-found c = subst (λ l. SomeFiles (texts c.args.given.now) c.in-Some.schedule.now.now (texts l)) (sym c.in_ok-words.ensures.items)
    (files_found c.args.given.now c.in-Some.files.now c.in-Some.schedule.now c.in-Some.ensures.cases.0 c.if-files-eq0.false (c.if-not-are_source_paths.ensures.0 refl))
