-- What the words ask for is done, and what comes of it is told of them.
use Rattle.std.proofs.Common.{◌≡◌, subst, sym, List, ℕ, None}
use Rattle.std.specs.FinMap.{get}
use Rattle.vf_base.specs.Outside.{FileMap}
use Rattle.vf_words.specs.Commands.{owned, paths_of}
use Rattle.vf_words.specs.Positionals.{texts}
use Rattle.vf_words.specs.Words.{IsLink, IsTrace, IsTry}
use Rattle.vf_words.proofs.Alone.{one_file, one_schedule}
use Rattle.vf_report.specs.Loaded.{HasNoManifest, HasNoSchedule, HasSchedule}
use Rattle.vf_try.specs.Answers.{IsLackingOne}
use Rattle.vf_manifest_commands.specs.Manifests.{HasUnreadable, LacksManifest}
use Rattle.vf_tool.specs.Run.{Decides}
use Rattle.vf_tool.specs.Commands as commands
use Rattle.vf_tool.proofs.Commanding.{answered, asked_is, link_answers, nothing_is, of_told, traced_answers, tried_answers}
use Rattle.vf_tool.proofs.run.run_words.Goals as goal

pub returns-in-None-clause-complete : goal.returns-in-None-clause-complete
returns-in-None-clause-complete g c = λ m told s f run read missing write events has.
    let nothing = nothing_is (owned c.args.words.now) c.in-Ok-command_in.asked c.in-None.is c.in-Ok-command_in.ensures.none in
    absurd (nothing.run s f run)

pub returns-in-None-clause-never_of_run : goal.returns-in-None-clause-never_of_run
returns-in-None-clause-never_of_run g c = λ s f run.
    let nothing = nothing_is (owned c.args.words.now) c.in-Ok-command_in.asked c.in-None.is c.in-Ok-command_in.ensures.none in
    absurd (nothing.run s f run)

pub returns-in-None-clause-never_of_upgrade : goal.returns-in-None-clause-never_of_upgrade
returns-in-None-clause-never_of_upgrade g c = λ manifest upgrade.
    let nothing = nothing_is (owned c.args.words.now) c.in-Ok-command_in.asked c.in-None.is c.in-Ok-command_in.ensures.none in
    absurd (nothing.upgrade manifest upgrade)

pub returns-in-Some-Run-clause-usage_of_others :
    goal.returns-in-Some-Run-clause-usage_of_others
returns-in-Some-Run-clause-usage_of_others g c = λ nothing.
    let asked = asked_is (owned c.args.words.now) c.in-Ok-command_in.asked c.in-Some-Run.field-0 _ c.in-Some-Run.is c.in-Some-Run.field-0-is c.in-Ok-command_in.ensures.found in
    absurd (nothing.run _ _ asked.0)

pub returns-in-Some-Try-clause-usage_of_others :
    goal.returns-in-Some-Try-clause-usage_of_others
returns-in-Some-Try-clause-usage_of_others g c = λ nothing.
    let asked = asked_is (owned c.args.words.now) c.in-Ok-command_in.asked c.in-Some-Try.field-0 _ c.in-Some-Try.is c.in-Some-Try.field-0-is c.in-Ok-command_in.ensures.found in
    absurd (nothing.try _ _ asked.0)

pub returns-in-Some-Trace-clause-usage_of_others :
    goal.returns-in-Some-Trace-clause-usage_of_others
returns-in-Some-Trace-clause-usage_of_others g c = λ nothing.
    let asked = asked_is (owned c.args.words.now) c.in-Ok-command_in.asked c.in-Some-Trace.field-0 _ c.in-Some-Trace.is c.in-Some-Trace.field-0-is c.in-Ok-command_in.ensures.found in
    absurd (nothing.trace _ _ asked.0)

pub returns-in-Some-Link-clause-usage_of_others :
    goal.returns-in-Some-Link-clause-usage_of_others
returns-in-Some-Link-clause-usage_of_others g c = λ nothing.
    let asked = asked_is (owned c.args.words.now) c.in-Ok-command_in.asked c.in-Some-Link.field-0 _ c.in-Some-Link.is c.in-Some-Link.field-0-is c.in-Ok-command_in.ensures.found in
    absurd (nothing.link _ asked)

pub returns-in-Some-Run-clause-lacking_of_others :
    goal.returns-in-Some-Run-clause-lacking_of_others
returns-in-Some-Run-clause-lacking_of_others g c = λ m told no_run is.
    let asked = asked_is (owned c.args.words.now) c.in-Ok-command_in.asked c.in-Some-Run.field-0 _ c.in-Some-Run.is c.in-Some-Run.field-0-is c.in-Ok-command_in.ensures.found in
    absurd (no_run _ _ asked.0)

pub returns-in-Some-Run-clause-unreadable_of_others :
    goal.returns-in-Some-Run-clause-unreadable_of_others
returns-in-Some-Run-clause-unreadable_of_others g c = λ m told no_run is.
    let asked = asked_is (owned c.args.words.now) c.in-Ok-command_in.asked c.in-Some-Run.field-0 _ c.in-Some-Run.is c.in-Some-Run.field-0-is c.in-Ok-command_in.ensures.found in
    absurd (no_run _ _ asked.0)

pub returns-in-Some-Run-clause-complete : goal.returns-in-Some-Run-clause-complete
returns-in-Some-Run-clause-complete g c = λ m told s f run read missing write events has.
    let asked = asked_is (owned c.args.words.now) c.in-Ok-command_in.asked c.in-Some-Run.field-0 _ c.in-Some-Run.is c.in-Some-Run.field-0-is c.in-Ok-command_in.ensures.found in
    subst (λ (x : List ℕ). Decides m x c.print_run.result) (one_file (owned c.args.words.now) _ _ s f asked.0 run)
    (c.print_run.ensures.complete m told read missing write events (subst (λ (x : List ℕ). HasSchedule m x events) (one_schedule (owned c.args.words.now) s f _ _ run asked.0) has))

pub returns-in-Some-Try-clause-answer : goal.returns-in-Some-Try-clause-answer
returns-in-Some-Try-clause-answer g c = λ m told asks.
    let asked = asked_is (owned c.args.words.now) c.in-Ok-command_in.asked c.in-Some-Try.field-0 _ c.in-Some-Try.is c.in-Some-Try.field-0-is c.in-Ok-command_in.ensures.found in
    let given = subst (λ ws. IsTry (owned c.args.words.now) c.in-Some-Try.asked.schedule.now (paths_of ws)) (sym c.as_slice-given.ensures.value) asked.0 in
    answered _ m (owned c.args.words.now) c.try_answer.result _ _ c.print_answer.result told c.try_answer.ensures.told (tried_answers _ (owned c.args.words.now) _ _ c.try_answer.result given c.try_answer.ensures.answered) c.print_answer.ensures.printed

pub returns-in-Some-Try-clause-lacking_of_others :
    goal.returns-in-Some-Try-clause-lacking_of_others
returns-in-Some-Try-clause-lacking_of_others g c = λ m told no_run is.
    let asked = asked_is (owned c.args.words.now) c.in-Ok-command_in.asked c.in-Some-Try.field-0 _ c.in-Some-Try.is c.in-Some-Try.field-0-is c.in-Ok-command_in.ensures.found in
    let given = subst (λ ws. IsTry (owned c.args.words.now) c.in-Some-Try.asked.schedule.now (paths_of ws)) (sym c.as_slice-given.ensures.value) asked.0 in
    let schedule = c.in-Some-Try.asked.schedule.now in
    let paths = paths_of c.as_slice-given.result.now in
    commands.Lacks.tried schedule paths given (of_told (λ (n : FileMap). IsLackingOne n schedule paths) _ m told (c.try_answer.ensures.lacking (c.print_answer.ensures.missing is)))

pub returns-in-Some-Try-clause-unreadable_of_others :
    goal.returns-in-Some-Try-clause-unreadable_of_others
returns-in-Some-Try-clause-unreadable_of_others g c = λ m told no_run is.
    let asked = asked_is (owned c.args.words.now) c.in-Ok-command_in.asked c.in-Some-Try.field-0 _ c.in-Some-Try.is c.in-Some-Try.field-0-is c.in-Ok-command_in.ensures.found in
    let given = subst (λ ws. IsTry (owned c.args.words.now) c.in-Some-Try.asked.schedule.now (paths_of ws)) (sym c.as_slice-given.ensures.value) asked.0 in
    let schedule = c.in-Some-Try.asked.schedule.now in
    let paths = paths_of c.as_slice-given.result.now in
    commands.HasNoReading.tried schedule paths given (of_told (λ (n : FileMap). HasNoSchedule n schedule) _ m told (c.try_answer.ensures.unreadable (c.print_answer.ensures.unreadable is)))

pub returns-in-Some-Trace-clause-answer : goal.returns-in-Some-Trace-clause-answer
returns-in-Some-Trace-clause-answer g c = λ m told asks.
    let asked = asked_is (owned c.args.words.now) c.in-Ok-command_in.asked c.in-Some-Trace.field-0 _ c.in-Some-Trace.is c.in-Some-Trace.field-0-is c.in-Ok-command_in.ensures.found in
    let given = subst (λ ws. IsTrace (owned c.args.words.now) c.in-Some-Trace.asked.schedule.now (paths_of ws)) (sym c.as_slice-given-in-Some-Trace.ensures.value) asked.0 in
    answered _ m (owned c.args.words.now) c.try_answer-in-Some-Trace.result _ _ c.print_answer-in-Some-Trace.result told c.try_answer-in-Some-Trace.ensures.told (traced_answers _ (owned c.args.words.now) _ _ c.try_answer-in-Some-Trace.result given c.try_answer-in-Some-Trace.ensures.answered) c.print_answer-in-Some-Trace.ensures.printed

pub returns-in-Some-Trace-clause-lacking_of_others :
    goal.returns-in-Some-Trace-clause-lacking_of_others
returns-in-Some-Trace-clause-lacking_of_others g c = λ m told no_run is.
    let asked = asked_is (owned c.args.words.now) c.in-Ok-command_in.asked c.in-Some-Trace.field-0 _ c.in-Some-Trace.is c.in-Some-Trace.field-0-is c.in-Ok-command_in.ensures.found in
    let given = subst (λ ws. IsTrace (owned c.args.words.now) c.in-Some-Trace.asked.schedule.now (paths_of ws)) (sym c.as_slice-given-in-Some-Trace.ensures.value) asked.0 in
    let schedule = c.in-Some-Trace.asked.schedule.now in
    let paths = paths_of c.as_slice-given-in-Some-Trace.result.now in
    commands.Lacks.traced schedule paths given (of_told (λ (n : FileMap). IsLackingOne n schedule paths) _ m told (c.try_answer-in-Some-Trace.ensures.lacking (c.print_answer-in-Some-Trace.ensures.missing is)))

pub returns-in-Some-Trace-clause-unreadable_of_others :
    goal.returns-in-Some-Trace-clause-unreadable_of_others
returns-in-Some-Trace-clause-unreadable_of_others g c = λ m told no_run is.
    let asked = asked_is (owned c.args.words.now) c.in-Ok-command_in.asked c.in-Some-Trace.field-0 _ c.in-Some-Trace.is c.in-Some-Trace.field-0-is c.in-Ok-command_in.ensures.found in
    let given = subst (λ ws. IsTrace (owned c.args.words.now) c.in-Some-Trace.asked.schedule.now (paths_of ws)) (sym c.as_slice-given-in-Some-Trace.ensures.value) asked.0 in
    let schedule = c.in-Some-Trace.asked.schedule.now in
    let paths = paths_of c.as_slice-given-in-Some-Trace.result.now in
    commands.HasNoReading.traced schedule paths given (of_told (λ (n : FileMap). HasNoSchedule n schedule) _ m told (c.try_answer-in-Some-Trace.ensures.unreadable (c.print_answer-in-Some-Trace.ensures.unreadable is)))

pub returns-in-Some-Link-clause-answer : goal.returns-in-Some-Link-clause-answer
returns-in-Some-Link-clause-answer g c = λ m told asks.
    let asked = asked_is (owned c.args.words.now) c.in-Ok-command_in.asked c.in-Some-Link.field-0 _ c.in-Some-Link.is c.in-Some-Link.field-0-is c.in-Ok-command_in.ensures.found in
    let given = subst (λ ws. IsLink (owned c.args.words.now) (texts ws)) (sym c.as_slice-in-Some-Link.ensures.value) asked in
    answered _ m (owned c.args.words.now) c.link_answer.result _ _ c.print_answer-in-Some-Link.result told c.link_answer.ensures.told (link_answers _ (owned c.args.words.now) _ c.link_answer.result given c.link_answer.ensures.answered) c.print_answer-in-Some-Link.ensures.printed

pub returns-in-Some-Link-clause-lacking_of_others :
    goal.returns-in-Some-Link-clause-lacking_of_others
returns-in-Some-Link-clause-lacking_of_others g c = λ m told no_run is.
    let asked = asked_is (owned c.args.words.now) c.in-Ok-command_in.asked c.in-Some-Link.field-0 _ c.in-Some-Link.is c.in-Some-Link.field-0-is c.in-Ok-command_in.ensures.found in
    let given = subst (λ ws. IsLink (owned c.args.words.now) (texts ws)) (sym c.as_slice-in-Some-Link.ensures.value) asked in
    let paths = texts c.as_slice-in-Some-Link.result.now in
    commands.Lacks.linked paths given (of_told (λ (n : FileMap). LacksManifest n paths) _ m told (c.link_answer.ensures.lacking (c.print_answer-in-Some-Link.ensures.missing is)))

pub returns-in-Some-Link-clause-unreadable_of_others :
    goal.returns-in-Some-Link-clause-unreadable_of_others
returns-in-Some-Link-clause-unreadable_of_others g c = λ m told no_run is.
    let asked = asked_is (owned c.args.words.now) c.in-Ok-command_in.asked c.in-Some-Link.field-0 _ c.in-Some-Link.is c.in-Some-Link.field-0-is c.in-Ok-command_in.ensures.found in
    let given = subst (λ ws. IsLink (owned c.args.words.now) (texts ws)) (sym c.as_slice-in-Some-Link.ensures.value) asked in
    let paths = texts c.as_slice-in-Some-Link.result.now in
    commands.HasNoReading.linked paths given (of_told (λ (n : FileMap). HasUnreadable n paths) _ m told (c.link_answer.ensures.unreadable (c.print_answer-in-Some-Link.ensures.unreadable is)))

pub returns-clause-files : goal.returns-clause-files
returns-clause-files g c = λ no_upgrade.
    let asked = asked_is (owned c.args.words.now) c.in-Ok-command_in.asked c.in-Some-Upgrade.field-0 _ c.in-Some-Upgrade.is c.in-Some-Upgrade.field-0-is c.in-Ok-command_in.ensures.found in
    absurd (no_upgrade _ asked)

pub returns-clause-usage_of_others : goal.returns-clause-usage_of_others
returns-clause-usage_of_others g c = λ nothing.
    let asked = asked_is (owned c.args.words.now) c.in-Ok-command_in.asked c.in-Some-Upgrade.field-0 _ c.in-Some-Upgrade.is c.in-Some-Upgrade.field-0-is c.in-Ok-command_in.ensures.found in
    absurd (nothing.upgrade _ asked)

pub returns-clause-lacking_of_others : goal.returns-clause-lacking_of_others
returns-clause-lacking_of_others g c = λ m told no_run is.
    let asked = asked_is (owned c.args.words.now) c.in-Ok-command_in.asked c.in-Some-Upgrade.field-0 _ c.in-Some-Upgrade.is c.in-Some-Upgrade.field-0-is c.in-Ok-command_in.ensures.found in
    commands.Lacks.upgraded c.in-Some-Upgrade.manifest.now asked (of_told (λ (n : FileMap). get n c.in-Some-Upgrade.manifest.now ≡ None) _ m told (c.upgrade_answer.ensures.lacking (c.print_upgrade.ensures.missing is)))

pub returns-clause-unreadable_of_others : goal.returns-clause-unreadable_of_others
returns-clause-unreadable_of_others g c = λ m told no_run is.
    let asked = asked_is (owned c.args.words.now) c.in-Ok-command_in.asked c.in-Some-Upgrade.field-0 _ c.in-Some-Upgrade.is c.in-Some-Upgrade.field-0-is c.in-Ok-command_in.ensures.found in
    commands.HasNoReading.upgraded c.in-Some-Upgrade.manifest.now asked (of_told (λ (n : FileMap). HasNoManifest n c.in-Some-Upgrade.manifest.now) _ m told (c.upgrade_answer.ensures.unreadable (c.print_upgrade.ensures.unreadable is)))
