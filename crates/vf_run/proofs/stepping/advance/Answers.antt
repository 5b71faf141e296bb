use Rattle.std.proofs.Common.{Ok, sym, subst, ◌∙◌}
use Rattle.std.proofs.lemmas.Bool.{false≢true}
use Rattle.std.proofs.lemmas.Option.{slice_get_within}
use Rattle.vf_model.specs.Runs.{after}
use Rattle.vf_core.specs.Shown.{program_of}
use Rattle.vf_engine.specs.States.{state_of}
use Rattle.vf_run.specs.Counts.{HasCounts}
use Rattle.vf_run.proofs.Steppers.{after_found, none_is_none}
use Rattle.vf_run.specs.Making.{HasNoMore}
use Rattle.vf_run.proofs.Counting.{within_passes}
use Rattle.vf_run.proofs.Taking.{takes_none, still_within}
use Rattle.vf_run.proofs.stepping.advance.Goals as goal

pub returns-in-Some-clause-capacity : goal.returns-in-Some-clause-capacity
returns-in-Some-clause-capacity c = λ limit h.
    let names = c.args.program.now.unit.names in
    let p = program_of c.args.program.now.unit in
    let r = c.args.running.now in
    let f = c.requires.framed in
    let same = after_found names p r c.args.e (Ok c.args.effect) c.requires.going f c.requires.acts in
    let has : HasCounts (after p (state_of names r) c.args.e) c.counts_after-new.result = subst (λ s. HasCounts s c.counts_after-new.result) (sym same) (c.counts_after-new.ensures.counted (c.args.e).thread c.requires.known f.of f.frame f.at f.framed) in
    let first = c.passed_limit.ensures.first (after p (state_of names r) c.args.e) has in
    let is = c.in-Some.is in
    cc

pub returns-in-Some-clause-full : goal.returns-in-Some-clause-full
returns-in-Some-clause-full c = λ limit h.
    let names = c.args.program.now.unit.names in
    let p = program_of c.args.program.now.unit in
    let r = c.args.running.now in
    let f = c.requires.framed in
    let same = after_found names p r c.args.e (Ok c.args.effect) c.requires.going f c.requires.acts in
    let has : HasCounts (after p (state_of names r) c.args.e) c.counts_after-new.result = subst (λ s. HasCounts s c.counts_after-new.result) (sym same) (c.counts_after-new.ensures.counted (c.args.e).thread c.requires.known f.of f.frame f.at f.framed) in
    let first = c.passed_limit.ensures.first (after p (state_of names r) c.args.e) has in
    let is = c.in-Some.is in
    cc

pub apply-requires-clause-started : goal.apply-requires-clause-started
apply-requires-clause-started c =
    let f = c.requires.framed in
    let low = slice_get_within c.args.running.now.threads.items (c.args.e).thread f.of f.at in low

pub returns-in-Ok-clause-after : goal.returns-in-Ok-clause-after
returns-in-Ok-clause-after c =
    let names = c.args.program.now.unit.names in
    let p = program_of c.args.program.now.unit in
    let r = c.args.running.now in
    let f = c.requires.framed in
    let same = after_found names p r c.args.e (Ok c.args.effect) c.requires.going f c.requires.acts in
    let has : HasCounts (after p (state_of names r) c.args.e) c.counts_after-new.result = subst (λ s. HasCounts s c.counts_after-new.result) (sym same) (c.counts_after-new.ensures.counted (c.args.e).thread c.requires.known f.of f.frame f.at f.framed) in
    let first = c.passed_limit.ensures.first (after p (state_of names r) c.args.e) has in
    c.in-Ok.ensures.happened f.of f.frame f.at f.framed ∙ sym same

pub returns-in-Ok-clause-counted : goal.returns-in-Ok-clause-counted
returns-in-Ok-clause-counted c =
    let names = c.args.program.now.unit.names in
    let p = program_of c.args.program.now.unit in
    let r = c.args.running.now in
    let f = c.requires.framed in
    let same = after_found names p r c.args.e (Ok c.args.effect) c.requires.going f c.requires.acts in
    let has : HasCounts (after p (state_of names r) c.args.e) c.counts_after-new.result = subst (λ s. HasCounts s c.counts_after-new.result) (sym same) (c.counts_after-new.ensures.counted (c.args.e).thread c.requires.known f.of f.frame f.at f.framed) in
    let first = c.passed_limit.ensures.first (after p (state_of names r) c.args.e) has in
    subst (λ s. HasCounts s c.counts_after-new.result) (sym (c.in-Ok.ensures.happened f.of f.frame f.at f.framed ∙ sym same)) has

pub returns-in-Ok-clause-full : goal.returns-in-Ok-clause-full
returns-in-Ok-clause-full c = λ limit h.
    let names = c.args.program.now.unit.names in
    let p = program_of c.args.program.now.unit in
    let r = c.args.running.now in
    let f = c.requires.framed in
    let same = after_found names p r c.args.e (Ok c.args.effect) c.requires.going f c.requires.acts in
    let has : HasCounts (after p (state_of names r) c.args.e) c.counts_after-new.result = subst (λ s. HasCounts s c.counts_after-new.result) (sym same) (c.counts_after-new.ensures.counted (c.args.e).thread c.requires.known f.of f.frame f.at f.framed) in
    let first = c.passed_limit.ensures.first (after p (state_of names r) c.args.e) has in
    let is = c.in-None.is in
    absurd (none_is_none (sym is ∙ first ∙ h))

pub returns-in-Err-clause-full : goal.returns-in-Err-clause-full
returns-in-Err-clause-full c = λ limit h.
    let names = c.args.program.now.unit.names in
    let p = program_of c.args.program.now.unit in
    let r = c.args.running.now in
    let f = c.requires.framed in
    let same = after_found names p r c.args.e (Ok c.args.effect) c.requires.going f c.requires.acts in
    let has : HasCounts (after p (state_of names r) c.args.e) c.counts_after-new.result = subst (λ s. HasCounts s c.counts_after-new.result) (sym same) (c.counts_after-new.ensures.counted (c.args.e).thread c.requires.known f.of f.frame f.at f.framed) in
    let first = c.passed_limit.ensures.first (after p (state_of names r) c.args.e) has in
    let is = c.in-None.is in
    absurd (none_is_none (sym is ∙ first ∙ h))

pub returns-in-Some-clause-outright : goal.returns-in-Some-clause-outright
returns-in-Some-clause-outright c = λ few.
    let names = c.args.program.now.unit.names in
    let p = program_of c.args.program.now.unit in
    let r = c.args.running.now in
    let f = c.requires.framed in
    let new = after p (state_of names r) c.args.e in
    let same = after_found names p r c.args.e (Ok c.args.effect) c.requires.going f c.requires.acts in
    let has : HasCounts new c.counts_after-new.result = subst (λ s. HasCounts s c.counts_after-new.result) (sym same) (c.counts_after-new.ensures.counted (c.args.e).thread c.requires.known f.of f.frame f.at f.framed) in
    let within = still_within (state_of names r) new c.args.counts c.counts_after-new.result c.requires.counted has few c.requires.within in
    let first = c.passed_limit.ensures.first new has in
    absurd (none_is_none (sym (first ∙ within_passes new c.counts_after-new.result has within) ∙ c.in-Some.is))

pub returns-in-Err-clause-outright : goal.returns-in-Err-clause-outright
returns-in-Err-clause-outright c = λ few.
    let names = c.args.program.now.unit.names in
    let p = program_of c.args.program.now.unit in
    let r = c.args.running.now in
    let f = c.requires.framed in
    let same = after_found names p r c.args.e (Ok c.args.effect) c.requires.going f c.requires.acts in
    let none = takes_none names p r (c.args.e).thread (c.args.e).grant f.of f.frame c.args.effect f.at f.framed c.requires.known (subst (λ s. HasNoMore (state_of names r) s) same few) in
    absurd (false≢true (c.in-Err.ensures.outright none))
