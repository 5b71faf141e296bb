use Rattle.std.proofs.Common.{◌≡◌, None, Some, Ok, length, arith, ap, sym, ◌∙◌}
use Rattle.std.proofs.lemmas.Option.{slice_get_within}
use Rattle.vf_snapshot.specs.Holdings.{answer}
use Rattle.vf_snapshot.proofs.Knowing.{learns, Learns-answer, answers_missing, Stands-answer, asked_at, learnt_there}
use Rattle.vf_snapshot.proofs.snapshot.Snapshot.get.Goals as goal

pub answer-requires : goal.answer-requires
answer-requires g c = slice_get_within _ _ _ c.in-Some.ensures.there.1

pub returns-in_ok-number-in-None-clause-learnt : goal.returns-in_ok-number-in-None-clause-learnt
returns-in_ok-number-in-None-clause-learnt g c = λ none.
    let is : c.answer-in-None.result ≡ answer (length c.args.self.now) c.in_ok-held-in-None.held =
    learns (g.F.Files.contents c.args.files.now) c.args.path.now c.args.self.now c.hold.new.self c.in_ok-held-in-None.held c.in_ok-number-in-None.number c.answer-in-None.result c.answer-in-None.ensures c.in_ok-number-in-None.ensures.number c.in_ok-number-in-None.ensures.held c.in_ok-held-in-None.ensures.known in
    Learns-answer (g.F.Files.contents c.args.files.now) c.args.path.now c.args.self.now c.hold.new.self c.in_ok-held-in-None.held c.answer-in-None.result is c.in_ok-number-in-None.ensures.held c.in_ok-held-in-None.ensures.known

pub returns-in_ok-number-in-None-clause-missing : goal.returns-in_ok-number-in-None-clause-missing
returns-in_ok-number-in-None-clause-missing g c = λ is_missing none.
    let is : c.answer-in-None.result ≡ answer (length c.args.self.now) c.in_ok-held-in-None.held =
    learns (g.F.Files.contents c.args.files.now) c.args.path.now c.args.self.now c.hold.new.self c.in_ok-held-in-None.held c.in_ok-number-in-None.number c.answer-in-None.result c.answer-in-None.ensures c.in_ok-number-in-None.ensures.number c.in_ok-number-in-None.ensures.held c.in_ok-held-in-None.ensures.known in
    c.in_ok-held-in-None.ensures.missing (ap Ok (answers_missing _ _ (sym is ∙ is_missing)))

pub returns-in-Some-clause-there : goal.returns-in-Some-clause-there
returns-in-Some-clause-there g c =
    let at = c.in-Some.ensures.there in
    Stands-answer c.args.self.now c.args.path.now c.in-Some.number at.0 c.answer.result (sym c.in-Some.ensures.number, at.1) (asked_at c.args.self.now c.args.path.now c.in-Some.number at.0 c.answer.result at.1 c.answer.ensures)

pub returns-in_ok-number-in-None-clause-there : goal.returns-in_ok-number-in-None-clause-there
returns-in_ok-number-in-None-clause-there g c =
    learnt_there c.args.path.now c.args.self.now c.hold.new.self c.in_ok-held-in-None.held c.in_ok-number-in-None.number c.answer-in-None.result (sym c.in-None.ensures.number) c.answer-in-None.ensures c.in_ok-number-in-None.ensures.number c.in_ok-number-in-None.ensures.held
