use Rattle.std.proofs.Common.{map}
use Rattle.vf_formula.specs.Literals.{shown_literal}
use Rattle.vf_reasons.proofs.Finding.{begun_draft}
use Rattle.vf_reasons.proofs.refuting.write_refutation.Goals as goal

pub write_unfoldings-requires : goal.write_unfoldings-requires
write_unfoldings-requires g c =
    let u = g.U.Unfolder.unfoldings c.args.unfolder.now in
    let ls = map shown_literal c.args.literals.now in
    record { turn = (ls, begun_draft u ls c.in_ok-basis.basis c.args.draft.now c.in_ok-basis.ensures.basis c.in_ok-basis.ensures.terms c.in_ok-basis.ensures.equations c.requires.steps c.requires.known, c.requires.turn) }

pub returns-in-Some : goal.returns-in-Some
returns-in-Some g c =
    let u = g.U.Unfolder.unfoldings c.args.unfolder.now in
    let ls = map shown_literal c.args.literals.now in
    let d = begun_draft u ls c.in_ok-basis.basis c.args.draft.now c.in_ok-basis.ensures.basis c.in_ok-basis.ensures.terms c.in_ok-basis.ensures.equations c.requires.steps c.requires.known in
    let e = (rw c.in-Some.is at c.in_ok-last.ensures) ls d c.requires.turn in
    (c.write_unfoldings.new.basis, e.0, e.1, e.2)

pub returns : goal.returns
returns g c =
    let u = g.U.Unfolder.unfoldings c.args.unfolder.now in
    let ls = map shown_literal c.args.literals.now in
    let d = begun_draft u ls c.in_ok-basis.basis c.args.draft.now c.in_ok-basis.ensures.basis c.in_ok-basis.ensures.terms c.in_ok-basis.ensures.equations c.requires.steps c.requires.known in
    let w = (rw c.in-None.is at c.in_ok-last.ensures) ls d c.requires.turn in
    let f = c.in_ok-last-in-None.ensures u ls c.args.made.now w in
    (c.write_unfoldings.new.basis, c.args.made.now, f.0, f.1)
