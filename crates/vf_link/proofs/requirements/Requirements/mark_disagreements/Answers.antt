use Rattle.std.proofs.Common.{◌≡◌, length, subst, arith}
use Rattle.vf_link.specs.Marks.{Marks, DisagreesWith}
use Rattle.vf_link.proofs.Marking.{many_firsts, marks_more}
use Rattle.vf_link.proofs.requirements.Requirements.mark_disagreements.Goals as goal

pub loop-at-preserved : goal.loop-at-preserved
loop-at-preserved c =
    let r = c.args.self.now in
    marks_more c.loop-at.at c.loop-at.marks.items c.push.new.self.items c.disagrees.result (DisagreesWith r.provided r.statements.subjects r.statements.contents)
    c.loop-at.invariant c.in_ok-push.ensures.items c.disagrees.ensures.0 c.disagrees.ensures.1

pub returns : goal.returns
returns c =
    let r = c.args.self.now in
    let s = r.statements.subjects in
    let many = many_firsts s r.firsts.items c.requires.firsts in
    let all : c.loop-at.at ≡ length s = omega (arith, r.firsts.ok.0) in
    subst (λ n. Marks n c.loop-at.marks.items (DisagreesWith r.provided s r.statements.contents)) all c.loop-at.invariant
