use Rattle.std.proofs.Common.{arith}
use Rattle.std.proofs.lemmas.Bool.{false≢true}
use Rattle.vf_link.proofs.Marking.{first_place, disagreement}
use Rattle.vf_link.proofs.requirements.Requirements.disagrees.Goals as goal
use Rattle.vf_link.proofs.requirements.Requirements.disagrees.Goals.{else-self-at-via-then-self-at+else-first-self, else-self-at-via-else-self-at}

pub returns-then-first-self : goal.returns-then-first-self
returns-then-first-self c =
    let r = c.args.self.now in
    let contents = r.statements.contents in
    disagreement r.provided r.statements.subjects contents r.firsts.items c.args.at c.index-first.result.now c.get.result.now c.get-then-first-self.result.now c.agree.result
    c.requires.firsts c.requires.pairs c.requires.within c.index-first.ensures c.if-self-at.true c.if-first-self.true c.get.ensures c.get-then-first-self.ensures c.agree.ensures

pub returns-else-self-at : goal.returns-else-self-at
returns-else-self-at c =
    let r = c.args.self.now in
    let p = first_place r.statements.subjects r.firsts.items c.args.at c.index-first.result.now c.requires.firsts c.requires.within c.index-first.ensures in (
      λ h. absurd (false≢true h),
      λ d. absurd (elim c.else-self-at.branch [
        | else-self-at-via-then-self-at+else-first-self w ↦ (let front = d.1 in let behind = w.if-first-self.false in let no : ⊥ = omega arith in no)
        | else-self-at-via-else-self-at w ↦ (let behind = d.0 in let front = w.if-self-at.false in let no : ⊥ = omega arith in no)
      ]),
    )
