use Rattle.std.proofs.Common.{◌≡◌, length, sym, ap, subst, arith}
use Rattle.std.specs.Prelude.{IsTrue}
use Rattle.vf_formula.specs.Literals.{shown_literal}
use Rattle.vf_asking.specs.declared.journal.Journal.{Journal}
use Rattle.vf_asking.specs.declared.answers.Answer.TheVariants.{Proved, Unknown}
use Rattle.vf_asking.specs.Journal.{path_at}
use Rattle.vf_asking.specs.Question.{has_too_many_terms}
use Rattle.vf_prover.specs.Held.{Held, last_definitions}
use Rattle.vf_prover.proofs.Answering.{right_proved, right_unknown, too_many, not_too_many}
use Rattle.vf_prover.proofs.Staying.{right_before, right_kept}
use Rattle.vf_prover.proofs.Stepping.{standing_before}
use Rattle.vf_prover.proofs.Handing.{handed_before, handed_proved, handed_unknown, one_more}
use Rattle.vf_prover.proofs.prover.ProverAsker.ask.Goals as goal

pub invariant_of-self-in_err-keep-in-Proved : goal.invariant_of-self-in_err-keep-in-Proved
invariant_of-self-in_err-keep-in-Proved c =
    let i = c.self.inside in
    let v = c.self.invariant in
    let k = c.keep.new.self in
    let b = c.in_err-keep-in-Proved.ensures.unchanged in
    let r = right_before i.origin i.journal k b (v.0, v.1) in
    (r.0, r.1, standing_before i.journal.units k.units i.journal.trail.facts k.trail.facts c.explain.new.paths.items c.explain.new.nodes.items b.units b.facts c.explain.ensures.standing, omega (arith, ap length b.entries, v.3), handed_before i.journal k i.handed i.last b v.4)

pub invariant_of-self-in-Proved : goal.invariant_of-self-in-Proved
invariant_of-self-in-Proved c =
    let i = c.self.inside in
    let v = c.self.invariant in
    let k = c.keep.new.self in
    let goal_ = c.args.goal.now in
    let a = c.in_ok-keep-in-Proved.ensures.asked in
    let e = rw c.in-Proved.is at c.in_ok-refutation.ensures.explained in
    let r = right_kept i.origin c.args.at goal_ Proved i.journal k (right_proved (last_definitions i.journal.units) (path_at i.journal c.args.at) (shown_literal goal_) e.0) a (v.0, v.1) in
    (r.0, r.1, standing_before i.journal.units k.units i.journal.trail.facts k.trail.facts c.explain.new.paths.items c.explain.new.nodes.items a.units a.facts c.explain.ensures.standing, omega (arith, one_more c.args.at goal_ Proved i.journal k a, v.3), handed_proved i.journal k c.args.at goal_ i.handed c.in-Proved.refutation v.3 a e.1)

pub invariant_of-self-in_err-keep-in-Unknown : goal.invariant_of-self-in_err-keep-in-Unknown
invariant_of-self-in_err-keep-in-Unknown c =
    let i = c.self.inside in
    let v = c.self.invariant in
    let k = c.keep-in-Unknown.new.self in
    let b = c.in_err-keep-in-Unknown.ensures.unchanged in
    let r = right_before i.origin i.journal k b (v.0, v.1) in
    (r.0, r.1, standing_before i.journal.units k.units i.journal.trail.facts k.trail.facts c.explain.new.paths.items c.explain.new.nodes.items b.units b.facts c.explain.ensures.standing, omega (arith, ap length b.entries, v.3), handed_before i.journal k i.handed i.last b v.4)

pub invariant_of-self-in-Unknown : goal.invariant_of-self-in-Unknown
invariant_of-self-in-Unknown c =
    let i = c.self.inside in
    let v = c.self.invariant in
    let k = c.keep-in-Unknown.new.self in
    let goal_ = c.args.goal.now in
    let a = c.in_ok-keep-in-Unknown.ensures.asked in
    let e = rw c.in-Unknown.is at c.in_ok-refutation.ensures.explained in
    let r = right_kept i.origin c.args.at goal_ Unknown i.journal k (right_unknown (last_definitions i.journal.units) (path_at i.journal c.args.at) (shown_literal goal_) e) a (v.0, v.1) in
    (r.0, r.1, standing_before i.journal.units k.units i.journal.trail.facts k.trail.facts c.explain.new.paths.items c.explain.new.nodes.items a.units a.facts c.explain.ensures.standing, omega (arith, one_more c.args.at goal_ Unknown i.journal k a, v.3), handed_unknown i.journal k c.args.at goal_ i.handed a)

pub returns-in_ok-keep-in-Proved-clause-few : goal.returns-in_ok-keep-in-Proved-clause-few
returns-in_ok-keep-in-Proved-clause-few c =
    let i = c.self.inside in
    let e = rw c.in-Proved.is at c.in_ok-refutation.ensures.explained in
    let same : i.journal ≡ c.args.self.now.journal = ap (λ (h : Held). h.journal) c.self.view_is in
    λ t. not_too_many (path_at i.journal c.args.at) (shown_literal c.args.goal.now) e.0.0 (subst (λ (j : Journal). IsTrue (has_too_many_terms (path_at j c.args.at) (shown_literal c.args.goal.now))) (sym same) t)

pub returns-in_ok-keep-in-Unknown-clause-few : goal.returns-in_ok-keep-in-Unknown-clause-few
returns-in_ok-keep-in-Unknown-clause-few c =
    let i = c.self.inside in
    let e = rw c.in-Unknown.is at c.in_ok-refutation.ensures.explained in
    let same : i.journal ≡ c.args.self.now.journal = ap (λ (h : Held). h.journal) c.self.view_is in
    λ t. not_too_many (path_at i.journal c.args.at) (shown_literal c.args.goal.now) e.0 (subst (λ (j : Journal). IsTrue (has_too_many_terms (path_at j c.args.at) (shown_literal c.args.goal.now))) (sym same) t)

pub returns-in-Terms-clause-terms : goal.returns-in-Terms-clause-terms
returns-in-Terms-clause-terms c =
    let i = c.self.inside in
    let e = rw c.in-Terms.is at c.in_ok-refutation.ensures.explained in
    let same : i.journal ≡ c.args.self.now.journal = ap (λ (h : Held). h.journal) c.self.view_is in
    λ h. subst (λ (j : Journal). IsTrue (has_too_many_terms (path_at j c.args.at) (shown_literal c.args.goal.now))) same (too_many (path_at i.journal c.args.at) (shown_literal c.args.goal.now) e)
