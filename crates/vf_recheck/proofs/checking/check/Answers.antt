use Rattle.std.proofs.Common.{◌≡◌, List, refl, arith}
use Rattle.std.proofs.lemmas.Bool.{false≢true}
use Rattle.vf_closure.specs.Literals.{Literal}
use Rattle.vf_recheck.specs.Refutations.{facts_over}
use Rattle.vf_recheck.proofs.Turns.{goes_plain, begins, last_turn, no_turn, next_turn}
use Rattle.vf_recheck.proofs.checking.check.Goals as goal

pub loop-i-init : goal.loop-i-init
loop-i-init g c =
    let u = g.U.Unfolder.unfoldings c.args.unfolder.now in
    record {
      table = c.requires.table;
      plain = c.requires.plain;
      onward = λ ls e f. (begins u ls c.args.steps.now c.args.terms.now.items c.new-known.result.items e c.new-known.ensures.items).0;
      back = λ ls e f. (begins u ls c.args.steps.now c.args.terms.now.items c.new-known.result.items e c.new-known.ensures.items).1;
    }

pub returns-then-i-steps : goal.returns-then-i-steps
returns-then-i-steps g c = λ ls e f.
    let u = g.U.Unfolder.unfoldings c.args.unfolder.now in
    last_turn u ls c.args.steps.now c.loop-i.terms.items c.deref-then-i-steps.result.now c.loop-i.known.items c.deref-then-i-steps-2.result.now c.args.facts.now c.loop-i.i c.index-steps-i.result c.index-steps-i.is
    f c.deref-then-i-steps.ensures.value c.deref-then-i-steps-2.ensures.value (c.loop-i.invariant.onward ls e f) (c.loop-i.invariant.back ls e f) c.is_end.result c.if-i-steps.true c.is_end.ensures

pub returns-in-None : goal.returns-in-None
returns-in-None g c = λ ls e f.
    let u = g.U.Unfolder.unfoldings c.args.unfolder.now in
    let none = rw c.in-None.is at c.in_ok-derived.ensures.told in (
      λ t. absurd (false≢true t),
      λ r. absurd (no_turn u ls c.args.steps.now c.loop-i.terms.items c.loop-i.terms.items c.loop-i.known.items c.deref-in-loop-i.result.now c.args.facts.now c.loop-i.i c.index-steps-i.result c.index-steps-i.is
          f refl c.deref-in-loop-i.ensures.value (c.loop-i.invariant.onward ls e f) (c.loop-i.invariant.back ls e f) (omega arith) none r),
    )

pub loop-i-preserved : goal.loop-i-preserved
loop-i-preserved g c =
    let u = g.U.Unfolder.unfoldings c.args.unfolder.now in
    let told = rw c.in-Some.is at c.in_ok-derived.ensures.told in
    record {
      table = c.in_ok-derived.ensures.table;
      plain = goes_plain u c.args.facts.now c.loop-i.terms.items c.deref-in-loop-i.result.now c.index-steps-i.result c.in-Some.derived c.go_on.new.terms.items c.loop-i.invariant.plain told.0;
      onward = λ ls e f. (next_turn u ls c.args.steps.now c.loop-i.terms.items c.loop-i.terms.items c.loop-i.known.items c.deref-in-loop-i.result.now c.args.facts.now c.loop-i.i c.index-steps-i.result c.index-steps-i.is
          f refl c.deref-in-loop-i.ensures.value (c.loop-i.invariant.onward ls e f) (c.loop-i.invariant.back ls e f) c.in-Some.derived c.go_on.new.terms.items c.push.new.self.items (omega arith) c.in_ok-push-in-Some.ensures.items told.0 told.1).0;
      back = λ ls e f. (next_turn u ls c.args.steps.now c.loop-i.terms.items c.loop-i.terms.items c.loop-i.known.items c.deref-in-loop-i.result.now c.args.facts.now c.loop-i.i c.index-steps-i.result c.index-steps-i.is
          f refl c.deref-in-loop-i.ensures.value (c.loop-i.invariant.onward ls e f) (c.loop-i.invariant.back ls e f) c.in-Some.derived c.go_on.new.terms.items c.push.new.self.items (omega arith) c.in_ok-push-in-Some.ensures.items told.0 told.1).1;
    }
