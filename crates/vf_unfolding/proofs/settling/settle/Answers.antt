use Rattle.std.proofs.Common.{rules, ◌≡◌, ◌++◌, ◌∷◌, [], List, map, sym, subst}
use Rattle.vf_formula.specs.Literals.{shown_literal}
use Rattle.vf_question.specs.declared.unfolding.Unfolding.{Unfolding}
use Rattle.vf_question.specs.Unfolded.{equation, AreRight}
use Rattle.vf_unfolding.specs.Rounds.{AreKeptFor, IsRound}
use Rattle.vf_unfolding.proofs.Looping.{enough_for_conflict, enough_when_settled, fewer_missing, still_in_turn, kept_equation}
use Rattle.vf_unfolding.proofs.Marks.{made_kept}
use Rattle.vf_unfolding.proofs.Turning.{turn_right}
use Rattle.vf_unfolding.proofs.settling.settle.Goals as goal

pub returns-in-Conflict-clause-enough : goal.returns-in-Conflict-clause-enough
returns-in-Conflict-clause-enough g c =
    let u = g.U.Unfolder.unfoldings c.args.unfolder.now in
    let facts = map shown_literal c.args.facts.now in
    let made = c.rounds.made.items in
    let ls = c.rounds.interning.literals in
    let value = c.deref.ensures.value in
    let r : IsRound u facts made c.in_ok-next_round.field-0 = subst (λ (ms : List Unfolding). IsRound u facts ms c.in_ok-next_round.field-0) value
    (c.in_ok-next_round.ensures facts (subst (λ (ms : List Unfolding). AreKeptFor ls facts ms c.args.asked.now) (sym value) c.rounds.invariant.kept) (subst (AreRight u facts) (sym value) (turn_right u facts made c.rounds.invariant.turn))) in
    enough_for_conflict u facts made c.rounds.invariant.turn c.right_is_sound.ensures (rw c.in-Conflict.is at r)

pub returns-in-Settled-clause-enough : goal.returns-in-Settled-clause-enough
returns-in-Settled-clause-enough g c =
    let u = g.U.Unfolder.unfoldings c.args.unfolder.now in
    let facts = map shown_literal c.args.facts.now in
    let made = c.rounds.made.items in
    let ls = c.rounds.interning.literals in
    let value = c.deref.ensures.value in
    let r : IsRound u facts made c.in_ok-next_round.field-0 = subst (λ (ms : List Unfolding). IsRound u facts ms c.in_ok-next_round.field-0) value
    (c.in_ok-next_round.ensures facts (subst (λ (ms : List Unfolding). AreKeptFor ls facts ms c.args.asked.now) (sym value) c.rounds.invariant.kept) (subst (AreRight u facts) (sym value) (turn_right u facts made c.rounds.invariant.turn))) in
    enough_when_settled u facts made c.rounds.invariant.turn c.settled_is_enough.ensures (rw c.in-Settled.is at r).1

pub assume_equation-requires-clause-application : goal.assume_equation-requires-clause-application
assume_equation-requires-clause-application g c =
    let u = g.U.Unfolder.unfoldings c.args.unfolder.now in
    let facts = map shown_literal c.args.facts.now in
    let made = c.rounds.made.items in
    let ls = c.rounds.interning.literals in
    let value = c.deref.ensures.value in
    let r : IsRound u facts made c.in_ok-next_round.field-0 = subst (λ (ms : List Unfolding). IsRound u facts ms c.in_ok-next_round.field-0) value
    (c.in_ok-next_round.ensures facts (subst (λ (ms : List Unfolding). AreKeptFor ls facts ms c.args.asked.now) (sym value) c.rounds.invariant.kept) (subst (AreRight u facts) (sym value) (turn_right u facts made c.rounds.invariant.turn))) in
    (rw c.in-Next.is at r).application

pub assume_equation-requires-clause-body : goal.assume_equation-requires-clause-body
assume_equation-requires-clause-body g c =
    let u = g.U.Unfolder.unfoldings c.args.unfolder.now in
    let facts = map shown_literal c.args.facts.now in
    let made = c.rounds.made.items in
    let ls = c.rounds.interning.literals in
    let value = c.deref.ensures.value in
    let r : IsRound u facts made c.in_ok-next_round.field-0 = subst (λ (ms : List Unfolding). IsRound u facts ms c.in_ok-next_round.field-0) value
    (c.in_ok-next_round.ensures facts (subst (λ (ms : List Unfolding). AreKeptFor ls facts ms c.args.asked.now) (sym value) c.rounds.invariant.kept) (subst (AreRight u facts) (sym value) (turn_right u facts made c.rounds.invariant.turn))) in
    (rw c.in-Next.is at r).body

pub rounds-smaller : goal.rounds-smaller
rounds-smaller g c =
    let u = g.U.Unfolder.unfoldings c.args.unfolder.now in
    let facts = map shown_literal c.args.facts.now in
    let made = c.rounds.made.items in
    let ls = c.rounds.interning.literals in
    let value = c.deref.ensures.value in
    let r : IsRound u facts made c.in_ok-next_round.field-0 = subst (λ (ms : List Unfolding). IsRound u facts ms c.in_ok-next_round.field-0) value
    (c.in_ok-next_round.ensures facts (subst (λ (ms : List Unfolding). AreKeptFor ls facts ms c.args.asked.now) (sym value) c.rounds.invariant.kept) (subst (AreRight u facts) (sym value) (turn_right u facts made c.rounds.invariant.turn))) in
    fewer_missing u facts made c.rounds.invariant.turn c.in-Next.next (rw c.in-Next.is at r) c.push.new.self.items c.in_ok-push-in-Next.ensures.items c.unfolding_ends.ensures

pub rounds-preserved : goal.rounds-preserved
rounds-preserved g c =
    let u = g.U.Unfolder.unfoldings c.args.unfolder.now in
    let facts = map shown_literal c.args.facts.now in
    let made = c.rounds.made.items in
    let ls = c.rounds.interning.literals in
    let value = c.deref.ensures.value in
    let r : IsRound u facts made c.in_ok-next_round.field-0 = subst (λ (ms : List Unfolding). IsRound u facts ms c.in_ok-next_round.field-0) value
    (c.in_ok-next_round.ensures facts (subst (λ (ms : List Unfolding). AreKeptFor ls facts ms c.args.asked.now) (sym value) c.rounds.invariant.kept) (subst (AreRight u facts) (sym value) (turn_right u facts made c.rounds.invariant.turn))) in
    let n = rw c.in-Next.is at r in
    let more = c.push.new.self.items in
    let is = c.in_ok-push-in-Next.ensures.items in
    let grown : c.assume_equation.new.interning.literals ≡ ls ++ equation c.in-Next.next ∷ [] = c.in_ok-assume_equation-in-Next.ensures.literals in
    let levels : c.assume_equation.new.interning.levels ≡ c.args.interning.now.levels = search rules in
    record {
      kept = kept_equation ls c.assume_equation.new.interning.literals facts made more c.args.asked.now c.in-Next.next grown is n.application n.body c.rounds.invariant.kept;
      turn = still_in_turn u facts made c.rounds.invariant.turn c.in-Next.next n more is;
      levels = levels;
      made = made_kept c.args.made.now.items made more c.in-Next.next c.rounds.invariant.made is;
    }
