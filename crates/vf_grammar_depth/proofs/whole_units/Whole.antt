-- Units of the whole grammar of one depth and of another, and the place of a token that was too deep.
use Rattle.std.proofs.Common.{◌≡◌, ℕ, zero, suc, ◌+◌, ◌-◌, ◌<◌, List, length, Err, sym, subst, arith}
use Rattle.vf_base.specs.declared.place.Place.{Place}
use Rattle.vf_lexer.specs.declared.token.Token.{Token}
use Rattle.vf_syntax.specs.declared.side.Grammar.TheVariants.{Whole}
use Rattle.vf_cursor.specs.declared.fault.Fault.TheVariants.{Depth}
use Rattle.vf_cursor.specs.Parsing.{Parser}
use Rattle.vf_parse_real.specs.Faults.{place_at}
use Rattle.vf_parse_command.specs.Commands.{command_at}
use Rattle.vf_parse_ghost.specs.Clauses.{claim_at, contract_at, invariant_at}
use Rattle.vf_parse_ghost.specs.Items.{item_at}
use Rattle.vf_parse_whole.specs.Wholes.{whole_at}
use Rattle.vf_grammar_depth.specs.expressions.Deep.{GoesPast, IsNotTooDeep}
use Rattle.vf_grammar_depth.proofs.expressions.Answers.{within}
use Rattle.vf_grammar_depth.proofs.statements.Whole.{RisesAbove}
use Rattle.vf_grammar_depth.proofs.units.Items.{RisingAnnotations, units_rise}
use Rattle.vf_grammar_depth.proofs.units.Places.{split, place_seen, some_left, deepened}
use Rattle.vf_grammar_depth.proofs.terms.Whole.{RisesByTwo, answers_deepen_by_two}
use Rattle.vf_grammar_depth.proofs.commands.Whole.{command_rises}
use Rattle.vf_grammar_depth.proofs.ghost_items.Clauses.{claim_deep}
use Rattle.vf_grammar_depth.proofs.ghost_items.Whole.{contract_rises, invariant_rises, item_rises}
use Rattle.vf_grammar_depth.specs.whole_units.Deep.{WholeGoesOn}

-- two levels are more than one
above_one : {A : Type 0} (p : ℕ → Parser A) → RisesByTwo p → RisesAbove 1 p
above_one p h d m lt = h d m (omega (arith, lt))

-- what annotations hold goes past what was too deep
annotations_rise : RisingAnnotations 1 command_at invariant_at contract_at claim_at item_at
annotations_rise = record {
  commands = above_one command_at command_rises;
  invariants = above_one invariant_at invariant_rises;
  contracts = above_one contract_at contract_rises;
  claims = claim_deep;
  ghosts = above_one item_at item_rises;
}

pub wholes_rise : RisesByTwo whole_at
wholes_rise d m lt = units_rise 1 Whole command_at invariant_at contract_at claim_at item_at annotations_rise d m (omega (arith, lt))

past_at : (d m n : ℕ) (ts : List Token) → whole_at d ts ≡ Err (Depth n) → suc d < m → GoesPast n (whole_at m ts)
past_at d m n ts e lt = deepened n (whole_at d ts) (whole_at m ts) e ((answers_deepen_by_two whole_at wholes_rise d m ts lt).0)

decided_at : (d m : ℕ) (ts : List Token) → suc d < m → suc (length ts + length ts) < m → IsNotTooDeep (whole_at m ts)
decided_at d m ts lt less = (answers_deepen_by_two whole_at wholes_rise d m ts lt).1 less

-- a token that is too deep
pub whole_goes_on : (d : ℕ) (ts : List Token) (end : Place) (n : ℕ) → whole_at d ts ≡ Err (Depth n) → WholeGoesOn d ts (place_at ts end n)
whole_goes_on d ts end zero e = absurd (omega (arith, some_left zero (whole_at (suc (suc d)) ts) (past_at d (suc (suc d)) zero ts e (omega arith))))
whole_goes_on d ts end (suc n) e =
    let most = within (length ts) (suc n) (whole_at d ts) (whole_at (suc (suc d)) ts) ((wholes_rise d (suc (suc d)) (omega arith)).run ts) e in
    let k = length ts - suc n in
    let size : length ts ≡ k + suc n = omega (arith, most) in
    let s = split k n ts size in
    record {
      used = s.used;
      next = s.next;
      behind = s.behind;
      parts = s.parts;
      place_is = place_seen ts end k n s.next size s.seen;
      past = λ m lt. subst (λ z. GoesPast (suc z) (whole_at m ts)) (sym s.count) (past_at d m (suc n) ts e lt);
      decided = λ m lt less. decided_at d m ts lt less;
    }
