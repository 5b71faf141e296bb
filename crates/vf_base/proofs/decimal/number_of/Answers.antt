use Rattle.std.proofs.Common.{◌≡◌, ◌<◌, ◌+◌, length, get_or, true, sym, arith}
use Rattle.std.specs.Char.{is_ascii_digit}
use Rattle.std.proofs.lemmas.Bool.Decides.{nat_tests}
use Rattle.vf_base.proofs.DecimalLaws.{not_empty, no_zero_first, no_other_byte, no_more, value_more, all_more, is_number}
use Rattle.vf_base.proofs.decimal.number_of.Goals as goal
use Rattle.vf_base.proofs.decimal.number_of.Goals.{else-digits-eq48-via-then-digits-eq48+else-digits-gt1, else-digits-eq48-via-else-digits-eq48}

pub returns-then-is_empty-clause-none : goal.returns-then-is_empty-clause-none
returns-then-is_empty-clause-none c = λ n le e. not_empty c.args.digits.now n (omega arith) e (grind (arith, nat_tests))

pub returns-then-digits-gt1-clause-none : goal.returns-then-digits-gt1-clause-none
returns-then-digits-gt1-clause-none c = λ n le e. no_zero_first c.args.digits.now n (omega arith) e c.if-digits-eq48.true c.if-digits-gt1.true

pub returns-then-not-is_ascii_digit-clause-none : goal.returns-then-not-is_ascii_digit-clause-none
returns-then-not-is_ascii_digit-clause-none c = λ n le e. no_other_byte c.args.digits.now n c.loop-digit.digit-index (omega arith) e c.loop-digit-test.true (sym c.if-not-is_ascii_digit.ensures.value)

pub returns-then-number-limit-clause-none : goal.returns-then-number-limit-clause-none
returns-then-number-limit-clause-none c = λ n le e.
    let is_digit : is_ascii_digit (get_or c.args.digits.now c.loop-digit.digit-index 0) ≡ true = sym c.if-not-is_ascii_digit.ensures.value in
    let so_far = value_more c.args.digits.now c.loop-digit.digit-index c.loop-digit.number c.loop-digit-test.true c.loop-digit.invariant.value is_digit in
    omega (arith, no_more c.args.digits.now n (c.loop-digit.digit-index + 1) (omega arith) e, so_far, c.from.ensures)

pub loop-digit-preserved : goal.loop-digit-preserved
loop-digit-preserved c =
    let is_digit : is_ascii_digit (get_or c.args.digits.now c.loop-digit.digit-index 0) ≡ true = sym c.if-not-is_ascii_digit.ensures.value in
    record {
      within = omega arith;
      value = rw c.from.ensures (value_more c.args.digits.now c.loop-digit.digit-index c.loop-digit.number c.loop-digit-test.true c.loop-digit.invariant.value is_digit);
      digits = all_more c.args.digits.now c.loop-digit.digit-index c.loop-digit-test.true c.loop-digit.invariant.digits is_digit;
    }

pub returns-clause-found : goal.returns-clause-found
returns-clause-found c =
    let some : 0 < length c.args.digits.now = grind (arith, nat_tests) in
    let one : get_or c.args.digits.now 0 0 ≡ 48 → length c.args.digits.now ≡ 1 = λ e. elim c.else-digits-eq48.branch [
      | else-digits-eq48-via-then-digits-eq48+else-digits-gt1 w ↦ omega arith
      | else-digits-eq48-via-else-digits-eq48 w ↦ omega arith
    ] in
    (omega arith, is_number c.args.digits.now c.loop-digit.number c.loop-digit.digit-index some c.loop-digit-test.false one (omega arith) c.loop-digit.invariant.value c.loop-digit.invariant.digits)
