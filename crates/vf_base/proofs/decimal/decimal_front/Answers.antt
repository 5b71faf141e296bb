use Rattle.std.proofs.Common.{◌≡◌, take, drop, ap, ◌∙◌, arith}
use Rattle.std.specs.Char.{is_ascii_digit}
use Rattle.std.specs.List.{prefix_len}
use Rattle.std.proofs.lemmas.List.Sums.{prefix_len-le-length}
use Rattle.vf_base.proofs.DecimalLaws.{front_is, is_front}
use Rattle.vf_base.proofs.decimal.decimal_front.Goals as goal

pub split_at-requires : goal.split_at-requires
split_at-requires c = omega (arith, c.digits_len.ensures, prefix_len-le-length is_ascii_digit c.args.text.now)

pub returns-in_err-number-clause-none : goal.returns-in_err-number-clause-none
returns-in_err-number-clause-none c = rw c.from_residual.ensures (λ n rest le f.
    let front : c.split_at.result.0.now ≡ take (prefix_len is_ascii_digit c.args.text.now) c.args.text.now = c.split_at.ensures.front ∙ ap (λ k. take k c.args.text.now) c.digits_len.ensures in
    c.in_err-number.ensures.none n le (front ∙ (front_is c.args.text.now n rest (omega arith) f).0))

pub returns-clause-found : goal.returns-clause-found
returns-clause-found c =
    let k = prefix_len is_ascii_digit c.args.text.now in
    let front : c.split_at.result.0.now ≡ take k c.args.text.now = c.split_at.ensures.front ∙ ap (λ k. take k c.args.text.now) c.digits_len.ensures in
    let back : c.split_at.result.1.now ≡ drop k c.args.text.now = c.split_at.ensures.back ∙ ap (λ k. drop k c.args.text.now) c.digits_len.ensures in
    is_front c.args.text.now c.split_at.result.0.now c.split_at.result.1.now c.in_ok-number.number front back c.in_ok-number.ensures.found.1
