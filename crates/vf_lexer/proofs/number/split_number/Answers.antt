use Rattle.std.proofs.Common.{◌≡◌, take, subst}
use Rattle.std.specs.Str.Parse.{AllDigits}
use Rattle.vf_lexer.specs.Numbers.{digits_len}
use Rattle.vf_lexer.proofs.Steps.{all_digits}
use Rattle.vf_lexer.proofs.number.split_number.Goals as goal

pub number_with-requires-clause-digits : goal.number_with-requires-clause-digits
number_with-requires-clause-digits c =
    let front : take (digits_len c.args.base c.args.text.now) c.args.text.now ≡ c.split_at.result.0.now = cc in
    subst (AllDigits c.args.base) front (all_digits c.args.base c.args.text.now)
