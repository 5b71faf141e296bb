use Rattle.vf_base.proofs.DecimalLaws.{one_front}
use Rattle.vf_base.proofs.decimal.one_decimal_front.Goals as goal

pub returns : goal.returns
returns c = one_front
