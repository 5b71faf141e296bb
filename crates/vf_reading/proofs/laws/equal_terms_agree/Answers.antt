use Rattle.vf_reading.proofs.Up.{equal_up}
use Rattle.vf_reading.proofs.Down.{equal_down}
use Rattle.vf_reading.proofs.laws.equal_terms_agree.Goals as goal

pub returns : goal.returns
returns c = λ nodes meant tree facts reading held inside a b i j. (equal_up nodes meant tree facts reading held a b i, equal_down nodes meant tree facts reading held inside a b i j)
