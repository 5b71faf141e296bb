use Rattle.vf_reading.proofs.Up.{conflict_up}
use Rattle.vf_reading.proofs.Down.{conflict_down}
use Rattle.vf_reading.proofs.laws.closures_agree.Goals as goal

pub returns : goal.returns
returns c = λ nodes meant tree facts reading held inside. (conflict_up nodes meant tree facts reading held, conflict_down nodes meant tree facts reading held inside)
