use Rattle.vf_asking.proofs.Determined.{only_append}
use Rattle.vf_asking.proofs.laws.courses_only_append.Goals as goal

pub returns : goal.returns
returns g c = only_append
