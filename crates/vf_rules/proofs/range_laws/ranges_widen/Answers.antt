use Rattle.vf_rules.proofs.Ranges.{ranges_widen}
use Rattle.vf_rules.proofs.range_laws.ranges_widen.Goals as goal

pub returns : goal.returns
returns c = ranges_widen
