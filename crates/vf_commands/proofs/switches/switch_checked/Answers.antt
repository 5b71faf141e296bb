use Rattle.vf_commands.proofs.Switching.{switch_passes}
use Rattle.vf_commands.proofs.switches.switch_checked.Goals as goal

pub returns : goal.returns
returns c = switch_passes c.in_ok-sort.ensures c.in_ok-resolved.ensures c.datatype_in.ensures c.in-Some.is c.in_ok-are_cases.ensures c.if-not-branch.false c.parameter_count-count.ensures c.in_ok-whole.ensures c.in_ok-first.ensures.first c.in_ok-first.ensures.added c.in_ok-first.ensures.fits c.in_ok-wanted.ensures c.in_ok-equate.ensures
