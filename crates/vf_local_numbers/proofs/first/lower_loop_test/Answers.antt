use Rattle.vf_bodies.proofs.Parts.{did_gives}
use Rattle.vf_local_numbers.proofs.first.lower_loop_test.Goals as goal

pub returns-in-Some : goal.returns-in-Some
returns-in-Some c = rw c.in-Some.is c.tested.ensures

pub returns-in-None : goal.returns-in-None
returns-in-None c = rw c.in-None.is (did_gives _ _ _ c.new.ensures)
