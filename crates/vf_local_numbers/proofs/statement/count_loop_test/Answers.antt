use Rattle.std.proofs.Common.{refl}
use Rattle.vf_bodies.specs.Standing.{standing_of}
use Rattle.vf_local_numbers.proofs.Taking.{took}
use Rattle.vf_local_numbers.proofs.statement.count_loop_test.Goals as goal

pub returns : goal.returns
returns c = took (λ a. standing_of c.args.counting.now.around) _ _ _ _ (standing_of c.args.counting.now.around) _ _ (rw c.setting.ensures at c.in_ok-lower_loop_test.ensures) refl
