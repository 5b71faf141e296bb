use Rattle.std.proofs.Common.{refl}
use Rattle.vf_bodies.specs.Standing.{standing_of}
use Rattle.vf_local_numbers.proofs.Taking.{first_took, took}
use Rattle.vf_local_numbers.proofs.statement.count_first.Goals as goal

pub returns : goal.returns
returns c = first_took _ _ _ _ _ c.in_ok-note_first.ensures (took (λ d. d) _ _ _ _ (standing_of c.args.counting.now.around) _ _ c.in_ok-lower_first_part.ensures refl)
