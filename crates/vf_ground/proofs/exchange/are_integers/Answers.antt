use Rattle.std.proofs.Common.{refl}
use Rattle.vf_ground.proofs.exchange.are_integers.Goals as goal

pub returns-then-is_integer : goal.returns-then-is_integer
returns-then-is_integer c = (λ t. (c.if-is_integer.ensures.0 refl, c.is_integer-then-is_integer.ensures.0 t), λ h. c.is_integer-then-is_integer.ensures.1 h.1)
