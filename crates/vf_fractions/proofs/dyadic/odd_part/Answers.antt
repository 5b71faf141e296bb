use Rattle.vf_fractions.proofs.Quotients.{odd_lowered_halvings}
use Rattle.vf_fractions.proofs.dyadic.odd_part.Goals as goal

pub returns-clause-halvings : goal.returns-clause-halvings
returns-clause-halvings c = odd_lowered_halvings _ _ _ c.requires.above c.requires.below c.lowered-low.ensures.value c.lowered-low.ensures.lowest
