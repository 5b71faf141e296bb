use Rattle.vf_header_laws.proofs.ghost_names.Elsewhere.{ghosts_elsewhere_are_unseen}
use Rattle.vf_header_laws.proofs.ghost_names.laws.ghosts_elsewhere_are_unseen.Goals as goal

pub returns : goal.returns
returns c = ghosts_elsewhere_are_unseen
