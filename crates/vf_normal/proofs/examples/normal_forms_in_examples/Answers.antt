use Rattle.std.proofs.Common.{refl}
use Rattle.vf_normal.proofs.examples.normal_forms_in_examples.Goals as goal

pub returns : goal.returns
returns c = record {
  in_order = refl;
  cancels = refl;
  vanishes = refl;
  factors = refl;
  number_last = refl;
  unknowns = refl;
  quotient = refl;
  remainder = refl;
  by_nought = refl;
  too_large = refl;
  as_atom = refl;
  compared = refl;
  not_compared = refl;
  chosen = refl;
  not_chosen = refl;
  offsets = refl;
  no_offset = refl;
  shares = refl;
}
