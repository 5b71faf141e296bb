use Rattle.vf_meaning.proofs.Fractions.{form_is_one}
use Rattle.vf_meaning.proofs.fraction_laws.form_is_one.Goals as goal

pub returns : goal.returns
returns c = form_is_one
