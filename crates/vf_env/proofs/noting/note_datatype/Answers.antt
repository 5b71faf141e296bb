use Rattle.vf_env.proofs.Beside.{noted_both}
use Rattle.vf_env.proofs.noting.note_datatype.Goals as goal

pub returns : goal.returns
returns c = noted_both c.in_ok-note.ensures c.in_ok-note_constructors.ensures
