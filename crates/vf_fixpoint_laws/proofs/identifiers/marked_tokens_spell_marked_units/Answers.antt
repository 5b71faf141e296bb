use Rattle.vf_fixpoint_laws.proofs.identifiers.Example.{marked_tokens}
use Rattle.vf_fixpoint_laws.proofs.identifiers.marked_tokens_spell_marked_units.Goals as goal

pub returns : goal.returns
returns c = marked_tokens
