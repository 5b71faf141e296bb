use Rattle.std.proofs.Common.{refl}
use Rattle.std.proofs.lemmas.List.{map-set}
use Rattle.vf_engine.proofs.writing.set_at.Goals as goal

pub returns-then-index-len : goal.returns-then-index-len
returns-then-index-len c = λ names. rw map-set refl
