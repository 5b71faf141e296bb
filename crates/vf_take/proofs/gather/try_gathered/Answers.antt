-- The chunk is tried as it was gathered.
use Rattle.vf_asking.proofs.Seeing.{grew_path}
use Rattle.vf_take.proofs.Gathering.{tried_with}
use Rattle.vf_take.proofs.gather.try_gathered.Goals as goal

pub returns-clause-says : goal.returns-clause-says
returns-clause-says g c = tried_with c.args.places _ c.args.wanted.now c.args.gathered _ _ _ c.in_ok-portion.portion (grew_path _ _ _ c.try_chunk.ensures.grew c.requires.there) c.if-not-gathered.false c.in_ok-portion.ensures.says
