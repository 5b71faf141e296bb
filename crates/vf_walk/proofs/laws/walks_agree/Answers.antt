use Rattle.vf_walk.proofs.Agreeing.{items_one}
use Rattle.vf_walk.proofs.laws.walks_agree.Goals as goal

pub returns : goal.returns
returns g c = items_one (g.A.Annotations.meanings c.args.annotations.now) c.requires
