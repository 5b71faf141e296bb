use Rattle.vf_preproc.proofs.Targeting.{scoped_ascii}
use Rattle.vf_preproc.proofs.include_target.is_prelude.Goals as goal

pub path_text-requires : goal.path_text-requires
path_text-requires c = scoped_ascii c.args.name.now c.requires
