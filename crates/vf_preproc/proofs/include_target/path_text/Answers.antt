use Rattle.std.proofs.lemmas.Str.{IsUtf8-from_ascii}
use Rattle.vf_preproc.proofs.Targeting.{all_ascii}
use Rattle.vf_preproc.proofs.include_target.path_text.Goals as goal

pub unreachable-requires : goal.unreachable-requires
unreachable-requires c = c.in-Err.ensures.cases.0 (IsUtf8-from_ascii c.args.path.now (all_ascii c.args.path.now c.requires))
