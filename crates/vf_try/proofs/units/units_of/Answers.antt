-- One file more is added.
use Rattle.vf_try.proofs.Uniting.{any_behind, manifests_behind, plains_behind}
use Rattle.vf_try.proofs.units.units_of.Goals as goal

pub loop-file-preserved : goal.loop-file-preserved
loop-file-preserved c = record {
  plains = plains_behind c.loop-file.yielded c.in-Some.file _ _ c.loop-file.invariant.plains c.in_ok-add.ensures.plains;
  manifests = manifests_behind c.loop-file.yielded c.in-Some.file _ _ c.loop-file.invariant.manifests c.in_ok-add.ensures.manifests;
  refused = any_behind c.loop-file.yielded c.in-Some.file _ _ c.loop-file.invariant.refused c.in_ok-add.ensures.refused;
}
