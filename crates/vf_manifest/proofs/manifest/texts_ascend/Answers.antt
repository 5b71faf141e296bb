use Rattle.vf_manifest.proofs.OrderLaws.{texts_ascend as ascend}
use Rattle.vf_manifest.proofs.manifest.texts_ascend.Goals as goal

pub returns : goal.returns
returns c = λ lines m. ascend lines m
