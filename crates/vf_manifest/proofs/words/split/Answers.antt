use Rattle.std.proofs.Common.{sym}
use Rattle.vf_manifest.proofs.Cutting.{split_parts, split_none}
use Rattle.vf_manifest.proofs.words.split.Goals as goal

pub returns-in-Some : goal.returns-in-Some
returns-in-Some c = split_parts c.args.byte c.args.text.now c.in-Some.at c.in-Some.ensures.value

pub returns-in-None : goal.returns-in-None
returns-in-None c = sym (split_none c.args.byte c.args.text.now c.in-None.ensures.value)
