use Rattle.vf_expand.specs.Wholes.{text_of}
use Rattle.vf_tool.proofs.Phased.{passed}
use Rattle.vf_tool.proofs.reading.read_phased.Goals as goal

pub returns-in-Ok : goal.returns-in-Ok
returns-in-Ok c = passed c.args.snapshot.now c.args.path.now (text_of c.args.tokens.now) c.args.unit.now.items c.in-Ok.field-0 c.read_items.result c.in-Ok.ensures c.read_items.ensures
