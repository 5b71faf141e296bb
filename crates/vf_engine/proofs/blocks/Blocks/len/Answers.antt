use Rattle.std.proofs.Common.{sym, ◌∙◌}
use Rattle.vf_engine.proofs.Shelves.{memory_len}
use Rattle.vf_engine.proofs.blocks.Blocks.len.Goals as goal

pub returns : goal.returns
returns c = λ names. c.args.self.now.counted ∙ sym (memory_len names c.args.self.now)
