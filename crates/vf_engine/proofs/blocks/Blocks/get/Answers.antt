use Rattle.std.proofs.Common.{sym, ap, ◌∙◌}
use Rattle.std.specs.Option.{option_map}
use Rattle.vf_engine.specs.Memories.{block_of}
use Rattle.vf_engine.proofs.Shelves.{memory_get}
use Rattle.vf_engine.proofs.blocks.Blocks.get.Goals as goal

pub returns : goal.returns
returns c = λ names. ap (option_map (block_of names)) c.get.ensures ∙ sym (memory_get names c.args.self.now c.args.number)
