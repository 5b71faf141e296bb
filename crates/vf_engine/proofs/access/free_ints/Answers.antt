use Rattle.std.proofs.Common.{arith}
use Rattle.std.proofs.lemmas.Grind.{common_steps}
use Rattle.vf_engine.proofs.access.free_ints.Goals as goal

pub returns-then-is_int_block : goal.returns-then-is_int_block
returns-then-is_int_block c = λ names p turn e. let h = c.is_int_block.ensures names in let k = c.pointed_at.ensures names in grind (arith, common_steps)

pub returns-else-is_int_block : goal.returns-else-is_int_block
returns-else-is_int_block c = λ names p turn e. let h = c.is_int_block.ensures names in let k = c.pointed_at.ensures names in grind (arith, common_steps)
