-- Heaps by head.
use Rattle.std.specs.Prelude.{ℕ, suc, cond, List, [], ◌∷◌}
use Rattle.vf_chunk.specs.declared.head.HeadName.{HeadName}
use Rattle.vf_chunk.specs.declared.chunk.Chunk.{Chunk}
use Rattle.vf_chunk.specs.Heads.{is_one_name}

-- how many of the oldest chunks are of other heads
abbrev pub first_of : HeadName → List Chunk → ℕ
first_of name [] = 0
first_of name (c ∷ cs) = cond (is_one_name c.head.name name) 0 (suc (first_of name cs))
