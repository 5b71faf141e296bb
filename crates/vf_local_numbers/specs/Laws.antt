-- What is counted, and what lowering says.
use Rattle.std.specs.Prelude.{◌≡◌, ◌+◌, length}
use Rattle.vf_declared.specs.declared.ctype.CType.{CType}
use Rattle.vf_syntax.specs.StmtTree.{StmtTree}
use Rattle.vf_lower.specs.Statements.{statement}
use Rattle.vf_local_numbers.specs.Counting.{Counting, counted}

-- behind a statement lowering stands where it is counted to stand, and the next local gets the number that is counted for it
pub record Agrees (r : CType) (x : StmtTree) (s : Counting) : Type 0 where
  pub setting : (counted r x s).setting ≡ (statement s.setting r x s.next).left
  pub next : (counted r x s).next ≡ s.next + length (statement s.setting r x s.next).locals

abbrev pub CountingIsLowering : Type 0
CountingIsLowering = (r : CType) (x : StmtTree) (s : Counting) → Agrees r x s
