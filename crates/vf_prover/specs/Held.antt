-- What a contract sees of a prover, and which of its answers are right.
use Rattle.std.specs.Prelude.{ℕ, List, ◌-◌, length}
use Rattle.vf_closure.specs.Literals.{Literal}
use Rattle.vf_definitions.specs.declared.fixpoint.Fixpoint.{Fixpoint}
use Rattle.vf_asking.specs.declared.answers.Answer.{Answer}
use Rattle.vf_asking.specs.declared.journal.Journal.{Journal}
use Rattle.vf_asking.specs.Journal.{definitions_at}
use Rattle.vf_asking.specs.Right.{IsRight}

-- its journal, how many entries that held when the prover was made, and how many when it was last asked for a refutation
pub record Held : Type 0 where
  pub journal : Journal
  pub origin : ℕ
  pub handed : ℕ

-- the definitions of the unit begun last
abbrev pub last_definitions : List (List Fixpoint) → List Fixpoint
last_definitions units = definitions_at units (length units - 1)

-- an answer to a question with these definitions is right, whichever unit asked
abbrev pub IsRightAnswer : List Fixpoint → List Literal → Literal → Answer → Type 0
IsRightAnswer definitions path goal answer = (unit : ℕ) → IsRight (record { unit = unit; definitions = definitions; path = path; goal = goal; answer = answer })
