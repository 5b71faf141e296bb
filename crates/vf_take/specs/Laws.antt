-- Laws of taking. Each is the contract of a public function with an empty body.
use Rattle.std.specs.Prelude.{◌≡◌, ◌≤◌, ℕ, List, length, Result}
use Rattle.vf_base.specs.declared.refusal.Refusal.{Refusal}
use Rattle.vf_closure.specs.Terms.{Term}
use Rattle.vf_closure.specs.Literals.{Literal}
use Rattle.vf_asking.specs.Journal.{Seen}
use Rattle.vf_asking.specs.Course.{Follows}
use Rattle.vf_asking.specs.Right.{AreRightFrom}
use Rattle.vf_chunk.specs.declared.chunk.Chunk.{Chunk}
use Rattle.vf_chunk.specs.declared.head.HeadName.{HeadName}
use Rattle.vf_take.specs.declared.wanted.Places.{Places}
use Rattle.vf_take.specs.declared.wanted.Taken.{Taken}
use Rattle.vf_take.specs.declared.wanted.Wanted.{Wanted}
use Rattle.vf_take.specs.Merges.{takes}
use Rattle.vf_take.specs.Reads.{reads}

-- right answers lead to one result: two runs from one beginning whose answers are right take the same, and see the same afterwards
abbrev pub TakesAreDetermined : Type 0
TakesAreDetermined = (places : Places) (path : List Literal) (w : Wanted) (cs : List Chunk) (origin : ℕ) (s t u : Seen) (y z : Result (Taken × List Literal) Refusal) → origin ≤ length s.entries → Follows (takes places path w cs) s t y → Follows (takes places path w cs) s u z → AreRightFrom origin t → AreRightFrom origin u → (y ≡ z) × (t ≡ u)

-- so they do where a cell is read
abbrev pub ReadsAreDetermined : Type 0
ReadsAreDetermined = (places : Places) (path : List Literal) (name : HeadName) (p : Term) (cs : List Chunk) (origin : ℕ) (s t u : Seen) (y z : Result Term Refusal) → origin ≤ length s.entries → Follows (reads places path name p cs) s t y → Follows (reads places path name p cs) s u z → AreRightFrom origin t → AreRightFrom origin u → (y ≡ z) × (t ≡ u)
