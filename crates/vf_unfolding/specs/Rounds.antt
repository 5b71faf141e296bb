-- One round: the closure without unfolding, and what is unfolded next.
use Rattle.std.specs.Prelude.{◌≡◌, ◌⊎◌, ◌↔◌, ℕ, ◌<◌, pos, List, ◌++◌, length, map, take, Some, slice_get, Contains, All}
use Rattle.vf_closure.specs.Terms.{number}
use Rattle.vf_closure.specs.Literals.{Literal, Equal}
use Rattle.vf_closure.specs.Closure as closure
use Rattle.vf_closure.specs.Closure.{Unfoldings, no_unfoldings}
use Rattle.vf_question.specs.declared.unfolding.Unfolding.{Unfolding}
use Rattle.vf_question.specs.Numbered.{terms_of, all_terms}
use Rattle.vf_question.specs.Plain.{IsPlain, IsPlainLiteral}
use Rattle.vf_question.specs.Questions.{at}
use Rattle.vf_question.specs.Unfolded.{equations, IsNext, WasMade, AreSettled}
use Rattle.vf_unfolding.specs.declared.round.Round.{Round}
use Rattle.vf_unfolding.specs.declared.round.Round.TheVariants.{Conflict, Settled, Next}

-- the literal that says that 0 is 0
abbrev pub zero_is_zero : Literal
zero_is_zero = Equal (number (pos 0)) (number (pos 0))

-- a literal stands among others, or says that 0 is 0
abbrev pub IsCovered : List Literal → Literal → Type 0
IsCovered ms l = Contains ms l ⊎ (zero_is_zero ≡ l)

-- literals are those of facts and the equations of unfoldings, in any order, and that 0 is 0
pub record AreOf (literals facts : List Literal) (made : List Unfolding) : Type 0 where
  pub only : (l : Literal) → Contains literals l → IsCovered (facts ++ equations made) l
  pub all : (l : Literal) → Contains (facts ++ equations made) l → IsCovered literals l
  pub zero : Contains literals zero_is_zero

-- the numbers, among the terms of literals, of the terms of facts
pub record AreNumbers (literals facts : List Literal) (numbers : List ℕ) : Type 0 where
  pub terms : map (at (all_terms literals)) numbers ≡ terms_of facts
  pub within : All (λ k. k < length (all_terms literals)) numbers

-- literals that are plain are kept for facts and for what was unfolded, with the numbers of the facts' terms
pub record AreKeptFor (ls facts : List Literal) (made : List Unfolding) (asked : List ℕ) : Type 0 where
  pub literals : AreOf ls facts made
  pub numbers : AreNumbers ls facts asked
  pub plain : All IsPlainLiteral ls

-- an unfolding of plain terms comes next and was not made
pub record IsNextNew (u : Unfoldings) (facts : List Literal) (made : List Unfolding) (m : Unfolding) : Type 0 where
  pub next : IsNext u facts made m
  pub new : WasMade made m.application m.body m.depth → ⊥
  pub application : IsPlain m.application
  pub body : IsPlain m.body

-- how a round ends: the facts and the equations of what was made have a conflict, no fixpoint being unfolded; or they have none and nothing comes next; or this unfolding comes next
abbrev pub IsRound : Unfoldings → List Literal → List Unfolding → Round → Type 0
IsRound u facts made Conflict = closure.Conflict no_unfoldings (facts ++ equations made)
IsRound u facts made Settled = (closure.Conflict no_unfoldings (facts ++ equations made) → ⊥) × AreSettled u facts made
IsRound u facts made (Next m) = IsNextNew u facts made m

-- unfoldings were made one after the other, each of which came next after those before it
abbrev pub AreInTurn : Unfoldings → List Literal → List Unfolding → Type 0
AreInTurn u facts made = (k : ℕ) (m : Unfolding) → slice_get made k ≡ Some m → IsNext u facts (take k made) m

-- unfoldings were made in turn for facts, and are enough: with them the closure without unfolding has a conflict exactly where the closure with unfolding has one
pub record AreEnough (u : Unfoldings) (facts : List Literal) (made : List Unfolding) : Type 0 where
  pub turn : AreInTurn u facts made
  pub enough : closure.Conflict u facts ↔ closure.Conflict no_unfoldings (facts ++ equations made)
