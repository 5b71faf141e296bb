-- Facts along a path, level by level, with what was unfolded for them.
use Rattle.std.specs.Prelude.{ℕ, ◌≤◌, List, [], ◌∷◌, length, map, take, All}
use Rattle.vf_closure.specs.Literals.{Literal}
use Rattle.vf_question.specs.declared.unfolding.Unfolding.{Unfolding}
use Rattle.vf_unfolding.specs.declared.mark.Mark.{Mark}
use Rattle.vf_formula.specs.Literals.{shown_literal}
use Rattle.vf_formula.specs.declared.literal.Literal as declared
use Rattle.vf_interning.specs.Interned.{Interned}
use Rattle.vf_unfolding.specs.Rounds.{AreKeptFor}

-- where a path stands: its facts, and what was unfolded for them
pub record Stand : Type 0 where
  pub facts : List Literal
  pub made : List Unfolding

-- What a contract sees: where the path stands, and where it stood at the beginning of each level, the first level first
pub record Walked : Type 0 where
  pub now : Stand
  pub levels : List Stand

-- the facts, the unfoldings and the asked numbers, as they are kept
pub record Kept : Type 0 where
  pub facts : List Literal
  pub made : List Unfolding
  pub asked : List ℕ

-- the literals of facts with the unfoldings and the asked numbers
abbrev pub kept : List declared.Literal → List Unfolding → List ℕ → Kept
kept facts made asked = record { facts = map shown_literal facts; made = made; asked = asked }

-- what there was when a mark was set
abbrev pub at_mark : Kept → Mark → Kept
at_mark k m = record { facts = take m.facts k.facts; made = take m.made k.made; asked = take m.asked k.asked }

-- where the path stood when a mark was set
abbrev pub stand_at : Kept → Mark → Stand
stand_at k m = record { facts = take m.facts k.facts; made = take m.made k.made }

-- no more than there is now
pub record IsWithin (k : Kept) (m : Mark) : Type 0 where
  pub facts : m.facts ≤ length k.facts
  pub made : m.made ≤ length k.made
  pub asked : m.asked ≤ length k.asked

-- a mark was set before another one
pub record IsBefore (m n : Mark) : Type 0 where
  pub facts : m.facts ≤ n.facts
  pub made : m.made ≤ n.made
  pub asked : m.asked ≤ n.asked

-- some literals are kept for what there is
abbrev pub AreFor : List Literal → Kept → Type 0
AreFor literals k = AreKeptFor literals k.facts k.made k.asked

-- each level began with the literals that were kept for what there was at its mark
abbrev pub AreLevels : List (List Literal) → List Mark → Kept → Type 0
AreLevels [] [] k = Unit {0}
AreLevels [] (m ∷ ms) k = ⊥
AreLevels (b ∷ bs) [] k = ⊥
AreLevels (b ∷ bs) (m ∷ ms) k = IsWithin k m × AreFor b (at_mark k m) × All (IsBefore m) ms × AreLevels bs ms k

-- what a contract sees of what is kept
abbrev pub walked : Kept → List Mark → Walked
walked k marks = record { now = record { facts = k.facts; made = k.made }; levels = map (stand_at k) marks }

-- the literals that are kept are for what there is, and those of the levels for what there was
pub record IsPath (interned : Interned) (k : Kept) (marks : List Mark) : Type 0 where
  pub now : AreFor interned.literals k
  pub levels : AreLevels interned.levels marks k
