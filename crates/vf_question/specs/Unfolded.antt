-- Unfoldings that were made, one after the other, and when they are enough.
use Rattle.std.specs.Prelude.{◌≡◌, ◌↔◌, ℕ, zero, ◌+◌, ◌<◌, ◌≤◌, min, Bool, cond, List, [], ◌∷◌, ◌++◌, map, length, nat_lt, Contains, Some}
use Rattle.vf_tree.specs.Core.{Identity}
use Rattle.vf_closure.specs.Terms.{Constructor, Term, Terms, term, IsWithin}
use Rattle.vf_closure.specs.Literals.{Literal, Equal}
use Rattle.vf_closure.specs.Closure.{Unfoldings, no_unfoldings, Arises, Same, Conflict}
use Rattle.vf_question.specs.declared.unfolding.Unfolding.{Unfolding}
use Rattle.vf_question.specs.Numbered.{place, with_term, all_terms}

-- the equation of an unfolding
abbrev pub equation : Unfolding → Literal
equation m = Equal m.application m.body

-- the equations of unfoldings
abbrev pub equations : List Unfolding → List Literal
equations ms = map equation ms

-- whether a term is in a list
abbrev pub is_in : Term → List Term → Bool
is_in t ts = nat_lt (place t ts) (length ts)

-- one more than the least depth of the unfoldings to a term that has t within it, and 5 where there are none
abbrev pub least_depth : List Unfolding → Term → ℕ
least_depth [] t = 5
least_depth (m ∷ ms) t = cond (is_in t (with_term m.body [])) (min (m.depth + 1) (least_depth ms t)) (least_depth ms t)

-- the depth of a term: 0 for the terms of the question
abbrev pub depth_of : List Literal → List Unfolding → Term → ℕ
depth_of facts made t = cond (is_in t (all_terms facts)) 0 (least_depth made t)

-- an unfolding is one that the closure asks for
pub data IsAskedFor (u : Unfoldings) (facts : List Literal) (m : Unfolding) : Type 0 where
  of_body : m.depth < 4 → Arises u facts m.depth m.application → u.body m.application ≡ Some m.body → IsAskedFor u facts m
  of_case : {c : Identity} {ks : Terms} {a : Term} → m.depth < 4 → Arises u facts m.depth m.application → Arises u facts m.depth (term (Constructor c) ks) → u.switched m.application ≡ Some a → Same u facts a (term (Constructor c) ks) → u.case m.application (term (Constructor c) ks) ≡ Some m.body → IsAskedFor u facts m

-- a term is one of the question, or within what something was unfolded to
pub data IsKnown (facts : List Literal) (made : List Unfolding) (t : Term) : Type 0 where
  in_question : Arises no_unfoldings facts zero t → IsKnown facts made t
  in_unfolding : {m : Unfolding} → Contains made m → IsWithin t m.body → IsKnown facts made t

-- each unfolding that was made is one that the closure asks for, of a term that is known
pub record AreRight (u : Unfoldings) (facts : List Literal) (made : List Unfolding) : Type 0 where
  pub asked : (m : Unfolding) → Contains made m → IsAskedFor u facts m
  pub known : (m : Unfolding) → Contains made m → IsKnown facts made m.application

-- an unfolding was made, at no greater depth
pub record WasMade (made : List Unfolding) (t b : Term) (d : ℕ) : Type 0 where
  pub found : Unfolding
  pub stands : Contains made found
  pub application : found.application ≡ t
  pub body : found.body ≡ b
  pub depth : found.depth ≤ d

-- An unfolding comes next: its application is known and no deeper than it, and its body is the application's, or the case of a known term of a constructor, no deeper either, that is equal to the argument that the application goes by, by the facts and the equations of those made, without unfolding
pub data IsNext (u : Unfoldings) (facts : List Literal) (made : List Unfolding) (m : Unfolding) : Type 0 where
  next_body : m.depth < 4 → IsKnown facts made m.application → depth_of facts made m.application ≤ m.depth → u.body m.application ≡ Some m.body → IsNext u facts made m
  next_case : {c : Identity} {ks : Terms} {a : Term} → m.depth < 4 → IsKnown facts made m.application → IsKnown facts made (term (Constructor c) ks) → depth_of facts made m.application ≤ m.depth → depth_of facts made (term (Constructor c) ks) ≤ m.depth → u.switched m.application ≡ Some a → Same no_unfoldings (facts ++ equations made) a (term (Constructor c) ks) → u.case m.application (term (Constructor c) ks) ≡ Some m.body → IsNext u facts made m

-- each unfolding that comes next was made
abbrev pub AreSettled : Unfoldings → List Literal → List Unfolding → Type 0
AreSettled u facts made = (m : Unfolding) → IsNext u facts made m → WasMade made m.application m.body m.depth

-- where right unfoldings were made until nothing more is asked for, the closure with unfolding has a conflict exactly where that of facts and equations has one without
abbrev pub SettledIsEnough : Type 0
SettledIsEnough =
    (u : Unfoldings) (facts : List Literal) (made : List Unfolding) → AreRight u facts made → AreSettled u facts made → Conflict u facts ↔ Conflict no_unfoldings (facts ++ equations made)

-- right unfoldings stay right with one that comes next
abbrev pub NextIsRight : Type 0
NextIsRight = (u : Unfoldings) (facts : List Literal) (made : List Unfolding) (m : Unfolding) → AreRight u facts made → IsNext u facts made m → AreRight u facts (made ++ m ∷ [])

-- whatever right unfoldings were made, a conflict of the closure of facts and equations without unfolding is one of the closure with it
abbrev pub RightIsSound : Type 0
RightIsSound = (u : Unfoldings) (facts : List Literal) (made : List Unfolding) → AreRight u facts made → Conflict no_unfoldings (facts ++ equations made) → Conflict u facts
