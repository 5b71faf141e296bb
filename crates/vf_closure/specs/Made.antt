-- Lists of unfoldings that are enough: the closure with unfolding as the closure without, over more facts.
use Rattle.std.specs.Prelude.{◌≡◌, ◌↔◌, ℕ, zero, suc, ◌<◌, ◌≤◌, List, ◌++◌, Contains, Some}
use Rattle.vf_tree.specs.Core.{Identity}
use Rattle.vf_closure.specs.Terms.{Constructor, Term, Terms, term, IsWithin}
use Rattle.vf_closure.specs.Literals.{Literal, Equal}
use Rattle.vf_closure.specs.Closure.{Unfoldings, no_unfoldings, Arises, Same, Conflict}

-- a literal is the equation of an unfolding that was made, and it follows
pub record IsMade (u : Unfoldings) (facts : List Literal) (l : Literal) : Type 0 where
  pub application : Term
  pub body : Term
  pub is : l ≡ Equal application body
  pub follows : Same u facts application body

-- Equations that were made, and a depth for each term, are all that the closure asks for: each equation follows; each term arises at its depth, those of the question at 0; and what is to be unfolded, and at most how deep its subterms stand, by what the facts and the equations give without unfolding
pub record AreAllMade (u : Unfoldings) (facts made : List Literal) (depth : Term → ℕ) : Type 0 where
  pub right : (l : Literal) → Contains made l → IsMade u facts l
  pub reached : (t : Term) → Arises no_unfoldings (facts ++ made) zero t → Arises u facts (depth t) t
  pub first : (t : Term) → Arises no_unfoldings facts zero t → depth t ≤ 0
  pub bodies : (t b : Term) → Arises no_unfoldings (facts ++ made) zero t → depth t < 4 → u.body t ≡ Some b → Contains made (Equal t b)
  pub body_depths : (t b s : Term) → Arises no_unfoldings (facts ++ made) zero t → depth t < 4 → u.body t ≡ Some b → IsWithin s b → depth s ≤ suc (depth t)
  pub cases : (d : ℕ) (c : Identity) (ks : Terms) (t a b : Term) → Arises no_unfoldings (facts ++ made) zero t → Arises no_unfoldings (facts ++ made) zero (term (Constructor c) ks) → depth t ≤ d → depth (term (Constructor c) ks) ≤ d → d < 4 → u.switched t ≡ Some a → Same no_unfoldings (facts ++ made) a (term (Constructor c) ks) → u.case t (term (Constructor c) ks) ≡ Some b → Contains made (Equal t b)
  pub case_depths : (d : ℕ) (c : Identity) (ks : Terms) (t a b s : Term) → Arises no_unfoldings (facts ++ made) zero t → Arises no_unfoldings (facts ++ made) zero (term (Constructor c) ks) → depth t ≤ d → depth (term (Constructor c) ks) ≤ d → d < 4 → u.switched t ≡ Some a → Same no_unfoldings (facts ++ made) a (term (Constructor c) ks) → u.case t (term (Constructor c) ks) ≡ Some b → IsWithin s b → depth s ≤ suc d

-- with all equations made, the closure with unfolding has a conflict exactly where that of facts and equations has one without
abbrev pub UnfoldingsAreEnough : Type 0
UnfoldingsAreEnough = (u : Unfoldings) (facts made : List Literal) (depth : Term → ℕ) → AreAllMade u facts made depth → Conflict u facts ↔ Conflict no_unfoldings (facts ++ made)
