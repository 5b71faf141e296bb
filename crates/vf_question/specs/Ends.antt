-- Why unfolding ends: there are only so many unfoldings that the closure can ask for.
use Rattle.std.specs.Prelude.{ℕ, zero, suc, ◌<◌, ◌==◌, Bool, false, not, ◌&&◌, ◌||◌, List, [], ◌∷◌, ◌++◌, count_by, Option, Some, None}
use Rattle.std.specs.List.{flat_map}
use Rattle.std.specs.Ordering.{is_eq}
use Rattle.vf_closure.specs.Terms.{Term}
use Rattle.vf_closure.specs.Literals.{Literal}
use Rattle.vf_closure.specs.Closure.{Unfoldings}
use Rattle.vf_normal.specs.Order.{compare}
use Rattle.vf_question.specs.Numbered.{with_term, all_terms}
use Rattle.vf_question.specs.declared.unfolding.Unfolding.{Unfolding}
use Rattle.vf_question.specs.Unfolded.{AreRight, IsNext, WasMade}

-- the unfolding of an application at a depth, if there is one
abbrev pub unfolding_to : Term → ℕ → Option Term → List Unfolding
unfolding_to t d None = []
unfolding_to t d (Some b) = record { application = t; body = b; depth = d } ∷ []

-- what an application can be unfolded to at a depth, beside some terms: its body, and its case for each of them
abbrev pub unfoldings_of : Unfoldings → ℕ → List Term → Term → List Unfolding
unfoldings_of u d ts t = unfolding_to t d (u.body t) ++ flat_map (λ k. unfolding_to t d (u.case t k)) ts

-- the terms that can arise at a depth, whatever is equal
abbrev pub reach : Unfoldings → List Literal → ℕ → List Term
reach u facts zero = all_terms facts
reach u facts (suc d) = reach u facts d ++ flat_map (λ m. with_term m.body []) (flat_map (unfoldings_of u d (reach u facts d)) (reach u facts d))

-- the unfoldings that can be asked for at the depths below d
abbrev pub possible_below : Unfoldings → List Literal → ℕ → List Unfolding
possible_below u facts zero = []
possible_below u facts (suc d) = possible_below u facts d ++ flat_map (unfoldings_of u d (reach u facts d)) (reach u facts d)

-- whether two unfoldings are one
abbrev pub is_one : Unfolding → Unfolding → Bool
is_one m n = is_eq (compare m.application n.application) && is_eq (compare m.body n.body) && m.depth == n.depth

-- whether an unfolding was made, at just this depth
abbrev pub is_made : List Unfolding → Unfolding → Bool
is_made [] m = false
is_made (n ∷ ns) m = is_one n m || is_made ns m

-- how many of the unfoldings that can be asked for were not made
abbrev pub missing : Unfoldings → List Literal → List Unfolding → ℕ
missing u facts made = count_by (λ m. not (is_made made m)) (possible_below u facts 4)

-- with each unfolding that comes next and was not made, fewer are missing
abbrev pub UnfoldingEnds : Type 0
UnfoldingEnds =
    (u : Unfoldings) (facts : List Literal) (made : List Unfolding) (m : Unfolding) → AreRight u facts made → IsNext u facts made m → (WasMade made m.application m.body m.depth → ⊥) → missing u facts (made ++ m ∷ []) < missing u facts made
