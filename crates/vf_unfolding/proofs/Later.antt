-- What arises and is equal by some literals does and is so by more.
use Rattle.std.proofs.Common.{ℕ, List}
use Rattle.std.specs.Prelude.{ℤ, Contains}
use Rattle.vf_closure.specs.Terms.{Term, Terms}
use Rattle.vf_closure.specs.Literals.{Literal, Equal, AtMost, Difference}
use Rattle.vf_closure.specs.Closure as c
use Rattle.vf_closure.specs.Closure.{Unfoldings, no_unfoldings, Arises, asked, zero_arises, deeper, in_body, in_case, Same, AllSame, Bound}
use Rattle.vf_question.specs.declared.unfolding.Unfolding.{Unfolding}
use Rattle.vf_question.specs.Unfolded.{IsKnown, in_question, in_unfolding}

module _ (u : Unfoldings) (ls ms : List Literal) (more : (l : Literal) → Contains ls l → Contains ms l) where
  mutual
    pub arises_later : {d : ℕ} {t : Term} → Arises u ls d t → Arises u ms d t
    arises_later (asked {l} {s} h k w) = asked {l = l} {s = s} (more l h) k w
    arises_later zero_arises = zero_arises
    arises_later (deeper l a) = deeper l (arises_later a)
    arises_later (in_body l a b w) = in_body l (arises_later a) b w
    arises_later (in_case l a k s e b w) = in_case l (arises_later a) (arises_later k) s (same_later e) b w

    pub same_later : {a b : Term} → Same u ls a b → Same u ms a b
    same_later (c.given {a} {b} h) = c.given (more (Equal a b) h)
    same_later (c.same_self a) = c.same_self (arises_later a)
    same_later (c.same_back h) = c.same_back (same_later h)
    same_later (c.same_through h k) = c.same_through (same_later h) (same_later k)
    same_later (c.congruent a b h) = c.congruent (arises_later a) (arises_later b) (all_later h)
    same_later (c.injective h n p q) = c.injective (same_later h) n p q
    same_later (c.squeezed i j h k) = c.squeezed i j (bound_later h) (bound_later k)
    same_later (c.unfolds l a e) = c.unfolds l (arises_later a) e
    same_later (c.unfolds_case l a k s q e) = c.unfolds_case l (arises_later a) (arises_later k) s (same_later q) e

    all_later : {xs ys : Terms} → AllSame u ls xs ys → AllSame u ms xs ys
    all_later c.no_more = c.no_more
    all_later (c.one_more h k) = c.one_more (same_later h) (all_later k)

    bound_later : {x y : Term} {n : ℤ} → Bound u ls x y n → Bound u ms x y n
    bound_later (c.most {x} {y} {c = n} h) = c.most (more (AtMost x y n) h)
    bound_later (c.difference_up {x} {y} {c = n} h) = c.difference_up (more (Difference x y n) h)
    bound_later (c.difference_down {x} {y} {c = n} h) = c.difference_down (more (Difference x y n) h)
    bound_later (c.still i a) = c.still i (arises_later a)
    bound_later (c.weaker l h) = c.weaker l (bound_later h)
    bound_later (c.chain h k) = c.chain (bound_later h) (bound_later k)
    bound_later (c.sum_up a) = c.sum_up (arises_later a)
    bound_later (c.sum_down a) = c.sum_down (arises_later a)
    bound_later (c.number_up a) = c.number_up (arises_later a)
    bound_later (c.number_down a) = c.number_down (arises_later a)
    bound_later (c.level i j h) = c.level i j (same_later h)

-- what is known stays known
pub known_later : (ls ms : List Literal) (more : (l : Literal) → Contains ls l → Contains ms l) (made : List Unfolding) (t : Term) → IsKnown ls made t → IsKnown ms made t
known_later ls ms more made t (in_question a) = in_question (arises_later no_unfoldings ls ms more a)
known_later ls ms more made t (in_unfolding c w) = in_unfolding c w
